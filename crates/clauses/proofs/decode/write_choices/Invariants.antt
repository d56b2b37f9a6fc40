use Rattle.clauses.proofs.FlagChoices.{Writing}
use Rattle.clauses.proofs.decode.write_choices.Given as goal

abbrev pub invariant-loop-choice : goal.invariant-loop-choice
invariant-loop-choice l = Writing l.values l.size l.w l.k l.base l.at l.choice-index l.choice-items
