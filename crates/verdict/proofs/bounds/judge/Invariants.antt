use Rattle.verdict.specs.Loop.{AtBound}
use Rattle.verdict.proofs.bounds.judge.Given as goal

abbrev pub invariant-loop-i : goal.invariant-loop-i
invariant-loop-i l = AtBound l.file l.piece l.property l.bound l.budget
    (record { clauses = l.initial.clauses; values = l.initial.values; trail = l.initial.trail; choices = l.initial.choices }) l.i l.tries l.clauses
    l.values l.trail l.choices
