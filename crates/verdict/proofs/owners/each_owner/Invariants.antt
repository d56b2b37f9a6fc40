use Rattle.verdict.proofs.OwnersLoop.{SoFar}
use Rattle.verdict.proofs.owners.each_owner.Given as goal

abbrev pub invariant-loop-i : goal.invariant-loop-i
invariant-loop-i l = SoFar l.file l.bound l.count l.pieces l.budgets
    (record { clauses = l.initial.clauses; values = l.initial.values; trail = l.initial.trail }) l.initial.choices l.initial.answers l.i
    (record { clauses = l.clauses; values = l.values; trail = l.trail }) l.choices l.answers
