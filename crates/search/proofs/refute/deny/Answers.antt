use mathlib.Core.Path.{sym, ◌∙◌}
use Rattle.search.proofs.Denying.{denying_start, denying_next}
use Rattle.search.proofs.refute.deny.Goals as goal

pub loop-i-init : goal.loop-i-init
loop-i-init c = denying_start c.requires.1 c.requires.2

pub loop-i-preserved : goal.loop-i-preserved
loop-i-preserved c =
    denying_next c.loop-i.invariant (sym c.ends.ensures ∙ c.if-ends.false) c.requires.0 c.variable-v.ensures c.sign-x.ensures c.if-values-v.false
