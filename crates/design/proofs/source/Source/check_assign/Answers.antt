use Rattle.design.proofs.Readers.{assign_past, assign_nothing, assign_int, assign_flag}
use mathlib.Core.Path.{◌∙◌}
use Rattle.design.proofs.source.Source.check_assign.Goals as goal

pub returns-then-self-at : goal.returns-then-self-at
returns-then-self-at c = assign_past _ _ _ _ c.if-self-at.true

pub returns-then-self-v : goal.returns-then-self-v
returns-then-self-v c = assign_nothing _ _ _ _ c.if-self-at.false c.if-self-v.true

pub returns-then-k : goal.returns-then-k
returns-then-k c =
    c.check_int.ensures ∙ assign_int _ _ _ _ c.if-self-at.false c.if-self-v.false c.if-k.true

pub returns-else-k : goal.returns-else-k
returns-else-k c =
    c.check_bool.ensures ∙ assign_flag _ _ _ _ c.if-self-at.false c.if-self-v.false c.if-k.false
