use native.Mathlib.Omega.{arith}
use native.Mathlib.Numerals.{unary_clauses}
use mathlib.Core.Path.{refl, ◌∙◌}
use Rattle.design.proofs.Told.{handed_on}
use Rattle.design.proofs.Items.{items_none, items_refused, items_next, event_ends}
use Rattle.design.proofs.item.Items.check_matrix_events.Goals as goal

pub loop-init : goal.loop-init
loop-init c = (omega arith, simp unary_clauses refl)

pub loop-preserved : goal.loop-preserved
loop-preserved c =
    let g = event_ends _ _ _ _ _ c.in_ok-p.ensures in (g.1, items_next _ _ _ _ _ (omega arith) c.in_ok-p.ensures ∙ c.loop.invariant.1)

pub returns-in_err-p : goal.returns-in_err-p
returns-in_err-p c =
    handed_on _ _ c.from_residual.ensures.1 _ (items_refused _ _ _ _ _ (omega arith) c.in_err-p.ensures ∙ c.loop.invariant.1)

pub returns : goal.returns
returns c = items_none _ _ _ (omega arith) ∙ c.loop.invariant.1
