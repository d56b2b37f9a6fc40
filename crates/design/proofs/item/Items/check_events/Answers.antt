use Prim.Native.Nat.{◌-◌}
use native.Mathlib.Omega.{arith}
use native.Mathlib.Numerals.{unary_clauses}
use mathlib.Core.Path.{refl, ◌∙◌}
use Rattle.design.proofs.Told.{handed_on}
use Rattle.design.proofs.Items.{rows_none, rows_refused, rows_next, row_ends}
use Rattle.design.proofs.item.Items.check_events.Goals as goal

pub loop-m-init : goal.loop-m-init
loop-m-init c = (omega arith, simp unary_clauses refl)

pub loop-m-preserved : goal.loop-m-preserved
loop-m-preserved c =
    let g = row_ends _ _ _ _ _ (c.args.self.shape.matrices - c.loop-m.m) c.loop-m.p _ (omega arith) c.wide-count.ensures.0 _ (omega arith) c.in_ok-p.ensures in
    (g, rows_next _ _ _ _ _ _ _ _ (omega arith) c.wide-count.ensures.0 _ c.in_ok-p.ensures ∙ c.loop-m.invariant.1)

pub returns-in_err-p : goal.returns-in_err-p
returns-in_err-p c =
    handed_on _ _ c.from_residual.ensures.1 _ (rows_refused _ _ _ _ _ _ _ _ (omega arith) c.wide-count.ensures.0 _ _ c.in_err-p.ensures ∙ c.loop-m.invariant.1)

pub returns : goal.returns
returns c = rows_none _ _ _ _ _ _ _ (omega arith) ∙ c.loop-m.invariant.1
