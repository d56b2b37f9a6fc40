use native.Mathlib.Omega.{arith}
use native.Mathlib.Numerals.{unary_clauses}
use mathlib.Core.Path.{refl, ◌∙◌}
use Rattle.design.proofs.Told.{handed_on}
use Rattle.design.proofs.Items.{count_none, count_refused, variable_next, variable_ends}
use Rattle.design.proofs.section.check_variables.Goals as goal
use Rattle.design.proofs.section.check_variables.Goals.{then-file-p, else-file-p}

pub loop-init : goal.loop-init
loop-init c = (omega arith, omega arith, simp unary_clauses refl)

pub bounds-file-p : goal.bounds-file-p
bounds-file-p c = let g = variable_ends _ _ _ _ c.in_ok-n.ensures in omega arith

pub loop-preserved : goal.loop-preserved
loop-preserved c =
    let g = variable_ends _ _ _ _ c.in_ok-n.ensures in
    elim c.if-file-p.branch [
      | then-file-p w ↦ (
        g.1,
        omega arith,
        variable_next _ _ _ _ _ _ _ (omega arith) c.in_ok-n.ensures _ (λ q. omega arith) (λ q. absurd (q w.if-file-p.true)) ∙ c.loop.invariant.2,
      )
      | else-file-p w ↦ (
        g.1,
        omega arith,
        variable_next _ _ _ _ _ _ _ (omega arith) c.in_ok-n.ensures _ (λ q. absurd (w.if-file-p.false q)) (λ q. omega arith) ∙ c.loop.invariant.2,
      )
    ]

pub returns-in_err-n : goal.returns-in_err-n
returns-in_err-n c =
    handed_on _ _ c.from_residual.ensures.1 _ (count_refused _ _ _ _ _ _ _ (omega arith) c.in_err-n.ensures ∙ c.loop.invariant.2)

pub returns : goal.returns
returns c = count_none _ _ _ _ _ (omega arith) ∙ c.loop.invariant.2
