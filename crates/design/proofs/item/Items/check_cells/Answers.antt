use native.Mathlib.Omega.{arith}
use native.Mathlib.Numerals.{unary_clauses}
use mathlib.Core.Path.{refl, ◌∙◌}
use Rattle.design.proofs.Told.{handed_on}
use Rattle.design.specs.Tree.{constant_b}
use Rattle.design.proofs.Cells.{cells_none, cells_refused, cells_next, cell_ends}
use mathlib.Core.Bool.{true}
use Rattle.design.proofs.item.Items.check_cells.Goals as goal
use Rattle.design.proofs.item.Items.check_cells.Goals.{then-self-p, else-self-p}

pub loop-init : goal.loop-init
loop-init c = (omega arith, omega arith, omega arith, λ f. simp unary_clauses refl)

pub loop-preserved : goal.loop-preserved
loop-preserved c =
    let g = cell_ends _ _ _ _ (λ m x. constant_b true) _ _ _ (c.in_ok-n.ensures (λ m x. constant_b true)) in
    elim c.if-self-p.branch [
      | then-self-p w ↦ (
        omega arith,
        g.1,
        omega arith,
        λ f. cells_next _ _ _ _ f _ _ _ _ _ (omega arith) _ _ (c.in_ok-n.ensures f) (λ q. omega arith) (λ q. absurd (q w.if-self-p.true)) ∙ c.loop.invariant.3 f,
      )
      | else-self-p w ↦ (
        omega arith,
        g.1,
        omega arith,
        λ f. cells_next _ _ _ _ f _ _ _ _ _ (omega arith) _ _ (c.in_ok-n.ensures f) (λ q. absurd (w.if-self-p.false q)) (λ q. omega arith) ∙ c.loop.invariant.3 f,
      )
    ]

pub returns-in_err-n : goal.returns-in_err-n
returns-in_err-n c =
    λ f. handed_on _ _ c.from_residual.ensures.1 _ (cells_refused _ _ _ _ f _ _ _ _ (omega arith) _ _ (c.in_err-n.ensures f) ∙ c.loop.invariant.3 f)

pub returns : goal.returns
returns c = λ f. cells_none _ _ _ _ f _ _ _ _ (omega arith) ∙ c.loop.invariant.3 f
