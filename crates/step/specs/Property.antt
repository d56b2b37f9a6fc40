-- The properties of a design (document 01, "One step"; document 02, R-1 and R-4), and which of them a call's piece and number name. When one is true, the mark (R-5) included, is said in
-- OneStep (`true_at`).
use Rattle.std.specs.Prelude.{ℕ, zero, suc, List, ◌++◌}
use Rattle.design.specs.Tree.{BoolExpr, Design}
use Rattle.design.specs.State.{layout, widths}
use Rattle.design.specs.WellFormed.{BoolOk}
use Rattle.step.specs.Piece.{expression_of}

-- "Property 0 is the invariant. Property 1: at no invalid cell do status and event hold together." Property 2 is the constraint, of two successive states. With a piece property 0 is its
-- expression in the invariant's place (document 02, R-4).
pub data Property : Type 0 where
  invariant : BoolExpr → Property
  no_invalid_cell : Property
  constraint : BoolExpr → Property

-- A call refuses a number over 2, or over 1 where the file has no constraint (13), so it matters not what such a number names, nor what a refused piece (8) does.
-- Of the file, the piece, and the design that the file is read as. "For other properties the piece is not read."
unfoldable pub property_of : List ℕ → List ℕ → Design → ℕ → Property
property_of file piece d zero = invariant (expression_of file piece d)
property_of file piece d (suc zero) = no_invalid_cell
property_of file piece d (suc (suc p)) = constraint d.constraint

-- what laws about a property rely on: its expression names what the design has
unfoldable pub PropertyOk : Design → Property → Type 0
PropertyOk d (invariant e) = BoolOk (widths d) (layout d) e
PropertyOk d no_invalid_cell = Unit {0}
PropertyOk d (constraint e) = BoolOk (widths d ++ widths d) (layout d) e
