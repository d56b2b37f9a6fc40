-- The properties of an accepted design are well formed. Assumes only that bytes are bytes.
use Rattle.std.proofs.Common.{◌≡◌, ℕ, zero, suc, ◌<◌, List, [], ◌∷◌, length, get_or, sym, refl}
use Rattle.design.specs.Tree.{Design}
use Rattle.design.specs.State.{layout, widths}
use Rattle.design.specs.Limits.{max_depth}
use Rattle.design.specs.Reading.{Read, got, bad}
use Rattle.design.specs.Tree.{BoolExpr}
use Rattle.design.specs.Check.{check, accepted}
use Rattle.design.specs.WellFormed.{BoolOk}
use Rattle.design.proofs.Sections.{whole}
use Rattle.design.proofs.WellFormed.{well_formed, expression_ok}
use Rattle.step.specs.Piece.{piece_read, tree_in, expression_of}
use Rattle.step.specs.Property.{property_of, PropertyOk}

-- of the file, the piece and the design that is read
module _ (file piece : List ℕ) (bytes : (i : ℕ) → get_or file i 0 < 256) (all : (i : ℕ) → get_or piece i 0 < 256) (d : Design) (c : check file ≡ accepted d) where
  -- also where a piece is no expression: it is refused, and what stands for it names nothing
  tree_ok : (r : Read BoolExpr) → r ≡ piece_read file piece → BoolOk (widths d) (layout d) (tree_in r)
  tree_ok (got e n) q = expression_ok file bytes d (whole file d c).parts piece all (length piece) max_depth 0 e n (sym q)
  tree_ok bad q = tt

  pub property_ok : (p : ℕ) → PropertyOk d (property_of file piece d p)
  unfolding PropertyOk property_of expression_of
  property_ok zero = go piece tree_ok
    where
      go : (x : List ℕ) → ((r : Read BoolExpr) → r ≡ piece_read file x → BoolOk (widths d) (layout d) (tree_in r)) → BoolOk (widths d) (layout d) (expression_of file x d)
      go [] h = (well_formed file bytes d c).invariant
      go (b ∷ bs) h = h (piece_read file (b ∷ bs)) refl
  property_ok (suc zero) = tt
  property_ok (suc (suc p)) = (well_formed file bytes d c).constraint
