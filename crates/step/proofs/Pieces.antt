-- The piece: what is read of it, and the text that holds property 0's expression. Assumes nothing.
use Rattle.std.proofs.Common.{◌≡◌, ℕ, zero, suc, ◌-◌, ◌<◌, ◌≤◌, Bool, true, false, ◌&&◌, eqb, leb, List, [], ◌∷◌, length, take, drop, sym, refl, ap, ◌∙◌, subst, ap₂, arith, length-drop, length-take-le, eqb-true, le-leb, leb-true}
use mathlib.Core.Bool.{false≢true}
use borrow.Author.Tests.{lt-leb}
use Rattle.design.specs.Tree.{BoolExpr, Design}
use Rattle.design.specs.State.{State, Layout}
use Rattle.design.specs.Limits.{max_bytes, max_depth}
use Rattle.design.specs.Reading.{Read, got, bad}
use Rattle.design.specs.Expression.{Names, with_later, bool_expr}
use Rattle.design.specs.Check.{names, names_of, trailer_counts, invariant_offset, constraint_offset}
use Rattle.design.specs.Answers.{found, shape_of}
use Rattle.design.specs.Places.{Accepted, Shaped}
use Rattle.design.specs.Sections.{Parts}
use Rattle.std.specs.Prelude.{Option, Some}
use Rattle.std.specs.Option.{option_eq}
use Rattle.design.specs.declared.shape.Shape.{Shape}
use Rattle.design.proofs.Sections.{and_inv}
use Rattle.design.proofs.Moved.{bool_in_part}
use Rattle.design.proofs.Places.{read}
use Rattle.design.proofs.Positions.{expressions_order, invariant_stands}
use Rattle.design.proofs.Indexed.{names_here}
use Rattle.step.specs.Evaluation.{eval_bool}
use Rattle.step.specs.Accepted.{is_read, bool_value}
use Rattle.step.specs.Piece.{no_piece, piece_read, fills, piece_right, tree_in, expression_of}
use Rattle.step.specs.Ready.{expression_text}

-- what the tests of a piece come to, by what the code found
filled : (bytes : ℕ) (r : Read BoolExpr) → fills bytes r ≡ true → r ≡ got (tree_in r) bytes
filled bytes (got e n) t = ap (got e) (eqb-true n bytes t)
filled bytes bad t = absurd (false≢true t)

fills_found : (bytes : ℕ) (r : Read BoolExpr) → option_eq eqb (found r) (Some bytes) ≡ fills bytes r
fills_found bytes (got e n) = refl
fills_found bytes bad = refl

-- the tests of the code, in order
module _ (file piece : List ℕ) (p : ℕ) where
  pub piece_unread : 0 < p → true ≡ piece_right file piece p
  unfolding piece_right
  piece_unread l = go piece p l
    where
      go : (piece : List ℕ) (p : ℕ) → 0 < p → true ≡ piece_right file piece p
      go [] p l = refl
      go (b ∷ bs) zero l = absurd (omega arith)
      go (b ∷ bs) (suc p) l = refl

  pub piece_empty : length piece ≡ 0 → true ≡ piece_right file piece p
  unfolding piece_right
  piece_empty e = go piece e
    where
      go : (piece : List ℕ) → length piece ≡ 0 → true ≡ piece_right file piece p
      go [] e = refl
      go (b ∷ bs) e = absurd (omega arith)

  module _ (z : p ≤ 0) (some : length piece ≡ 0 → ⊥) where
    tests : piece_right file piece p ≡ (leb (length piece) max_bytes && fills (length piece) (piece_read file piece))
    unfolding piece_right
    tests = go piece p z some
      where
        go : (piece : List ℕ) (p : ℕ) → p ≤ 0 → (length piece ≡ 0 → ⊥) → piece_right file piece p ≡ (leb (length piece) max_bytes && fills (length piece) (piece_read file piece))
        go [] p l s = absurd (s refl)
        go (b ∷ bs) zero l s = refl
        go (b ∷ bs) (suc p) l s = absurd (omega arith)

    pub piece_long : max_bytes < length piece → false ≡ piece_right file piece p
    piece_long l = sym (tests ∙ ap (λ (t : Bool). t && fills (length piece) (piece_read file piece)) (lt-leb (length piece) max_bytes l))

    module _ (short : length piece ≤ max_bytes) where
      here : piece_right file piece p ≡ fills (length piece) (piece_read file piece)
      here = tests ∙ ap (λ (t : Bool). t && fills (length piece) (piece_read file piece)) (le-leb (length piece) max_bytes short)

      module _ (h : Shape) (e : h ≡ shape_of (trailer_counts file)) where
        same : found (bool_expr piece (with_later false (names_of file h)) (length piece) max_depth 0) ≡ found (piece_read file piece)
        same = ap (λ (x : Shape). found (bool_expr piece (with_later false (names_of file x)) (length piece) max_depth 0)) e

        pub piece_found : (o : Option ℕ) → o ≡ found (bool_expr piece (with_later false (names_of file h)) (length piece) max_depth 0) → option_eq eqb o (Some (length piece)) ≡ piece_right file piece p
        piece_found o q = ap (λ (x : Option ℕ). option_eq eqb x (Some (length piece))) (q ∙ same) ∙ fills_found (length piece) (piece_read file piece) ∙ sym here

-- the piece that has no bytes is right
pub no_piece_right : (file : List ℕ) (p : ℕ) → piece_right file no_piece p ≡ true
unfolding piece_right
no_piece_right file p = refl

-- the invariant stands inside the file
pub part_inside : (file : List ℕ) → Accepted file → (a e : ℕ) → a ≡ invariant_offset file → e ≡ constraint_offset file → (a ≤ e) × (e ≤ length file)
part_inside file h a e p q =
    let t = read file h in
    let o = expressions_order file t.tree t.all.parts in
    (omega arith, omega arith)

-- the text that the code answers
module _ (file piece : List ℕ) where
  pub text_piece : 0 < length piece → piece ≡ expression_text file piece
  unfolding expression_text
  text_piece = go piece
    where
      go : (piece : List ℕ) → 0 < length piece → piece ≡ expression_text file piece
      go [] l = absurd (omega arith)
      go (b ∷ bs) l = refl

  pub text_part : length piece ≤ 0 → (a e : ℕ) → a ≡ invariant_offset file → e ≡ constraint_offset file → take (e - a) (drop a file) ≡ expression_text file piece
  unfolding expression_text
  text_part l a e p q = ap₂ (λ (i j : ℕ). take (j - i) (drop i file)) p q ∙ go piece l
    where
      go : (piece : List ℕ) → length piece ≤ 0 → take (constraint_offset file - invariant_offset file) (drop (invariant_offset file) file) ≡ expression_text file piece
      go [] l = refl
      go (b ∷ bs) l = absurd (omega arith)

-- the text of property 0's expression, of a piece that is right: it is read as the expression, which fills it
module _ (file piece : List ℕ) (a : Accepted file) (t : piece_right file piece 0 ≡ true) where
  part_long : length (expression_text file []) ≡ constraint_offset file - invariant_offset file
  unfolding expression_text
  part_long =
      let tree = read file a in
      let e = expressions_order file tree.tree tree.all.parts in
      length-take-le (constraint_offset file - invariant_offset file) (drop (invariant_offset file) file) (omega (arith, length-drop (invariant_offset file) file))

  pub text_short : length (expression_text file piece) ≤ max_bytes
  unfolding expression_text piece_right
  text_short = go piece t
    where
      go : (piece : List ℕ) → piece_right file piece 0 ≡ true → length (expression_text file piece) ≤ max_bytes
      go [] t = let b = (read file a).all.short in let tree = read file a in let e = expressions_order file tree.tree tree.all.parts in omega (arith, part_long)
      go (b ∷ bs) t = leb-true (length (b ∷ bs)) max_bytes (and_inv (leb (length (b ∷ bs)) max_bytes) _ t).0

  pub text_got : (d : Design) (w : Parts file d) → bool_expr (expression_text file piece) (names file) (length (expression_text file piece)) max_depth 0 ≡ got (expression_of file piece d) (length (expression_text file piece))
  unfolding expression_text expression_of piece_right
  text_got d w = go piece t
    where
      go : (piece : List ℕ) → piece_right file piece 0 ≡ true → bool_expr (expression_text file piece) (names file) (length (expression_text file piece)) max_depth 0 ≡ got (expression_of file piece d) (length (expression_text file piece))
      go [] t =
          subst (λ (n : ℕ). bool_expr (expression_text file []) (names file) n max_depth 0 ≡ got d.invariant n) (sym part_long)
          (bool_in_part file (names file) (invariant_offset file) (constraint_offset file) max_depth d.invariant (expressions_order file d w).0 (invariant_stands file d w))
      go (b ∷ bs) t = filled (length (b ∷ bs)) (piece_read file (b ∷ bs)) (and_inv (leb (length (b ∷ bs)) max_bytes) _ t).1

  -- by the names of the shape, of what the code has for the text
  module _ (h : Shape) (s : Shaped file h) (text : List ℕ) (e : text ≡ expression_text file piece) where
    abbrev N : Names
    N = names_of file h

    pub short : length text ≤ max_bytes
    short = subst (λ (x : List ℕ). length x ≤ max_bytes) (sym e) text_short

    pub expression_got : (d : Design) (w : Parts file d) → bool_expr text N (length text) max_depth 0 ≡ got (expression_of file piece d) (length text)
    expression_got d w =
        subst (λ (x : List ℕ). bool_expr x N (length x) max_depth 0 ≡ got (expression_of file piece d) (length x)) (sym e)
        (ap (λ (y : Names). bool_expr (expression_text file piece) y (length (expression_text file piece)) max_depth 0) (names_here file a h s) ∙ text_got d w)

    pub expression_some : (x : BoolExpr) × (bool_expr text N (length text) max_depth 0 ≡ got x (length text))
    expression_some = let tree = read file a in (expression_of file piece tree.tree, expression_got tree.tree tree.all.parts)

    pub expression_reads : is_read (bool_expr text N (length text) max_depth 0) ≡ true
    expression_reads = ap is_read expression_some.1

    pub expression_value : (l : Layout) (slots : State) (r : Bool) → r ≡ bool_value l slots (bool_expr text N (length text) max_depth 0) → (d : Design) (w : Parts file d) → r ≡ eval_bool l slots (expression_of file piece d)
    expression_value l slots r v d w = v ∙ ap (bool_value l slots) (expression_got d w)
