-- A property kept outside the design (document 02, R-4). A piece, the document's term, is bytes that are lent to a call beside the file: "REPLAY, SIZE, ENCODE, DECODE and VERDICT gain
-- a lent piece."
use Rattle.std.specs.Prelude.{ℕ, zero, suc, Bool, true, false, ◌&&◌, List, [], ◌∷◌, length, ◌==◌, nat_le}
use Rattle.design.specs.Tree.{BoolExpr, constant_b, Design}
use Rattle.design.specs.Limits.{max_bytes, max_depth}
use Rattle.design.specs.Reading.{Read, got, bad}
use Rattle.design.specs.Expression.{bool_expr}
use Rattle.design.specs.Check.{names}

-- the piece that has no bytes; HOLDS and the programs, which take none, judge as with this one
abbrev pub no_piece : List ℕ
no_piece = []

-- A piece is read as an invariant is: it names the design's variables and matrices, reads no next state, and is no deeper. Its first byte is at 0.
abbrev pub piece_read : List ℕ → List ℕ → Read BoolExpr
piece_read file piece = bool_expr piece (names file) (length piece) max_depth 0

-- "one Boolean expression filling its length"
abbrev pub fills : ℕ → Read BoolExpr → Bool
fills bytes (got e n) = n == bytes
fills bytes bad = false

-- whether a call takes the piece: "With property 0, a nonempty piece that is not one Boolean expression filling its length, or is over 16,384 bytes, gets refusal 8 at place 0"; "For other
-- properties the piece is not read."
unfoldable pub piece_right : List ℕ → List ℕ → ℕ → Bool
piece_right file [] p = true
piece_right file (b ∷ bs) zero = nat_le (length (b ∷ bs)) max_bytes && fills (length (b ∷ bs)) (piece_read file (b ∷ bs))
piece_right file (b ∷ bs) (suc p) = true

-- the tree that was read; where there is none, where bytes follow it or where the piece is too long, the call is refused (8), so it matters not what stands here
abbrev pub tree_in : Read BoolExpr → BoolExpr
tree_in (got e n) = e
tree_in bad = constant_b false

-- "For property 0 the expression is taken from the lent property or from the design: from the piece if it has any bytes, else from the file."
unfoldable pub expression_of : List ℕ → List ℕ → Design → BoolExpr
expression_of file [] d = d.invariant
expression_of file (b ∷ bs) d = tree_in (piece_read file (b ∷ bs))
