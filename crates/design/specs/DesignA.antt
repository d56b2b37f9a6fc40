-- Document 01's Design A by computation: its 73 bytes give its tree, and a damaged byte or length gives refusals 1 to 9.
use Rattle.std.specs.Prelude.{◌≡◌, refl, true, List, [], ◌∷◌, map, ℕ, set, take, length}
use Rattle.design.specs.Tree.{Stmts, Design, variable_b, constant_b, less, variable, constant, sum, assign, done, then, external, integer}
use Rattle.design.specs.Check.{accepted, check, checking, refusal}
use Rattle.design.specs.Refusal.{Refusal}

-- Variables: external 0, integer c = 0. One matrix, 2 statuses, event 11 00. Cells (0,0,0) to 1, no guard; (0,1,0) to 0, guard c < 2; both do c = c + 1. Invariant c < 2.
unfoldable pub bytes_a : List ℕ
bytes_a =
    0x02 ∷ 0x00 ∷ 0x00 ∷
    0x01 ∷ 0x00 ∷ 0x00 ∷
    0x02 ∷ 0x01 ∷
    0x02 ∷ 0x11 ∷ 0x00 ∷
    0x00 ∷ 0x00 ∷ 0x00 ∷ 0x00 ∷ 0x01 ∷ 0x00 ∷ 0x09 ∷ 0x00 ∷
    0x01 ∷ 0x20 ∷ 0x01 ∷ 0x04 ∷ 0x02 ∷ 0x01 ∷ 0x01 ∷ 0x01 ∷ 0x00 ∷
    0x00 ∷ 0x01 ∷ 0x00 ∷ 0x00 ∷ 0x00 ∷ 0x06 ∷ 0x09 ∷ 0x00 ∷
    0x16 ∷ 0x02 ∷ 0x01 ∷ 0x01 ∷ 0x02 ∷ 0x00 ∷
    0x01 ∷ 0x20 ∷ 0x01 ∷ 0x04 ∷ 0x02 ∷ 0x01 ∷ 0x01 ∷ 0x01 ∷ 0x00 ∷
    0x16 ∷ 0x02 ∷ 0x01 ∷ 0x01 ∷ 0x02 ∷ 0x00 ∷
    0x01 ∷ 0x00 ∷ 0x02 ∷ 0x00 ∷ 0x06 ∷ 0x00 ∷ 0x01 ∷ 0x00 ∷ 0x08 ∷ 0x00 ∷ 0x0b ∷ 0x00 ∷ 0x02 ∷ 0x00 ∷ 0x33 ∷ 0x00 ∷ []

unfoldable pub count : Stmts
count = then (assign 1 (sum (variable 1) (constant 1))) done

unfoldable pub design_a : Design
unfolding count
design_a = record {
  variables = record { kind = external; initial = 0 } ∷ record { kind = integer; initial = 0 } ∷ [];
  statuses = 2 ∷ [];
  cells =
      record { matrix = 0; status = 0; event = variable_b 0; target = 1; guard = constant_b true; action = count } ∷
      record { matrix = 0; status = 1; event = variable_b 0; target = 0; guard = less (variable 1) (constant 2); action = count } ∷ [];
  invalid = [];
  invariant = less (variable 1) (constant 2);
  constraint = constant_b true;
}

-- a piece for it (document 02, R-4): not (0 < c)
unfoldable pub piece_a : List ℕ
piece_a = 0x12 ∷ 0x16 ∷ 0x01 ∷ 0x00 ∷ 0x00 ∷ 0x02 ∷ 0x01 ∷ []

pub length_a : length bytes_a ≡ 73
unfolding bytes_a
length_a = refl

pub check_a : check bytes_a ≡ accepted design_a
unfolding checking bytes_a design_a count
check_a = refl

-- a file with another byte at a position, and the refusal of that
pub record Damage : Type 0 where
  pub position : ℕ
  pub byte : ℕ
  pub gets : Refusal

abbrev pub damaged : List ℕ → Damage → Refusal
damaged file x = refusal (check (set file x.position x.byte))

abbrev pub at : ℕ → ℕ → Refusal
at number place = record { number = number; place = place }

-- version 3; version 2, where the invariant's last bytes are an offset before it; 33 variables; matrices at 7; kind 3; no status; a second cell of matrix 1; an integer
-- as event; statement 22; the next state in the invariant
damages : List Damage
damages =
    record { position = 57; byte = 3; gets = at 2 57 } ∷
    record { position = 57; byte = 2; gets = at 4 51 } ∷
    record { position = 59; byte = 33; gets = at 3 57 } ∷
    record { position = 61; byte = 7; gets = at 4 6 } ∷
    record { position = 0; byte = 3; gets = at 5 0 } ∷
    record { position = 6; byte = 0; gets = at 6 6 } ∷
    record { position = 28; byte = 1; gets = at 7 28 } ∷
    record { position = 10; byte = 1; gets = at 8 8 } ∷
    record { position = 20; byte = 0x22; gets = at 9 11 } ∷
    record { position = 51; byte = 0x17; gets = at 8 51 } ∷ []

damages_a : map (damaged bytes_a) damages ≡ map (λ (x : Damage). x.gets) damages
unfolding checking bytes_a damages
damages_a = refl

short_a : refusal (check (take 15 bytes_a)) ≡ at 1 15
unfolding checking bytes_a
short_a = refl
