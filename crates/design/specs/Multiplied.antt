-- A design with products by a constant (document 02, R-2) by computation. An integer v, first 1, and one matrix with a status and an event, which is always true: the
-- cell triples v, and the invariant is -20 < -3 * v.
use Rattle.std.specs.Prelude.{◌≡◌, refl, true, List, [], ◌∷◌, ℕ}
use Rattle.design.specs.Tree.{Design, constant_b, less, variable, constant, product, assign, done, then, integer}
use Rattle.design.specs.Check.{accepted, check, checking}

unfoldable pub bytes_multiplied : List ℕ
bytes_multiplied =
    0x01 ∷ 0x01 ∷ 0x00 ∷
    0x01 ∷ 0x01 ∷
    0x02 ∷ 0x10 ∷ 0x01 ∷
    0x00 ∷ 0x00 ∷ 0x00 ∷ 0x00 ∷ 0x00 ∷ 0x00 ∷ 0x08 ∷ 0x00 ∷
    0x01 ∷ 0x20 ∷ 0x00 ∷ 0x08 ∷ 0x03 ∷ 0x00 ∷ 0x02 ∷ 0x00 ∷
    0x16 ∷ 0x01 ∷ 0xec ∷ 0xff ∷ 0x08 ∷ 0xfd ∷ 0xff ∷ 0x02 ∷ 0x00 ∷
    0x01 ∷ 0x00 ∷ 0x01 ∷ 0x00 ∷ 0x03 ∷ 0x00 ∷ 0x01 ∷ 0x00 ∷ 0x05 ∷ 0x00 ∷ 0x08 ∷ 0x00 ∷ 0x01 ∷ 0x00 ∷ 0x18 ∷ 0x00 ∷ []

-- -20 and -3 are the patterns 65516 and 65533
unfoldable pub design_multiplied : Design
design_multiplied = record {
  variables = record { kind = integer; initial = 1 } ∷ [];
  statuses = 1 ∷ [];
  cells = record { matrix = 0; status = 0; event = constant_b true; target = 0; guard = constant_b true; action = then (assign 0 (product 3 (variable 0))) done } ∷ [];
  invalid = [];
  invariant = less (constant 65516) (product 65533 (variable 0));
  constraint = constant_b true;
}

pub check_multiplied : check bytes_multiplied ≡ accepted design_multiplied
unfolding checking bytes_multiplied design_multiplied
check_multiplied = refl
