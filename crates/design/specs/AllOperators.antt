-- A design of version 2 that uses every operator, both kinds of cell and both kinds of statement: its bytes give its tree by computation.
-- CHECK's answer alone does not say which tree was read; this pins what each operator byte means.
use Rattle.std.specs.Prelude.{◌≡◌, refl, true, false, List, [], ◌∷◌, map, ℕ, drop}
use Rattle.design.specs.Tree.{Design, constant, variable, status, sum, difference, product, constant_b, variable_b, not_b, and_b, or_b, equal, less, assign, assign_b, if_else, done, then, boolean, integer, external}
use Rattle.design.specs.Check.{accepted, check, refusal, checking}
use Rattle.design.specs.DesignA.{Damage, damaged, at}

-- Variables: Boolean 1, integer -1, external 0. One matrix, 2 statuses, 2 events. Cells (0,0,0) to 1 with a guard and an if; (0,1,1) invalid.
unfoldable bytes : List ℕ
bytes =
    0x00 ∷ 0x01 ∷ 0x00 ∷
    0x01 ∷ 0xff ∷ 0xff ∷
    0x02 ∷ 0x00 ∷ 0x00 ∷
    0x02 ∷ 0x02 ∷
    0x06 ∷ 0x13 ∷ 0x11 ∷ 0x00 ∷ 0x12 ∷ 0x10 ∷ 0x00 ∷
    0x08 ∷ 0x14 ∷ 0x11 ∷ 0x02 ∷ 0x15 ∷ 0x03 ∷ 0x00 ∷ 0x02 ∷ 0x01 ∷
    0x00 ∷ 0x00 ∷ 0x00 ∷ 0x00 ∷ 0x01 ∷ 0x0c ∷ 0x12 ∷ 0x00 ∷
    0x16 ∷ 0x05 ∷ 0x08 ∷ 0xfe ∷ 0xff ∷ 0x02 ∷ 0x01 ∷ 0x01 ∷ 0x03 ∷ 0x00 ∷ 0x02 ∷ 0x01 ∷
    0x01 ∷ 0x21 ∷ 0x11 ∷ 0x00 ∷
    0x01 ∷ 0x20 ∷ 0x01 ∷ 0x04 ∷ 0x02 ∷ 0x01 ∷ 0x01 ∷ 0x01 ∷ 0x00 ∷
    0x01 ∷ 0x20 ∷ 0x02 ∷ 0x10 ∷ 0x01 ∷
    0x00 ∷ 0x01 ∷ 0x01 ∷ 0x01 ∷ 0x00 ∷ 0x00 ∷ 0x00 ∷ 0x00 ∷
    0x16 ∷ 0x02 ∷ 0x01 ∷ 0x01 ∷ 0x0a ∷ 0x00 ∷
    0x13 ∷ 0x17 ∷ 0x02 ∷ 0x15 ∷ 0x06 ∷ 0x01 ∷ 0x07 ∷ 0x00 ∷
    0x4f ∷ 0x00 ∷
    0x02 ∷ 0x00 ∷ 0x03 ∷ 0x00 ∷ 0x09 ∷ 0x00 ∷ 0x01 ∷ 0x00 ∷ 0x0b ∷ 0x00 ∷ 0x1b ∷ 0x00 ∷ 0x02 ∷ 0x00 ∷ 0x49 ∷ 0x00 ∷ []

unfoldable design : Design
design = record {
  variables = record { kind = boolean; initial = 1 } ∷ record { kind = integer; initial = 65535 } ∷ record { kind = external; initial = 0 } ∷ [];
  statuses = 2 ∷ [];
  cells = record {
    matrix = 0;
    status = 0;
    event = and_b (variable_b 0) (not_b (constant_b false));
    target = 1;
    -- the product's constant is -2
    guard = less (difference (product 65534 (variable 1)) (constant 3)) (variable 1);
    action = then (if_else (variable_b 0) (then (assign 1 (sum (variable 1) (constant 1))) done) (then (assign_b 2 (constant_b true)) done)) done;
  } ∷ [];
  invalid = record { matrix = 0; status = 1; event = or_b (variable_b 2) (equal (status 0) (variable 1)) } ∷ [];
  invariant = less (variable 1) (constant 10);
  -- a state has 5 slots, 3 variables, a status and the mark: in the next state, variable 2, variable 1 and status 0
  constraint = and_b (variable_b 7) (equal (variable 6) (status 5));
}

reads_all : check bytes ≡ accepted design
unfolding checking bytes design
reads_all = refl

-- The constraint's offset (document 02, R-1) is 79, the invariant's 73, and the u16 stands at 87. An offset before the invariant; one past the u16; an empty invariant;
-- an invariant that does not end at the u16; a constraint of operator 18; the next state in the invariant, in an event, in a guard and in an action. Of the product
-- (document 02, R-2): operator 09 in its place; a Boolean as its operand; with no operand, in the invariant; with half a constant, in the constraint.
damages : List Damage
damages =
    record { position = 87; byte = 72; gets = at 4 73 } ∷
    record { position = 87; byte = 88; gets = at 4 73 } ∷
    record { position = 87; byte = 73; gets = at 8 73 } ∷
    record { position = 87; byte = 87; gets = at 8 73 } ∷
    record { position = 79; byte = 0x18; gets = at 8 79 } ∷
    record { position = 74; byte = 0x06; gets = at 8 73 } ∷
    record { position = 13; byte = 0x17; gets = at 8 11 } ∷
    record { position = 40; byte = 0x06; gets = at 8 27 } ∷
    record { position = 49; byte = 0x17; gets = at 9 27 } ∷
    record { position = 37; byte = 0x09; gets = at 8 27 } ∷
    record { position = 40; byte = 0x11; gets = at 8 27 } ∷
    record { position = 76; byte = 0x08; gets = at 8 73 } ∷
    record { position = 85; byte = 0x08; gets = at 8 79 } ∷ []

damages_all : map (damaged bytes) damages ≡ map (λ (x : Damage). x.gets) damages
unfolding checking bytes damages
damages_all = refl

-- "A version 2 file under 18 bytes is refusal 1.": the trailer with one byte before it
short_all : refusal (check (drop 88 bytes)) ≡ at 1 17
unfolding checking bytes
short_all = refl
