-- A design for counters that pass the end (document 02, R-5): an integer v, at first 32,767, a Boolean b, and one matrix of one status. Its constraint is true.
use Rattle.std.specs.Prelude.{◌≡◌, refl, true, List, [], ◌∷◌, ℕ}
use Rattle.design.specs.Tree.{BoolExpr, Design, boolean, integer, constant, variable, sum, difference, constant_b, or_b, less, assign, assign_b, if_else, done, then}
use Rattle.design.specs.Check.{accepted, check, checking}

-- Cell 0 has v + 1 in its event and its guard, and sets b. Cell 1 has v + 1 in the branch that it does not take. Cell 2 sets v to (v + 1) - 1, which is v again. Cell 3 has
-- v + 1 in its condition, behind an or whose first side is true, and changes nothing but the mark. The invariant has v + 1, too.
unfoldable pub bytes_passing : List ℕ
bytes_passing =
    0x01 ∷ 0xff ∷ 0x7f ∷
    0x00 ∷ 0x00 ∷ 0x00 ∷
    0x01 ∷ 0x04 ∷
    0x0a ∷ 0x16 ∷ 0x04 ∷ 0x02 ∷ 0x00 ∷ 0x01 ∷ 0x01 ∷ 0x00 ∷ 0x01 ∷ 0x00 ∷ 0x00 ∷
    0x02 ∷ 0x10 ∷ 0x01 ∷
    0x02 ∷ 0x10 ∷ 0x01 ∷
    0x02 ∷ 0x10 ∷ 0x01 ∷
    0x00 ∷ 0x00 ∷ 0x00 ∷ 0x00 ∷ 0x00 ∷ 0x0a ∷ 0x05 ∷ 0x00 ∷
    0x16 ∷ 0x04 ∷ 0x02 ∷ 0x00 ∷ 0x01 ∷ 0x01 ∷ 0x00 ∷ 0x01 ∷ 0x00 ∷ 0x00 ∷
    0x01 ∷ 0x20 ∷ 0x01 ∷ 0x10 ∷ 0x01 ∷
    0x00 ∷ 0x00 ∷ 0x01 ∷ 0x00 ∷ 0x00 ∷ 0x00 ∷ 0x16 ∷ 0x00 ∷
    0x01 ∷ 0x21 ∷ 0x16 ∷ 0x01 ∷ 0x00 ∷ 0x00 ∷ 0x02 ∷ 0x00 ∷
    0x01 ∷ 0x20 ∷ 0x01 ∷ 0x10 ∷ 0x01 ∷
    0x01 ∷ 0x20 ∷ 0x00 ∷ 0x04 ∷ 0x02 ∷ 0x00 ∷ 0x01 ∷ 0x01 ∷ 0x00 ∷
    0x00 ∷ 0x00 ∷ 0x02 ∷ 0x00 ∷ 0x00 ∷ 0x00 ∷ 0x0d ∷ 0x00 ∷
    0x01 ∷ 0x20 ∷ 0x00 ∷ 0x05 ∷ 0x04 ∷ 0x02 ∷ 0x00 ∷ 0x01 ∷ 0x01 ∷ 0x00 ∷ 0x01 ∷ 0x01 ∷ 0x00 ∷
    0x00 ∷ 0x00 ∷ 0x03 ∷ 0x00 ∷ 0x00 ∷ 0x00 ∷ 0x11 ∷ 0x00 ∷
    0x01 ∷ 0x21 ∷ 0x14 ∷ 0x10 ∷ 0x01 ∷ 0x16 ∷ 0x04 ∷ 0x02 ∷ 0x00 ∷ 0x01 ∷ 0x01 ∷ 0x00 ∷ 0x01 ∷ 0x00 ∷ 0x00 ∷ 0x00 ∷ 0x00 ∷
    0x16 ∷ 0x04 ∷ 0x02 ∷ 0x00 ∷ 0x01 ∷ 0x01 ∷ 0x00 ∷ 0x01 ∷ 0x01 ∷ 0x00 ∷
    0x10 ∷ 0x01 ∷
    0x89 ∷ 0x00 ∷
    0x02 ∷ 0x00 ∷ 0x02 ∷ 0x00 ∷ 0x06 ∷ 0x00 ∷ 0x01 ∷ 0x00 ∷ 0x08 ∷ 0x00 ∷ 0x1c ∷ 0x00 ∷ 0x04 ∷ 0x00 ∷ 0x7f ∷ 0x00 ∷ []

-- v + 1 < c; at first that is -32,768 < c
unfoldable pub wraps_below : ℕ → BoolExpr
wraps_below c = less (sum (variable 0) (constant 1)) (constant c)

unfoldable pub design_passing : Design
unfolding wraps_below
design_passing = record {
  variables = record { kind = integer; initial = 32767 } ∷ record { kind = boolean; initial = 0 } ∷ [];
  statuses = 1 ∷ [];
  cells =
      record { matrix = 0; status = 0; event = wraps_below 0; target = 0; guard = wraps_below 0; action = then (assign_b 1 (constant_b true)) done } ∷
      record {
        matrix = 0;
        status = 0;
        event = constant_b true;
        target = 0;
        guard = constant_b true;
        action = then (if_else (less (constant 0) (variable 0)) (then (assign_b 1 (constant_b true)) done) (then (assign 0 (sum (variable 0) (constant 1))) done)) done;
      } ∷
      record {
        matrix = 0;
        status = 0;
        event = constant_b true;
        target = 0;
        guard = constant_b true;
        action = then (assign 0 (difference (sum (variable 0) (constant 1)) (constant 1))) done;
      } ∷
      record { matrix = 0; status = 0; event = constant_b true; target = 0; guard = constant_b true; action = then (if_else (or_b (constant_b true) (wraps_below 0)) done done) done } ∷ [];
  invalid = [];
  invariant = wraps_below 1;
  constraint = constant_b true;
}

pub check_passing : check bytes_passing ≡ accepted design_passing
unfolding checking bytes_passing design_passing wraps_below
check_passing = refl
