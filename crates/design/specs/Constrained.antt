-- Three designs of version 2 (document 02, R-1) by computation, those of designs/moved.stm, designs/no-idle.stm and designs/raised-next.stm. The first two have two variables, an external
-- and an integer c, and one matrix: a state has 4 slots, the mark being the last, so `variable_b 4` is the external, `variable 5` is c and `status 4` the status in the next state.
use Rattle.std.specs.Prelude.{◌≡◌, refl, true, List, [], ◌∷◌, ◌++◌, ℕ, take}
use Rattle.design.specs.Tree.{Design, constant_b, variable_b, not_b, and_b, or_b, equal, less, variable, status, constant, external, integer}
use Rattle.design.specs.Check.{accepted, check, checking}
use Rattle.design.specs.DesignA.{bytes_a, design_a, count}

-- Design A. "when one matrix has just moved": where the status was 1 and is 0 next, c < 2 next.
unfoldable pub bytes_moved : List ℕ
unfolding bytes_a
bytes_moved =
    take 57 bytes_a ++ (
    0x14 ∷ 0x12 ∷ 0x13 ∷ 0x15 ∷ 0x03 ∷ 0x00 ∷ 0x01 ∷ 0x01 ∷ 0x00 ∷ 0x15 ∷ 0x07 ∷ 0x00 ∷ 0x01 ∷ 0x00 ∷ 0x00 ∷ 0x16 ∷ 0x06 ∷ 0x01 ∷ 0x01 ∷ 0x02 ∷ 0x00 ∷
    0x39 ∷ 0x00 ∷
    0x02 ∷ 0x00 ∷ 0x02 ∷ 0x00 ∷ 0x06 ∷ 0x00 ∷ 0x01 ∷ 0x00 ∷ 0x08 ∷ 0x00 ∷ 0x0b ∷ 0x00 ∷ 0x02 ∷ 0x00 ∷ 0x33 ∷ 0x00 ∷ [])

unfoldable pub design_moved : Design
unfolding design_a
design_moved = record {
  variables = design_a.variables;
  statuses = design_a.statuses;
  cells = design_a.cells;
  invalid = design_a.invalid;
  invariant = design_a.invariant;
  constraint = or_b (not_b (and_b (equal (status 0) (constant 1)) (equal (status 4) (constant 0)))) (less (variable 5) (constant 2));
}

pub check_moved : check bytes_moved ≡ accepted design_moved
unfolding checking bytes_a bytes_moved design_a design_moved count
check_moved = refl

-- The one cell counts while the external is true. The constraint: c or the external is another one next, so that only an idle step or the mark breaks it.
unfoldable pub bytes_no_idle : List ℕ
bytes_no_idle =
    0x02 ∷ 0x00 ∷ 0x00 ∷
    0x01 ∷ 0x00 ∷ 0x00 ∷
    0x01 ∷ 0x01 ∷
    0x02 ∷ 0x11 ∷ 0x00 ∷
    0x00 ∷ 0x00 ∷ 0x00 ∷ 0x00 ∷ 0x00 ∷ 0x00 ∷ 0x09 ∷ 0x00 ∷
    0x01 ∷ 0x20 ∷ 0x01 ∷ 0x04 ∷ 0x02 ∷ 0x01 ∷ 0x01 ∷ 0x01 ∷ 0x00 ∷
    0x10 ∷ 0x01 ∷
    0x12 ∷ 0x13 ∷ 0x15 ∷ 0x02 ∷ 0x01 ∷ 0x06 ∷ 0x01 ∷
    0x14 ∷ 0x13 ∷ 0x11 ∷ 0x00 ∷ 0x17 ∷ 0x00 ∷ 0x13 ∷ 0x12 ∷ 0x11 ∷ 0x00 ∷ 0x12 ∷ 0x17 ∷ 0x00 ∷
    0x1e ∷ 0x00 ∷
    0x02 ∷ 0x00 ∷ 0x02 ∷ 0x00 ∷ 0x06 ∷ 0x00 ∷ 0x01 ∷ 0x00 ∷ 0x08 ∷ 0x00 ∷ 0x0b ∷ 0x00 ∷ 0x01 ∷ 0x00 ∷ 0x1c ∷ 0x00 ∷ []

unfoldable pub design_no_idle : Design
unfolding count
design_no_idle = record {
  variables = record { kind = external; initial = 0 } ∷ record { kind = integer; initial = 0 } ∷ [];
  statuses = 1 ∷ [];
  cells = record { matrix = 0; status = 0; event = variable_b 0; target = 0; guard = constant_b true; action = count } ∷ [];
  invalid = [];
  invariant = constant_b true;
  constraint = not_b (and_b (equal (variable 1) (variable 5)) (or_b (and_b (variable_b 0) (variable_b 4)) (and_b (not_b (variable_b 0)) (not_b (variable_b 4)))));
}

pub check_no_idle : check bytes_no_idle ≡ accepted design_no_idle
unfolding checking bytes_no_idle design_no_idle count
check_no_idle = refl

-- Externals x and y, which are movers 0 and 1, y being raised from the start, and no cell. The constraint: x is true next. A state has 4 slots here, too, so `variable_b 4` is x in the next state.
-- No accepted design with fewer movers, and none of fewer bytes, has a constraint that some run breaks and no strict run does (document 02, R-8). With one mover, a choice that idles is one where
-- no mover is enabled, so there are two at least; no mover takes fewer bytes than an external, and every other part of the file is as short as it may be.
unfoldable pub bytes_raised : List ℕ
bytes_raised =
    0x02 ∷ 0x00 ∷ 0x00 ∷
    0x02 ∷ 0x01 ∷ 0x00 ∷
    0x01 ∷ 0x01 ∷
    0x02 ∷ 0x10 ∷ 0x01 ∷
    0x10 ∷ 0x01 ∷
    0x17 ∷ 0x00 ∷
    0x0d ∷ 0x00 ∷
    0x02 ∷ 0x00 ∷ 0x02 ∷ 0x00 ∷ 0x06 ∷ 0x00 ∷ 0x01 ∷ 0x00 ∷ 0x08 ∷ 0x00 ∷ 0x0b ∷ 0x00 ∷ 0x00 ∷ 0x00 ∷ 0x0b ∷ 0x00 ∷ []

unfoldable pub design_raised : Design
design_raised = record {
  variables = record { kind = external; initial = 0 } ∷ record { kind = external; initial = 1 } ∷ [];
  statuses = 1 ∷ [];
  cells = [];
  invalid = [];
  invariant = constant_b true;
  constraint = variable_b 4;
}

pub check_raised : check bytes_raised ≡ accepted design_raised
unfolding checking bytes_raised design_raised
check_raised = refl
