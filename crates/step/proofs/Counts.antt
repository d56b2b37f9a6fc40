-- REPLAY's counts of events and guards read, on the run. Assumes nothing.
use Rattle.std.proofs.Common.{◌≡◌, ℕ, ◌+◌, ◌≤◌, Bool, true, false, ◌&&◌, List, [], ◌∷◌, ◌++◌, length, refl, arith}
use mir.Val.{bool_byte}
use mathlib.Core.Option.{Option, none, some}
use lib.ListN.{get_elem?}
use Rattle.design.specs.Tree.{Design, Mover, cell, raise, movers, bit}
use Rattle.design.specs.State.{State, Layout, layout}
use Rattle.step.specs.Evaluation.{eval_bool}
use Rattle.step.specs.OneStep.{status_stands, step, run}
use Rattle.step.specs.StatusEventGuard.{event_read_of, guard_read_of, of_named, event_read_by, guard_read_by, count_from, events_read, guards_read}

pub bit_most : (b : Bool) → bit b ≤ 1
bit_most true = omega arith
bit_most false = omega arith

-- as the library counts a truth value
pub bit_from : (b : Bool) → bool_byte b ≡ bit b
bit_from true = refl
bit_from false = refl

and_within : (a b : Bool) → bit (a && b) ≤ bit a
and_within true b = bit_most b
and_within false b = omega arith

-- a guard is read only where the event was
guard_within : (l : Layout) (s : State) (m : Mover) → bit (guard_read_of l s m) ≤ bit (event_read_of l s m)
unfolding event_read_of guard_read_of
guard_within l s (cell c) = and_within (status_stands l s c.matrix c.status) (eval_bool l s c.event)
guard_within l s (raise v) = omega arith

module _ (d : Design) where
  named_within : (s : State) (o : Option Mover) → bit (of_named (guard_read_of (layout d) s) o) ≤ bit (of_named (event_read_of (layout d) s) o)
  named_within s none = omega arith
  named_within s (some m) = guard_within (layout d) s m

  read_within : (s : State) (c : ℕ) → bit (guard_read_by d s c) ≤ bit (event_read_by d s c)
  unfolding event_read_by guard_read_by
  read_within s c = named_within s (get_elem? (movers d) c)

  guards_within : (s : State) (cs : List ℕ) → guards_read d s cs ≤ events_read d s cs
  unfolding count_from
  guards_within s [] = omega arith
  guards_within s (c ∷ cs) = omega (arith, read_within s c, guards_within (step d s c) cs)

  count_within : (test : State → ℕ → Bool) (s : State) (cs : List ℕ) → count_from d test s cs ≤ length cs
  unfolding count_from
  count_within test s [] = omega arith
  count_within test s (c ∷ cs) = omega (arith, bit_most (test s c), count_within test (step d s c) cs)

  -- no more guards are read than events, and no more events than there are choices
  pub counts_within : (s : State) (cs : List ℕ) → (guards_read d s cs ≤ events_read d s cs) × (events_read d s cs ≤ length cs)
  counts_within s cs = (guards_within s cs, count_within (event_read_by d) s cs)

  -- the counts of a list go on from where its front leads, whatever broke there
  pub counts_go_on : (test : State → ℕ → Bool) (s : State) (cs ds : List ℕ) → count_from d test s (cs ++ ds) ≡ count_from d test s cs + count_from d test (run d s cs) ds
  unfolding count_from run
  counts_go_on test s [] ds = omega arith
  counts_go_on test s (c ∷ cs) ds = omega (arith, counts_go_on test (step d s c) cs ds)
