-- The order of a cell's tests, and the counts that REPLAY answers (document 02, R-3, "Status before event before guard").
use Rattle.std.specs.Prelude.{◌≡◌, ℕ, ◌+◌, Bool, true, false, cond, ◌&&◌, List, [], ◌∷◌, refl}
use Rattle.std.proofs.Math.Option.{Option, none, some}
use Rattle.std.proofs.Math.ListN.{get_elem?}
use Rattle.design.specs.Tree.{Cell, Design, Mover, cell, raise, movers, bit}
use Rattle.design.specs.State.{State, Layout, layout}
use Rattle.step.specs.Evaluation.{eval_bool}
use Rattle.step.specs.OneStep.{status_stands, enabled, step}

-- "normal cells whose status stood (events read)"; an external has no event
unfoldable pub event_read_of : Layout → State → Mover → Bool
event_read_of l s (cell c) = status_stands l s c.matrix c.status
event_read_of l s (raise v) = false

-- "those of them whose event was true (guards read)", whatever the guard is: a cell without one counts, too
unfoldable pub guard_read_of : Layout → State → Mover → Bool
guard_read_of l s (cell c) = event_read_of l s (cell c) && eval_bool l s c.event
guard_read_of l s (raise v) = false

only_where : (a b : Bool) → a && b ≡ cond a b false
only_where true b = refl
only_where false b = refl

-- "Compare the status first, then the event, then the guard, and leave off at the first that fails. Which cells are enabled is as before.": the event decides only where
-- the status stood, and the guard only where the event was true, too. That the code leaves off there is read in `step::mover::move_cell`.
pub status_event_guard : (l : Layout) (s : State) (c : Cell)
    → (guard_read_of l s (cell c) ≡ cond (event_read_of l s (cell c)) (eval_bool l s c.event) false)
    × (enabled l s (cell c) ≡ cond (guard_read_of l s (cell c)) (eval_bool l s c.guard) false)
unfolding enabled event_read_of guard_read_of
status_event_guard l s c = (only_where (event_read_of l s (cell c)) (eval_bool l s c.event), only_where (guard_read_of l s (cell c)) (eval_bool l s c.guard))

-- of the mover that a choice names, if it names one
abbrev pub of_named : (Mover → Bool) → Option Mover → Bool
of_named test none = false
of_named test (some m) = test m

module _ (d : Design) where
  -- the same of a choice, in the state that it acts on
  unfoldable pub event_read_by : State → ℕ → Bool
  event_read_by s c = of_named (event_read_of (layout d) s) (get_elem? (movers d) c)

  unfoldable pub guard_read_by : State → ℕ → Bool
  guard_read_by s c = of_named (guard_read_of (layout d) s) (get_elem? (movers d) c)

  -- how many choices of a list pass a test, each in the state that it acts on
  unfoldable pub count_from : (State → ℕ → Bool) → State → List ℕ → ℕ
  count_from test s [] = 0
  count_from test s (c ∷ cs) = bit (test s c) + count_from test (step d s c) cs

  -- REPLAY's "two counts more", of the run from a state: over all choices, past a break too, since no property is asked
  abbrev pub events_read : State → List ℕ → ℕ
  events_read s cs = count_from event_read_by s cs

  abbrev pub guards_read : State → List ℕ → ℕ
  guards_read s cs = count_from guard_read_by s cs
