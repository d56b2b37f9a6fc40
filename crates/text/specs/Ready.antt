-- What inner functions are given: choices that REPLAY does not refuse.
use Rattle.std.specs.Prelude.{◌≡◌, List, ℕ, ◌<◌, ◌≤◌, length, get_or}
use Rattle.design.specs.Tree.{Design, movers}
use Rattle.design.specs.Check.{check, accepted}
use Rattle.design.specs.Places.{Accepted}
use Rattle.step.specs.Limits.{max_bound}

pub record ReplayInput (file cs : List ℕ) : Type 0 where
  pub design : Accepted file
  pub few : length cs ≤ max_bound
  pub below : (d : Design) → check file ≡ accepted d → (i : ℕ) → i < length cs → get_or cs i 0 < length (movers d)
