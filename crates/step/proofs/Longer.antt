-- A list that breaks the property breaks it however it goes on; and lists of movers' numbers, joined and cut. Assumes nothing.
use Rattle.std.proofs.Common.{◌≡◌, ℕ, zero, suc, ◌<◌, Bool, true, false, not, ◌||◌, List, [], ◌∷◌, ◌++◌, take, replicate, refl}
use mathlib.Core.Option.{Option, none, some}
use Rattle.design.specs.Tree.{Design}
use Rattle.design.specs.State.{State, start}
use Rattle.step.specs.Property.{Property}
use Rattle.step.specs.OneStep.{step, true_at, breaks_from, breaks}
use Rattle.step.specs.Breaking.{AllBelow}
use Rattle.step.proofs.Breaks.{or_left}

or_map : (a b c : Bool) → (b ≡ true → c ≡ true) → a || b ≡ true → a || c ≡ true
or_map true b c f e = refl
or_map false b c f e = f e

module _ (d : Design) (p : Property) where
  pub breaks_now : (before : Option State) (s : State) (xs : List ℕ) → not (true_at d p before s) ≡ true → breaks_from d p before s xs ≡ true
  unfolding breaks_from
  breaks_now before s [] e = e
  breaks_now before s (x ∷ xs) e = or_left (not (true_at d p before s)) (breaks_from d p (some s) (step d s x) xs) e

  breaks_on : (before : Option State) (s : State) (cs xs : List ℕ) → breaks_from d p before s cs ≡ true → breaks_from d p before s (cs ++ xs) ≡ true
  unfolding breaks_from
  breaks_on before s [] xs e = breaks_now before s xs e
  breaks_on before s (c ∷ cs) xs e =
      or_map (not (true_at d p before s)) (breaks_from d p (some s) (step d s c) cs) (breaks_from d p (some s) (step d s c) (cs ++ xs))
      (λ h. breaks_on (some s) (step d s c) cs xs h) e

  pub breaks_append : (cs xs : List ℕ) → breaks d p cs ≡ true → breaks d p (cs ++ xs) ≡ true
  unfolding breaks
  breaks_append cs xs e = breaks_on none (start d) cs xs e

pub below_append : (m : ℕ) (xs ys : List ℕ) → AllBelow m xs → AllBelow m ys → AllBelow m (xs ++ ys)
below_append m [] ys p q = q
below_append m (x ∷ xs) ys p q = (p.0, below_append m xs ys p.1 q)

pub below_take : (m i : ℕ) (cs : List ℕ) → AllBelow m cs → AllBelow m (take i cs)
below_take m zero cs h = tt
below_take m (suc i) [] h = tt
below_take m (suc i) (c ∷ cs) h = (h.0, below_take m i cs h.1)

pub zeros_below : (m k : ℕ) → 0 < m → AllBelow m (replicate k 0)
zeros_below m zero h = tt
zeros_below m (suc k) h = (h, zeros_below m k h)
