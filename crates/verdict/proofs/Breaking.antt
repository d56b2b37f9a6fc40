-- Where a list of choices breaks the property.
use mathlib.Core.Path.{◌≡◌, refl, ap, sym, ◌∙◌}
use mathlib.Core.Logic.{◌⊎◌, inl, inr}
use mathlib.Core.Bool.{Bool, true, false, not, ◌||◌, ◌&&◌}
use mathlib.Core.List.{List, [], ◌∷◌}
use mathlib.Core.Option.{Option, none, some}
use Prim.Native.Nat.{ℕ, zero, suc, ◌<◌}
use native.Mathlib.Omega.{arith}
use lib.Dec.{leb}
use lib.ListN.{length, take}
use lib.Seq.{length-take-le, take_all}
use borrow.Author.Tests.{le-leb}
use Rattle.design.specs.Tree.{Design, movers}
use Rattle.design.specs.State.{State, start}
use Rattle.step.specs.Property.{Property}
use Rattle.step.specs.OneStep.{step, run, true_at, state_before, breaks_at, breaks_from, breaks}
use Rattle.step.specs.Breaking.{Breaking}
use Rattle.step.proofs.Longer.{below_take}
use Rattle.verdict.specs.Claim.{NoneShorter}

-- the property is false at a list's end, or a shorter beginning of the list breaks it; `r` is the state before s
abbrev Broken : (d : Design) (p : Property) (r : Option State) (s : State) (cs : List ℕ) → Type 0
Broken d p r s cs = (not (true_at d p (state_before d r s cs (length cs)) (run d s cs)) ≡ true) ⊎ ((i : ℕ) × (i < length cs) × (breaks_from d p r s (take i cs) ≡ true))

module _ (d : Design) (p : Property) where
  -- the state before a list's end, from its first choice on
  before_on : (r : Option State) (s : State) (c : ℕ) (cs : List ℕ) (i : ℕ) → state_before d r s (c ∷ cs) (suc i) ≡ state_before d (some s) (step d s c) cs i
  unfolding state_before run
  before_on r s c cs zero = refl
  before_on r s c cs (suc i) = refl

  broken : (r : Option State) (s : State) (cs : List ℕ) → breaks_from d p r s cs ≡ true → Broken d p r s cs
  unfolding breaks_from run state_before
  broken r s [] e = inl e
  broken r s (c ∷ cs) e = go (not (true_at d p r s)) refl e (broken (some s) (step d s c) cs)
    where
      go : (b : Bool) → not (true_at d p r s) ≡ b → b || breaks_from d p (some s) (step d s c) cs ≡ true
          → (breaks_from d p (some s) (step d s c) cs ≡ true → Broken d p (some s) (step d s c) cs) → Broken d p r s (c ∷ cs)
      go true q h f = inr (0, omega arith, q)
      go false q h f = on (f h)
        where
          on : Broken d p (some s) (step d s c) cs → Broken d p r s (c ∷ cs)
          on (inl x) = inl (ap (λ (b : Option State). not (true_at d p b (run d (step d s c) cs))) (before_on r s c cs (length cs)) ∙ x)
          on (inr (i, l, x)) = inr (suc i, omega arith, rw (q, x))

  -- a list of i choices that breaks the property, where no shorter one does, breaks it at step i
  pub breaks_at_lem : (i : ℕ) (cs : List ℕ) → Breaking d p i cs → NoneShorter d p i → breaks_at d p cs i ≡ true
  unfolding breaks breaks_at
  breaks_at_lem i cs b short = go (broken none (start d) cs b.breaks)
    where
      long : length cs ≡ i
      long = b.long

      go : Broken d p none (start d) cs → leb i (length cs) && not (true_at d p (state_before d none (start d) cs i) (run d (start d) (take i cs))) ≡ true
      go (inl e) =
          rw (le-leb i (length cs) (omega arith), take_all i cs (omega arith), ap (λ (j : ℕ). not (true_at d p (state_before d none (start d) cs j) (run d (start d) cs))) (sym long) ∙ e)
      go (inr (j, l, e)) =
          absurd (short j (omega arith) (record {
            list = take j cs;
            short = omega (arith, length-take-le j cs (omega arith));
            movers = below_take (length (movers d)) j cs b.movers;
            breaks = e;
          }))
