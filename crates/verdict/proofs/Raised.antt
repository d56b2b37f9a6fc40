-- The constraint of designs/raised-next.stm, that x is true next, breaks by an idle step, and no strict run of any length breaks it.
use mathlib.Core.Path.{◌≡◌, refl, sym, ap, ◌∙◌}
use mathlib.Core.Bool.{true, false, false≢true}
use mathlib.Core.List.{List, [], ◌∷◌}
use mathlib.Core.Option.{some}
use Prim.Native.Nat.{ℕ, zero, suc}
use native.Mathlib.Omega.{arith}
use Rattle.design.specs.State.{State}
use Rattle.design.specs.Constrained.{design_raised}
use Rattle.step.specs.Property.{Property}
use Rattle.step.specs.OneStep.{stepping, step, breaks_from, breaks}
use Rattle.step.specs.Breaking.{AllBelow, Breakable}
use Rattle.step.specs.Strict.{strict_at, strict_from, strict, StrictBreakable}
use Rattle.verdict.specs.Cases.{raised_next}

abbrev next : Property
next = raised_next.property

-- x and y, the status and the mark, once x is raised
abbrev raised : State
raised = 1 ∷ 1 ∷ 0 ∷ 0 ∷ []

stays : (c : ℕ) → step design_raised raised c ≡ raised
unfolding design_raised stepping
stays zero = refl
stays (suc zero) = refl
stays (suc (suc c)) = refl

-- whatever the state before was, it is not broken from there on
kept : (x y status mark : ℕ) (cs : List ℕ) → breaks_from design_raised next (some (x ∷ y ∷ status ∷ mark ∷ [])) raised cs ≡ false
unfolding design_raised stepping
kept x y status mark [] = refl
kept x y status mark (c ∷ cs) = ap (λ (s : State). breaks_from design_raised next (some raised) s cs) (stays c) ∙ kept 1 1 0 0 cs

-- a strict run starts with the choice 0, which raises x
never : (cs : List ℕ) → AllBelow 2 cs → strict design_raised cs ≡ true → breaks design_raised next cs ≡ false
unfolding design_raised stepping strict_at strict_from strict
never [] h e = refl
never (zero ∷ cs) h e = kept 0 1 0 0 cs
never (suc zero ∷ cs) h e = absurd (false≢true e)
never (suc (suc c) ∷ cs) h e = absurd (let l = h.0 in omega arith)

pub raised_idling : Breakable design_raised next 1 × ((k : ℕ) → StrictBreakable design_raised next k → ⊥)
unfolding design_raised stepping
raised_idling = (
  record { list = 1 ∷ []; short = omega arith; movers = (omega arith, tt); breaks = refl },
  λ k b. false≢true (sym (never b.breakable.list b.breakable.movers b.strict) ∙ b.breakable.breaks),
)
