-- Both readings of an idle step agree on properties 0 and 1, of every accepted design; and strict choices are the steps of source 000's formula.
use Rattle.std.proofs.Common.{◌≡◌, ℕ, zero, suc, ◌-◌, ◌<◌, ◌≤◌, Bool, true, false, cond, not, ◌&&◌, eqb, ◌⊎◌, List, [], ◌∷◌, ◌++◌, length, get_or, take, sym, refl, ap, ◌∙◌, subst, inl, inr, arith, length-append, length-take-le, eqb-true}
use mathlib.Core.Bool.{false≢true}
use mathlib.Core.Option.{Option, none, some}
use lib.ListN.{get_elem?}
use borrow.Author.Tests.{eqb-false}
use Rattle.design.specs.Tree.{Design, Mover, movers}
use Rattle.design.specs.State.{State, Layout, layout, start}
use Rattle.design.specs.Check.{accepted, check}
use Rattle.design.proofs.Sections.{and_inv}
use Rattle.design.proofs.WellFormed.{well_formed}
use Rattle.step.specs.Limits.{last_state_property}
use Rattle.step.specs.Property.{Property, property_of}
use Rattle.step.specs.OneStep.{enabled, effect, move, moved, idles, step, idle, run, true_at, holds, breaks}
use Rattle.step.specs.Breaking.{AllBelow, Breaking, Breakable}
use Rattle.step.specs.Strict.{none_enabled, strict_at, strict_from, strict, idles_from, RuleApplied, NoRule, ThesisStep, ThesisRun, ThesisRuns, StrictBreaking, StrictBreakable, BreakingStep, StrictBreakingStep, Smallest, ReadingsAgree}
use Rattle.step.proofs.Pairs.{state_true}
use Rattle.step.proofs.Breaks.{breaks_at_some, breaks_to}
use Rattle.step.proofs.Longer.{breaks_append, below_append, below_take}
use Rattle.step.proofs.Striking.{idle_stays, strict_idle, strict_moves, strict_none, strike, strike_shorter, strike_fewer, strike_below, strike_idles, never_strict, strike_breaks}

module _ (l : Layout) (s : State) where
  -- where no mover is enabled, each that a number names is disabled
  none_idles : (ms : List Mover) (c : ℕ) → none_enabled l s ms ≡ true → idles l s (get_elem? ms c) ≡ true
  none_idles [] c e = refl
  none_idles (m ∷ ms) zero e = (and_inv (not (enabled l s m)) (none_enabled l s ms) e).0
  none_idles (m ∷ ms) (suc c) e = none_idles ms c (and_inv (not (enabled l s m)) (none_enabled l s ms) e).1

  -- else some number names one that is enabled
  abbrev SomeEnabled : List Mover → Type 0
  SomeEnabled ms = (c : ℕ) × (c < length ms) × (idles l s (get_elem? ms c) ≡ false)

  some_enabled : (ms : List Mover) → none_enabled l s ms ≡ false → SomeEnabled ms
  some_enabled [] e = absurd (false≢true (sym e))
  some_enabled (m ∷ ms) e = go (enabled l s m) refl e (some_enabled ms)
    where
      go : (t : Bool) → enabled l s m ≡ t → not t && none_enabled l s ms ≡ false → (none_enabled l s ms ≡ false → SomeEnabled ms) → SomeEnabled (m ∷ ms)
      go true q h f = (0, omega arith, ap not q)
      go false q h f = let (c, k, x) = f h in (suc c, omega arith, x)

-- up to the step at which it breaks, a run is a list that breaks
pub within : (d : Design) (q : Property) (i : ℕ) → BreakingStep d q i → Breakable d q i
within d q i b =
    let (l, e) = breaks_to d q b.list i b.breaks in
    record { list = take i b.list; short = omega (arith, length-take-le i b.list l); movers = below_take (length (movers d)) i b.list b.movers; breaks = e }

module _ (d : Design) where
  all_idle : (s : State) → none_enabled (layout d) s (movers d) ≡ true → (c : ℕ) → idle d s c ≡ true
  unfolding idle
  all_idle s e c = none_idles (layout d) s (movers d) c e

  none_enabled_lem : (s : State) → ((c : ℕ) → idle d s c ≡ true) → none_enabled (layout d) s (movers d) ≡ true
  unfolding idle
  none_enabled_lem s f = go (none_enabled (layout d) s (movers d)) refl
    where
      go : (t : Bool) → none_enabled (layout d) s (movers d) ≡ t → t ≡ true
      go true q = refl
      go false q = let (c, k, x) = some_enabled (layout d) s (movers d) q in sym x ∙ f c

  -- the steps of source 000's formula
  from_rule : (s t : State) (c : ℕ) → RuleApplied d c s t → (strict_at d s c ≡ true) × (step d s c ≡ t)
  unfolding idle step move
  from_rule s t c r = (
    strict_moves d s c (ap (idles (layout d) s) r.named ∙ ap not r.condition),
    ap (moved (layout d) s) r.named ∙ ap (λ (b : Bool). cond b (effect (layout d) s r.rule) s) r.condition ∙ sym r.effects,
  )

  from_none : (s t : State) (c : ℕ) → NoRule d s t → (strict_at d s c ≡ true) × (step d s c ≡ t)
  from_none s t c r = (strict_none d s c r.no_condition, idle_stays d s c (all_idle s r.no_condition c) ∙ sym r.unchanged)

  from_step : (s t : State) (c : ℕ) → ThesisStep d c s t → (strict_at d s c ≡ true) × (step d s c ≡ t)
  from_step s t c (inl r) = from_rule s t c r
  from_step s t c (inr r) = from_none s t c r

  to_step : (s t : State) (c : ℕ) → strict_at d s c ≡ true → step d s c ≡ t → ThesisStep d c s t
  unfolding idle step move
  to_step s t c e f = go (idle d s c) refl
    where
      applied : (o : Option Mover) → get_elem? (movers d) c ≡ o → idles (layout d) s o ≡ false → moved (layout d) s o ≡ t → RuleApplied d c s t
      applied none q x y = absurd (false≢true (sym x))
      applied (some m) q x y = on (enabled (layout d) s m) refl x y
        where
          on : (b : Bool) → enabled (layout d) s m ≡ b → not b ≡ false → cond b (effect (layout d) s m) s ≡ t → RuleApplied d c s t
          on true u v w = record { rule = m; named = q; condition = u; effects = sym w }
          on false u v w = absurd (false≢true (sym v))

      go : (b : Bool) → idle d s c ≡ b → RuleApplied d c s t ⊎ NoRule d s t
      go true q = inr (record { no_condition = strict_idle d s c e q; unchanged = sym f ∙ idle_stays d s c q })
      go false q = inl (applied (get_elem? (movers d) c) refl q f)

  from_run : (s : State) (cs : List ℕ) → ThesisRun d s cs → strict_from d s cs ≡ true
  unfolding strict_from
  from_run s [] r = refl
  from_run s (c ∷ cs) (t, x, r) =
      let (e, f) = from_step s t c x in
      let rest : strict_from d (step d s c) cs ≡ true = ap (λ (u : State). strict_from d u cs) f ∙ from_run t cs r in
      rw (e, rest)

  to_run : (s : State) (cs : List ℕ) → strict_from d s cs ≡ true → ThesisRun d s cs
  unfolding strict_from
  to_run s [] e = tt
  to_run s (c ∷ cs) e =
      let (x, y) = and_inv (strict_at d s c) (strict_from d (step d s c) cs) e in
      (step d s c, to_step s (step d s c) c x refl, to_run (step d s c) cs y)

  pub thesis_runs : ThesisRuns d
  thesis_runs = record { steps = λ s t c. (from_step s t c, λ h. to_step s t c h.0 h.1); runs = λ s cs. (from_run s cs, to_run s cs); idles = λ s. (all_idle s, none_enabled_lem s) }

module _ (d : Design) (mover : 0 < length (movers d)) where
  -- in every state some mover's number is a strict choice
  some_strict : (s : State) → (c : ℕ) × (c < length (movers d)) × (strict_at d s c ≡ true)
  unfolding idle
  some_strict s = go (none_enabled (layout d) s (movers d)) refl
    where
      go : (t : Bool) → none_enabled (layout d) s (movers d) ≡ t → (c : ℕ) × (c < length (movers d)) × (strict_at d s c ≡ true)
      go true q = (0, mover, strict_none d s 0 q)
      go false q = let (c, k, x) = some_enabled (layout d) s (movers d) q in (c, k, strict_moves d s c x)

  -- so a strict run of any length starts there
  record Onward (s : State) (k : ℕ) : Type 0 where
    list : List ℕ
    long : length list ≡ k
    movers : AllBelow (length (movers d)) list
    strict : strict_from d s list ≡ true

  onward : (k : ℕ) (s : State) → Onward s k
  unfolding strict_from
  onward zero s = record { list = []; long = refl; movers = tt; strict = refl }
  onward (suc k) s =
      let (c, h, e) = some_strict s in
      let r = onward k (step d s c) in
      record { list = c ∷ r.list; long = ap suc r.long; movers = (h, r.movers); strict = rw (e, r.strict) }

  strict_append : (s : State) (cs xs : List ℕ) → strict_from d s cs ≡ true → strict_from d (run d s cs) xs ≡ true → strict_from d s (cs ++ xs) ≡ true
  unfolding strict_from run
  strict_append s [] xs e f = f
  strict_append s (c ∷ cs) xs e f = go (strict_at d s c) e (λ h. strict_append (step d s c) cs xs h f)
    where
      go : (t : Bool) → t && strict_from d (step d s c) cs ≡ true → (strict_from d (step d s c) cs ≡ true → strict_from d (step d s c) (cs ++ xs) ≡ true) → t && strict_from d (step d s c) (cs ++ xs) ≡ true
      go true q g = g q
      go false q g = q

  module _ (q : Property) (now : (before : Option State) (s : State) → holds d q s ≡ true_at d q before s) where
    -- struck out, a list that breaks the property is a strict one that breaks it
    struck : (cs : List ℕ) → AllBelow (length (movers d)) cs → breaks d q cs ≡ true → (k : ℕ) → length (strike d (start d) cs) ≤ k → StrictBreakable d q k
    unfolding breaks strict
    struck cs h e k l = record {
      breakable = record { list = strike d (start d) cs; short = l; movers = strike_below d (length (movers d)) (start d) cs h; breaks = strike_breaks d q now none none (start d) cs e };
      strict = never_strict d (start d) (strike d (start d) cs) (strike_idles d (start d) cs);
    }

    strictly : (k : ℕ) → Breakable d q k → StrictBreakable d q k
    strictly k b = let l = strike_shorter d (start d) b.list in let m = b.short in struck b.list b.movers b.breaks k (omega arith)

    goes_on : (k : ℕ) → StrictBreakable d q k → (cs : List ℕ) × StrictBreaking d q k cs
    unfolding strict
    goes_on k b =
        let r = onward (k - length b.breakable.list) (run d (start d) b.breakable.list) in (
          b.breakable.list ++ r.list,
          record {
            breaking = record {
              long = omega (arith, length-append b.breakable.list r.list, r.long, b.breakable.short);
              movers = below_append (length (movers d)) b.breakable.list r.list b.breakable.movers r.movers;
              breaks = breaks_append d q b.breakable.list r.list b.breakable.breaks;
            };
            strict = strict_append (start d) b.breakable.list r.list b.strict r.strict;
          },
        )

    ends : (k : ℕ) → (cs : List ℕ) × StrictBreaking d q k cs → StrictBreakable d q k
    ends k (cs, b) = record { breakable = record { list = cs; short = omega (arith, b.breaking.long); movers = b.breaking.movers; breaks = b.breaking.breaks }; strict = b.strict }

    -- some list within a bound breaks at a step within it
    strict_at_lem : (k : ℕ) → StrictBreakable d q k → (i : ℕ) × (i ≤ k) × StrictBreakingStep d q i
    strict_at_lem k b =
        let (i, l, e) = breaks_at_some d q b.breakable.list b.breakable.breaks in
        (i, omega (arith, b.breakable.short), record { breaking = record { list = b.breakable.list; movers = b.breakable.movers; breaks = e }; strict = b.strict })

    to_ours : (i : ℕ) → Smallest (StrictBreakingStep d q) i → Smallest (BreakingStep d q) i
    to_ours i m = record {
      some = m.some.breaking;
      none = λ j l b. let (x, y, z) = strict_at_lem j (strictly j (within d q j b)) in m.none x (omega arith) z;
    }

    to_strict : (i : ℕ) → Smallest (BreakingStep d q) i → Smallest (StrictBreakingStep d q) i
    to_strict i m =
        let (j, l, b) = strict_at_lem i (strictly i (within d q i m.some)) in
        record { some = go j l b (eqb j i) refl; none = λ j l b. m.none j l b.breaking }
      where
        go : (j : ℕ) → j ≤ i → StrictBreakingStep d q j → (t : Bool) → eqb j i ≡ t → StrictBreakingStep d q i
        go j l b true e = subst (StrictBreakingStep d q) (eqb-true j i e) b
        go j l b false e = let n = eqb-false j i e in absurd (m.none j (omega arith) b.breaking)

    -- struck out it would break before the smallest step
    never_idles : (i : ℕ) → Smallest (BreakingStep d q) i → (k : ℕ) → k ≤ i → (cs : List ℕ) → Breaking d q k cs → idles_from d (start d) cs ≡ false
    never_idles i m k h cs b = go (idles_from d (start d) cs) refl
      where
        go : (t : Bool) → idles_from d (start d) cs ≡ t → t ≡ false
        go true e =
            let l = strike_fewer d (start d) cs e in
            let long = b.long in
            let n = length (strike d (start d) cs) in
            let (x, y, z) = strict_at_lem n (struck cs b.movers b.breaks n (omega arith)) in
            absurd (m.none x (omega arith) z.breaking)
        go false e = refl

    agree : ReadingsAgree d q
    agree = record {
      same = λ k. ((λ b. b.breakable), strictly k);
      exactly = λ k. (ends k, goes_on k);
      smallest = λ i. (to_ours i, to_strict i);
      idle_free = λ i m cs b. never_idles i m _ (omega arith) cs b;
    }

-- of an accepted file, with any piece
pub readings_agree : (file piece : List ℕ) → ((i : ℕ) → get_or file i 0 < 256) → (d : Design) → check file ≡ accepted d → (p : ℕ) → p ≤ last_state_property → ReadingsAgree d (property_of file piece d p)
readings_agree file piece bytes d c p l = agree d (well_formed file bytes d c).some_mover (property_of file piece d p) (state_true file piece d p l)
