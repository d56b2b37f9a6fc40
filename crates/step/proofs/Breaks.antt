-- What REPLAY's first breaking step is: the least step at which the list breaks the property, and none exactly where it breaks at none. Assumes nothing.
use Rattle.std.proofs.Common.{◌≡◌, ℕ, zero, suc, ◌+◌, ◌<◌, ◌≤◌, Bool, true, false, cond, not, ◌&&◌, ◌||◌, leb, List, [], ◌∷◌, length, take, sym, refl, ap, ◌∙◌, subst, arith, le-leb, leb-true}
use mathlib.Core.Bool.{false≢true}
use mathlib.Core.Option.{Option, none, some}
use Rattle.design.specs.Tree.{Design}
use Rattle.design.specs.State.{State, start}
use Rattle.step.specs.Property.{Property}
use Rattle.step.specs.OneStep.{step, run, true_at, state_before, breaks_at, breaks_from, breaks}
use Rattle.step.specs.Operations.{first_break}

pub or_left : (a b : Bool) → a ≡ true → a || b ≡ true
or_left true b e = refl
or_left false b e = absurd (false≢true e)

pub or_right : (a b : Bool) → b ≡ true → a || b ≡ true
or_right true b e = refl
or_right false b e = e

module _ (d : Design) (p : Property) where
  -- false after the first k choices, from the state s, before which was the state b
  abbrev broken_at : Option State → State → List ℕ → ℕ → Bool
  broken_at b s cs k = not (true_at d p (state_before d b s cs k) (run d s (take k cs)))

  -- from the next state on, it breaks one step earlier
  one_earlier : (b : Option State) (s : State) (c : ℕ) (cs : List ℕ) (k : ℕ) → broken_at b s (c ∷ cs) (suc k) ≡ broken_at (some s) (step d s c) cs k
  unfolding run state_before
  one_earlier b s c cs zero = refl
  one_earlier b s c cs (suc k) = refl

  -- k steps from s: the first at which the property is false
  record First (b : Option State) (s : State) (cs : List ℕ) (k : ℕ) : Type 0 where
    inside : k ≤ length cs
    broken : broken_at b s cs k ≡ true
    before : (m : ℕ) → m < k → broken_at b s cs m ≡ false

  at_once : (b : Option State) (s : State) (cs : List ℕ) → true_at d p b s ≡ false → First b s cs 0
  unfolding run state_before
  at_once b s cs e = record { inside = omega arith; broken = ap not e; before = λ m l. absurd (omega arith) }

  later : (b : Option State) (s : State) (c : ℕ) (cs : List ℕ) (k : ℕ) → true_at d p b s ≡ true → First (some s) (step d s c) cs k → First b s (c ∷ cs) (suc k)
  unfolding run state_before
  later b s c cs k e f = record { inside = (let i = f.inside in omega arith); broken = one_earlier b s c cs k ∙ f.broken; before = go }
    where
      go : (m : ℕ) → m < suc k → broken_at b s (c ∷ cs) m ≡ false
      go zero l = ap not e
      go (suc m) l = one_earlier b s c cs m ∙ f.before m (omega arith)

  abbrev Found : Option State → State → List ℕ → ℕ → Option ℕ → Type 0
  Found b s cs i (some j) = (k : ℕ) × (j ≡ i + k) × First b s cs k
  Found b s cs i none = breaks_from d p b s cs ≡ false

  found : (b : Option State) (s : State) (cs : List ℕ) (i : ℕ) → Found b s cs i (first_break d p b s cs i)
  unfolding first_break breaks_from
  found b s [] i = go (true_at d p b s) refl
    where
      go : (t : Bool) → true_at d p b s ≡ t → Found b s [] i (cond t none (some i))
      go true e = ap not e
      go false e = (0, (omega arith), at_once b s [] e)
  found b s (c ∷ cs) i = go (true_at d p b s) refl (first_break d p (some s) (step d s c) cs (suc i)) (found (some s) (step d s c) cs (suc i))
    where
      go : (t : Bool) → true_at d p b s ≡ t → (o : Option ℕ) → Found (some s) (step d s c) cs (suc i) o → Found b s (c ∷ cs) i (cond t o (some i))
      go true e (some j) (k, q, f) = (suc k, (omega arith), later b s c cs k e f)
      go true e none f = ap (λ (t : Bool). not t || breaks_from d p (some s) (step d s c) cs) e ∙ f
      go false e o f = (0, (omega arith), at_once b s (c ∷ cs) e)

  -- "A list of choices breaks a property if it is false in the first state or after any choice."
  abbrev Somewhere : Option State → State → List ℕ → Type 0
  Somewhere b s cs = (k : ℕ) × (k ≤ length cs) × (broken_at b s cs k ≡ true)

  breaks_somewhere : (b : Option State) (s : State) (cs : List ℕ) → breaks_from d p b s cs ≡ true → Somewhere b s cs
  unfolding breaks_from run state_before
  breaks_somewhere b s [] e = (0, (omega arith), e)
  breaks_somewhere b s (c ∷ cs) e = go (breaks_somewhere (some s) (step d s c) cs) (not (true_at d p b s)) refl e
    where
      go : (breaks_from d p (some s) (step d s c) cs ≡ true → Somewhere (some s) (step d s c) cs) → (t : Bool) → not (true_at d p b s) ≡ t
          → (t || breaks_from d p (some s) (step d s c) cs) ≡ true → Somewhere b s (c ∷ cs)
      go f true q h = (0, (omega arith), q)
      go f false q h = let (k, l, z) = f h in (suc k, (omega arith), one_earlier b s c cs k ∙ z)

  somewhere_breaks : (b : Option State) (s : State) (cs : List ℕ) (k : ℕ) → k ≤ length cs → broken_at b s cs k ≡ true → breaks_from d p b s cs ≡ true
  unfolding breaks_from run state_before
  somewhere_breaks b s [] zero l e = e
  somewhere_breaks b s [] (suc k) l e = absurd (omega arith)
  somewhere_breaks b s (c ∷ cs) zero l e = or_left (not (true_at d p b s)) (breaks_from d p (some s) (step d s c) cs) e
  somewhere_breaks b s (c ∷ cs) (suc k) l e =
      or_right (not (true_at d p b s)) (breaks_from d p (some s) (step d s c) cs) (somewhere_breaks (some s) (step d s c) cs k (omega arith) (sym (one_earlier b s c cs k) ∙ e))

  -- then its first k choices break it already
  first_breaks : (b : Option State) (s : State) (cs : List ℕ) (k : ℕ) → k ≤ length cs → broken_at b s cs k ≡ true → breaks_from d p b s (take k cs) ≡ true
  unfolding breaks_from run state_before
  first_breaks b s [] zero l e = e
  first_breaks b s [] (suc k) l e = absurd (omega arith)
  first_breaks b s (c ∷ cs) zero l e = e
  first_breaks b s (c ∷ cs) (suc k) l e =
      or_right (not (true_at d p b s)) (breaks_from d p (some s) (step d s c) (take k cs)) (first_breaks (some s) (step d s c) cs k (omega arith) (sym (one_earlier b s c cs k) ∙ e))

  module _ (cs : List ℕ) where
    abbrev answer : Option ℕ
    answer = first_break d p none (start d) cs 0

    -- within the list, breaking at a step is the property being false there
    at_is : (i : ℕ) → i ≤ length cs → breaks_at d p cs i ≡ broken_at none (start d) cs i
    unfolding breaks_at
    at_is i l = ap (λ (t : Bool). t && broken_at none (start d) cs i) (le-leb i (length cs) l)

    -- a list breaks a property exactly where it breaks it at some step
    pub breaks_at_some : breaks d p cs ≡ true → (i : ℕ) × (i ≤ length cs) × (breaks_at d p cs i ≡ true)
    unfolding breaks
    breaks_at_some e = let (i, l, b) = breaks_somewhere none (start d) cs e in (i, l, at_is i l ∙ b)

    pub breaks_from_at : (i : ℕ) → i ≤ length cs → breaks_at d p cs i ≡ true → breaks d p cs ≡ true
    unfolding breaks
    breaks_from_at i l e = somewhere_breaks none (start d) cs i l (sym (at_is i l) ∙ e)

    pub breaks_to : (i : ℕ) → breaks_at d p cs i ≡ true → (i ≤ length cs) × (breaks d p (take i cs) ≡ true)
    unfolding breaks_at breaks
    breaks_to i e = go (leb i (length cs)) refl e
      where
        go : (t : Bool) → leb i (length cs) ≡ t → t && broken_at none (start d) cs i ≡ true → (i ≤ length cs) × (breaks_from d p none (start d) (take i cs) ≡ true)
        go true q h = let l = leb-true i (length cs) q in (l, first_breaks none (start d) cs i l h)
        go false q h = absurd (false≢true h)

    -- the answer is the least step at which it breaks
    pub record Least (i : ℕ) : Type 0 where
      pub inside : i ≤ length cs
      pub broken : breaks_at d p cs i ≡ true
      pub before : (m : ℕ) → m < i → breaks_at d p cs m ≡ false

    pub first_is_least : (i : ℕ) → answer ≡ some i → Least i
    first_is_least i e =
        let (k, q, f) = subst (Found none (start d) cs 0) e (found none (start d) cs 0) in
        let z : i ≡ k = omega arith in
        let n = f.inside in
        subst Least (sym z) (record { inside = n; broken = at_is k n ∙ f.broken; before = λ m l. at_is m (omega arith) ∙ f.before m l })

    pub none_breaks : answer ≡ none → breaks d p cs ≡ false
    unfolding breaks
    none_breaks e = subst (Found none (start d) cs 0) e (found none (start d) cs 0)

    pub breaks_none : breaks d p cs ≡ false → answer ≡ none
    unfolding breaks
    breaks_none h = go answer refl
      where
        go : (o : Option ℕ) → first_break d p none (start d) cs 0 ≡ o → o ≡ none
        go none e = refl
        go (some i) e =
            let (k, q, f) = subst (Found none (start d) cs 0) e (found none (start d) cs 0) in
            absurd (false≢true (sym h ∙ somewhere_breaks none (start d) cs k f.inside f.broken))
