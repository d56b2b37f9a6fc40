-- A list of choices with its idle ones struck out: not longer, of movers' numbers where the list is, without an idle choice, and it breaks property 0 or 1 where the list does. Assumes nothing.
use Rattle.std.proofs.Common.{◌≡◌, ℕ, suc, ◌<◌, ◌≤◌, Bool, true, false, cond, not, ◌&&◌, ◌||◌, List, [], ◌∷◌, length, sym, refl, ap, ◌∙◌, subst, arith}
use mathlib.Core.Bool.{false≢true}
use mathlib.Core.Option.{Option, none, some}
use lib.ListN.{get_elem?}
use Rattle.design.specs.Tree.{Design, Mover, movers}
use Rattle.design.specs.State.{State, layout}
use Rattle.step.specs.Property.{Property}
use Rattle.step.specs.OneStep.{enabled, effect, move, moved, idles, step, idle, true_at, holds, breaks_from}
use Rattle.step.specs.Breaking.{AllBelow}
use Rattle.step.specs.Strict.{none_enabled, strict_at, strict_from, idles_from}
use Rattle.step.proofs.Breaks.{or_right}
use Rattle.step.proofs.Longer.{breaks_now}

module _ (d : Design) where
  -- an idle step leads to the state that it starts from
  pub idle_stays : (s : State) (c : ℕ) → idle d s c ≡ true → step d s c ≡ s
  unfolding move step idle
  idle_stays s c e = go (get_elem? (movers d) c) e
    where
      not_enabled : (m : Mover) (t : Bool) → not t ≡ true → cond t (effect (layout d) s m) s ≡ s
      not_enabled m true q = absurd (false≢true q)
      not_enabled m false q = refl

      go : (o : Option Mover) → idles (layout d) s o ≡ true → moved (layout d) s o ≡ s
      go none q = refl
      go (some m) q = not_enabled m (enabled (layout d) s m) q

  -- a strict choice that idles is one where no mover is enabled; and a choice is strict where it does not idle, and where no mover is enabled
  module _ (s : State) (c : ℕ) where
    pub strict_idle : strict_at d s c ≡ true → idle d s c ≡ true → none_enabled (layout d) s (movers d) ≡ true
    unfolding strict_at
    strict_idle h q = sym (ap (λ (t : Bool). not t || none_enabled (layout d) s (movers d)) q) ∙ h

    pub strict_moves : idle d s c ≡ false → strict_at d s c ≡ true
    unfolding strict_at
    strict_moves q = rw q

    pub strict_none : none_enabled (layout d) s (movers d) ≡ true → strict_at d s c ≡ true
    unfolding strict_at
    strict_none e = go (idle d s c) refl
      where
        go : (t : Bool) → idle d s c ≡ t → strict_at d s c ≡ true
        go true q = rw (q, e)
        go false q = rw q

  abbrev pub strike : State → List ℕ → List ℕ
  strike s [] = []
  strike s (c ∷ cs) = cond (idle d s c) (strike (step d s c) cs) (c ∷ strike (step d s c) cs)

  pub strike_shorter : (s : State) (cs : List ℕ) → length (strike s cs) ≤ length cs
  strike_shorter s [] = omega arith
  strike_shorter s (c ∷ cs) = go (idle d s c) (strike (step d s c) cs) (strike_shorter (step d s c) cs)
    where
      go : (t : Bool) (l : List ℕ) → length l ≤ length cs → length (cond t l (c ∷ l)) ≤ suc (length cs)
      go true l h = omega arith
      go false l h = omega arith

  pub strike_fewer : (s : State) (cs : List ℕ) → idles_from d s cs ≡ true → length (strike s cs) < length cs
  unfolding idles_from
  strike_fewer s [] e = absurd (false≢true e)
  strike_fewer s (c ∷ cs) e = go (idle d s c) (strike (step d s c) cs) e (strike_shorter (step d s c) cs) (strike_fewer (step d s c) cs)
    where
      go : (t : Bool) (l : List ℕ) → t || idles_from d (step d s c) cs ≡ true → length l ≤ length cs → (idles_from d (step d s c) cs ≡ true → length l < length cs)
          → length (cond t l (c ∷ l)) < suc (length cs)
      go true l q h f = omega arith
      go false l q h f = let k = f q in omega arith

  pub strike_below : (m : ℕ) (s : State) (cs : List ℕ) → AllBelow m cs → AllBelow m (strike s cs)
  strike_below m s [] h = tt
  strike_below m s (c ∷ cs) h = go (idle d s c) (strike (step d s c) cs) (strike_below m (step d s c) cs h.1)
    where
      go : (t : Bool) (l : List ℕ) → AllBelow m l → AllBelow m (cond t l (c ∷ l))
      go true l b = b
      go false l b = (h.0, b)

  pub strike_idles : (s : State) (cs : List ℕ) → idles_from d s (strike s cs) ≡ false
  unfolding idles_from
  strike_idles s [] = refl
  strike_idles s (c ∷ cs) = go (idle d s c) refl (strike (step d s c) cs) (strike_idles (step d s c) cs)
    where
      go : (t : Bool) → idle d s c ≡ t → (l : List ℕ) → idles_from d (step d s c) l ≡ false → idles_from d s (cond t l (c ∷ l)) ≡ false
      go true q l h = subst (λ (x : State). idles_from d x l ≡ false) (idle_stays s c q) h
      go false q l h = ap (λ (t : Bool). t || idles_from d (step d s c) l) q ∙ h

  -- a list that never idles is strict
  pub never_strict : (s : State) (cs : List ℕ) → idles_from d s cs ≡ false → strict_from d s cs ≡ true
  unfolding idles_from strict_from
  never_strict s [] e = refl
  never_strict s (c ∷ cs) e = go (idle d s c) refl e (never_strict (step d s c) cs)
    where
      go : (t : Bool) → idle d s c ≡ t → t || idles_from d (step d s c) cs ≡ false → (idles_from d (step d s c) cs ≡ false → strict_from d (step d s c) cs ≡ true)
          → strict_at d s c && strict_from d (step d s c) cs ≡ true
      go true q h f = absurd (false≢true (sym h))
      go false q h f = rw (strict_moves s c q, f h)

  -- of a property that does not look at the state before: 0 or 1
  module _ (p : Property) (now : (before : Option State) (s : State) → holds d p s ≡ true_at d p before s) where
    unread : (a b : Option State) (s : State) → true_at d p a s ≡ true_at d p b s
    unread a b s = sym (now a s) ∙ now b s

    pub strike_breaks : (a b : Option State) (s : State) (cs : List ℕ) → breaks_from d p a s cs ≡ true → breaks_from d p b s (strike s cs) ≡ true
    unfolding breaks_from
    strike_breaks a b s [] e = ap not (unread b a s) ∙ e
    strike_breaks a b s (c ∷ cs) e =
        go (not (true_at d p a s)) refl e (strike_breaks (some s) b (step d s c) cs) (strike_breaks (some s) (some s) (step d s c) cs)
      where
        rest : List ℕ
        rest = strike (step d s c) cs

        on : (t : Bool) → idle d s c ≡ t → breaks_from d p b (step d s c) rest ≡ true → breaks_from d p (some s) (step d s c) rest ≡ true → breaks_from d p b s (cond t rest (c ∷ rest)) ≡ true
        on true q f g = subst (λ (x : State). breaks_from d p b x rest ≡ true) (idle_stays s c q) f
        on false q f g = or_right (not (true_at d p b s)) (breaks_from d p (some s) (step d s c) rest) g

        go : (t : Bool) → not (true_at d p a s) ≡ t → t || breaks_from d p (some s) (step d s c) cs ≡ true
            → (breaks_from d p (some s) (step d s c) cs ≡ true → breaks_from d p b (step d s c) rest ≡ true)
            → (breaks_from d p (some s) (step d s c) cs ≡ true → breaks_from d p (some s) (step d s c) rest ≡ true)
            → breaks_from d p b s (strike s (c ∷ cs)) ≡ true
        go true q h f g = breaks_now d p b s (strike s (c ∷ cs)) (ap not (unread b a s) ∙ q)
        go false q h f g = on (idle d s c) refl (f h) (g h)
