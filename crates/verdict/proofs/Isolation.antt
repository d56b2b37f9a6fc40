-- Each owner's answer, tries and choices are VERDICT's alone, so they do not depend on the others.
use mathlib.Core.Path.{◌≡◌, refl, sym, ap, ◌∙◌}
use mathlib.Core.Bool.{Bool, true, false, ◌&&◌}
use mathlib.Core.List.{List, [], ◌∷◌, ◌++◌, map}
use Prim.Native.Nat.{ℕ, zero, suc, ◌<◌, ◌≤◌}
use native.Mathlib.Omega.{arith}
use lib.Dec.{leb, ltb}
use lib.ListN.{length, get_or, take, drop, length-take, length-map, get_or-append}
use lib.Seq.{get_or-take}
use borrow.Author.Tests.{le-leb, lt-ltb, ltb-true, leb-true}
use Rattle.design.specs.Tree.{Design}
use Rattle.design.specs.Check.{Checked, check}
use Rattle.design.specs.Answer.{refused, answer, need, of_checked, on_design}
use Rattle.step.specs.Gate.{gate}
use Rattle.clauses.specs.Admission.{admit}
use Rattle.verdict.specs.Verdict.{Told, Memory, After, verdict}
use Rattle.verdict.specs.Owners.{Owner, Buffers, most_owners, with_choices, alone, owners_of, after_owners, each_owner, owners}
use Rattle.verdict.specs.Isolation.{OwnersResult, result_of, Owns, SameLengths, EqualsAlone, Isolated}
use Rattle.verdict.proofs.Unread.{verdict_alike}
use Rattle.verdict.proofs.OwnersLoop.{nobody, owner_at}
use Rattle.verdict.proofs.Calls.{and_true}

-- owner i, among those that are counted
there : (pieces : List (List ℕ)) (budgets : List ℕ) (choices : List (List ℕ)) (i m : ℕ) → i < m → i < length pieces → i < length budgets → i < length choices
    → (i < length (take m (owners_of pieces budgets choices))) × (get_or (take m (owners_of pieces budgets choices)) i nobody ≡ record { piece = get_or pieces i []; budget = get_or budgets i 0; choices = get_or choices i [] })
there pieces budgets choices i m l a b c =
    let r = owner_at pieces budgets choices i a b c in
    (omega (arith, r.0, length-take m (owners_of pieces budgets choices)), get_or-take m (owners_of pieces budgets choices) i nobody l ∙ r.1)

mapped : {A B : Type 0} (f : A → B) (z : A) (y : B) (l : List A) (i : ℕ) → i < length l → get_or (map f l) i y ≡ f (get_or l i z)
mapped f z y [] i g = absurd (omega arith)
mapped f z y (x ∷ l) zero g = refl
mapped f z y (x ∷ l) (suc i) g = mapped f z y l i (omega arith)

-- of VERDICT's answer and leavings
abbrev result : After → OwnersResult
result a = record { answer = a.answer; choices = a.memory.choices }

module _ (file : List ℕ) (k count i : ℕ) (o : Owner) (pieces : List (List ℕ)) (budgets : List ℕ) (choices : List (List ℕ)) (h : Owns i count pieces budgets choices o) (lent : Buffers) where
  abbrev os : List Owner
  os = take count (owners_of pieces budgets choices)

  found : (i < length os) × (get_or os i nobody ≡ o)
  found =
      let r = there pieces budgets choices i count h.counted h.has_piece h.has_budget h.has_choices in
      (r.0, r.1 ∙ (λ j. record { piece = h.own_piece j; budget = h.own_budget j; choices = h.own_choices j }))

  result_each : (d : Design) → result_of i (each_owner file k lent d os choices) ≡ result (alone file k lent o)
  unfolding each_owner
  result_each d =
      let told = mapped (λ (x : Owner). (alone file k lent x).answer) nobody (refused 0 0) os i found.0 in
      let front = map (λ (x : Owner). (alone file k lent x).memory.choices) os in
      let in_front : i < length front = omega (arith, found.0, length-map os (λ (x : Owner). (alone file k lent x).memory.choices)) in
      let left : get_or (front ++ drop (length os) choices) i [] ≡ (alone file k lent (get_or os i nobody)).memory.choices =
      get_or-append front (drop (length os) choices) [] i in_front ∙ mapped (λ (x : Owner). (alone file k lent x).memory.choices) nobody [] os i found.0 in
      (λ j. record { answer = told j; choices = left j }) ∙ ap (λ (x : Owner). result (alone file k lent x)) found.1

  result_refused : (number place : ℕ) → result_of i (after_owners lent choices (refused number place)) ≡ record { answer = refused number place; choices = o.choices }
  result_refused number place = λ j. record { answer = refused number place; choices = h.own_choices j }

-- the buffers may be others of the same lengths
result_alike : (file : List ℕ) (k : ℕ) (o : Owner) (lent other : Buffers) → SameLengths lent other → result (alone file k lent o) ≡ result (alone file k other o)
unfolding alone
result_alike file k o lent other same =
    let a = verdict_alike file o.piece 0 k o.budget o.choices lent other same in
    λ j. record { answer = a.answer j; choices = a.choices j }

-- what CHECK refuses, VERDICT refuses, and keeps the choices
check_refuses : (file piece : List ℕ) (k budget : ℕ) (lent : Memory) (number place : ℕ) → check file ≡ Checked.refused number place
    → result (verdict file piece 0 k budget lent) ≡ record { answer = refused number place; choices = lent.choices }
unfolding verdict admit gate on_design
check_refuses file piece k budget lent number place e = rw e

pub equals_alone : EqualsAlone
unfolding owners on_design alone
equals_alone file k count low high pieces budgets choices i o h lent other same = go (check file) refl (ltb 0 count && leb count most_owners) t
  where
    t : (ltb 0 count && leb count most_owners) ≡ true
    t = rw (lt-ltb 0 count low, le-leb count most_owners high)

    go : (c : Checked) → check file ≡ c → (b : Bool) → b ≡ true
        → result_of i (after_owners lent choices (of_checked c (λ (d : Design). need b 20 0 (answer (each_owner file k lent d (take count (owners_of pieces budgets choices)) choices)))))
        ≡ result (verdict file o.piece 0 k o.budget (with_choices other o.choices))
    go (Checked.refused number place) e b s =
        result_refused file k count i o pieces budgets choices h lent number place ∙ sym (check_refuses file o.piece k o.budget (with_choices other o.choices) number place e)
    go (Checked.accepted d) e true s = result_each file k count i o pieces budgets choices h lent d ∙ result_alike file k o lent other same
    go (Checked.accepted d) e false s = absurd (let z : ◌≡◌ {A = ℕ} 0 1 = cc in omega arith)

pub isolated : Isolated
unfolding owners on_design
isolated file k count o pieces budgets choices i h pieces' budgets' choices' j h' lent lent' same = go (check file) (ltb 0 count && leb count most_owners)
  where
    go : (c : Checked) (t : Bool)
        → result_of i (after_owners lent choices (of_checked c (λ (d : Design). need t 20 0 (answer (each_owner file k lent d (take count (owners_of pieces budgets choices)) choices)))))
        ≡ result_of j (after_owners lent' choices' (of_checked c (λ (d : Design). need t 20 0 (answer (each_owner file k lent' d (take count (owners_of pieces' budgets' choices')) choices')))))
    go (Checked.refused number place) t = result_refused file k count i o pieces budgets choices h lent number place ∙ sym (result_refused file k count j o pieces' budgets' choices' h' lent' number place)
    go (Checked.accepted d) false = result_refused file k count i o pieces budgets choices h lent 20 0 ∙ sym (result_refused file k count j o pieces' budgets' choices' h' lent' 20 0)
    go (Checked.accepted d) true =
        result_each file k count i o pieces budgets choices h lent d ∙ result_alike file k o lent lent' same ∙ sym (result_each file k count j o pieces' budgets' choices' h' lent' d)

-- an owner of an accepted file that is not refused: so the call is not
pub owner_counted : (file : List ℕ) (d : Design) → check file ≡ Checked.accepted d → (k count i : ℕ) (pieces : List (List ℕ)) (budgets : List ℕ) (choices : List (List ℕ)) (lent : Buffers) (told : Told)
    → (result_of i (owners file k lent count pieces budgets choices)).answer ≡ answer told → (0 < count) × (count ≤ most_owners)
unfolding owners on_design
owner_counted file d e k count i pieces budgets choices lent told h = go (ltb 0 count && leb count most_owners) refl (rw e at h)
  where
    go : (t : Bool) → (ltb 0 count && leb count most_owners) ≡ t
        → (result_of i (after_owners lent choices (need t 20 0 (answer (each_owner file k lent d (take count (owners_of pieces budgets choices)) choices))))).answer ≡ answer told
        → (0 < count) × (count ≤ most_owners)
    go false q r = absurd (let z : ◌≡◌ {A = ℕ} 0 1 = cc in omega arith)
    go true q r = let x = and_true (ltb 0 count) (leb count most_owners) q in (ltb-true 0 count x.0, leb-true count most_owners x.1)
