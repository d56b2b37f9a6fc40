-- VERDICT's answer and choices do not depend on what the clause, value and trail buffers hold, only on how long they are. DECODE reads flags of frames before the bound's, and these lie among
-- the first n values, which the search has set.
use mathlib.Core.Path.{◌≡◌, refl, sym, ap, ap₂, ◌∙◌}
use mathlib.Core.Bool.{Bool, true, false, ◌&&◌}
use mathlib.Core.List.{List, ◌++◌}
use Prim.Native.Nat.{ℕ, zero, suc, ◌+◌, ◌-◌, ◌<◌, ◌≤◌}
use native.Mathlib.Omega.{arith}
use lib.Dec.{leb}
use lib.ListN.{length, take, drop, length-append, length-drop}
use lib.Seq.{take-append-le, drop-append-le}
use Rattle.design.specs.Tree.{Design}
use Rattle.design.specs.Check.{Checked, check}
use Rattle.design.specs.Answer.{Answer, answer, need, of_checked, on_design}
use Rattle.step.specs.Gate.{gate}
use Rattle.step.specs.Limits.{last_property, max_bound}
use Rattle.step.specs.Piece.{piece_right}
use Rattle.step.specs.Property.{Property, property_of}
use Rattle.clauses.specs.Formula.{S, P, w, F, frame, n}
use Rattle.clauses.specs.Limits.{last_variable}
use Rattle.clauses.specs.Admission.{admit}
use Rattle.clauses.specs.Decode.{AfterDecode, first_one, just_one, with_choice, flag_values, chosen_from, choices_of, choices_to_write, written, decode}
use Rattle.clauses.proofs.Within.{n_up}
use Rattle.search.specs.Search.{up_to, SAT, UNSAT, SPENT, Outcome}
use Rattle.search.specs.Search as search
use Rattle.search.specs.Solve.{values_left}
use Rattle.verdict.specs.Verdict.{Verdict, VIOLATED, CLEAN, SPENT-AT, Told, Judged, decided, searched, judged_from, judge, Memory, After, choices_left, memory_left, room_for, after_call, verdict}
use Rattle.verdict.specs.Owners.{Buffers, with_choices, last_tried}
use Rattle.verdict.specs.Isolation.{SameLengths}
use Rattle.verdict.proofs.Loop.{left_long}

-- a window within a front does not show what is behind the front
window : {A : Type 0} (m a : ℕ) (front xs ys : List A) → a + m ≤ length front → take m (drop a (front ++ xs)) ≡ take m (drop a (front ++ ys))
window m a front xs ys h =
    let l : m ≤ length (drop a front) = omega (arith, length-drop a front) in
    ap (take m) (drop-append-le a front xs (omega arith))
    ∙ take-append-le m (drop a front) xs l
    ∙ sym (take-append-le m (drop a front) ys l)
    ∙ sym (ap (take m) (drop-append-le a front ys (omega arith)))

module _ (d : Design) (q : Property) (k : ℕ) (front xs ys : List ℕ) (long : length front ≡ n d q k) where
  -- the flags of a frame before the bound's
  flags_inside : (j : ℕ) → j < k → frame d q j + S d + P d q - 1 + w d ≤ n d q k
  unfolding n frame F
  flags_inside j h = let up = n_up d q (suc j) k h in omega (arith, up)

  flags_same : (j : ℕ) → j < k → flag_values d q (front ++ xs) j ≡ flag_values d q (front ++ ys) j
  unfolding flag_values
  flags_same j h = window (w d) (frame d q j + S d + P d q - 1) front xs ys (omega (arith, flags_inside j h))

  chosen_same : (m j : ℕ) → j + m ≤ k → chosen_from d q (front ++ xs) m j ≡ chosen_from d q (front ++ ys) m j
  unfolding chosen_from
  chosen_same zero j h = refl
  chosen_same (suc m) j h =
      ap₂ (λ (f : List ℕ) (r : Answer (List ℕ)). need (just_one f) 18 j (with_choice (first_one f) r)) (flags_same j (omega arith)) (chosen_same m (suc j) (omega arith))

  choices_same : length xs ≡ length ys → (room : ℕ) → choices_of d q k (front ++ xs) room ≡ choices_of d q k (front ++ ys) room
  unfolding choices_of
  choices_same e room =
      let z : length (front ++ xs) ≡ length (front ++ ys) = length-append front xs ∙ ap (λ (x : ℕ). length front + x) e ∙ sym (length-append front ys) in
      ap₂ (λ (x : ℕ) (r : Answer (List ℕ)). need (leb (n d q k) x && leb k room) 16 0 r) z (chosen_same k 0 (omega arith))

-- a call on an accepted file says what it says of that file's design
module _ {A : Type 0} (file piece : List ℕ) (p k : ℕ) (d : Design) (e : check file ≡ Checked.accepted d) where
  admit_same : (f g : Design → Property → Answer A) → f d (property_of file piece d p) ≡ g d (property_of file piece d p) → admit file piece p k f ≡ admit file piece p k g
  unfolding admit gate on_design
  admit_same f g h = rw (e, h)

decode_same : (file piece : List ℕ) (p k : ℕ) (d : Design) → check file ≡ Checked.accepted d → (front xs ys choices : List ℕ) → length front ≡ n d (property_of file piece d p) k → length xs ≡ length ys
    → decode file piece p k (front ++ xs) choices ≡ decode file piece p k (front ++ ys) choices
unfolding decode choices_to_write
decode_same file piece p k d e front xs ys choices long same =
    ap (λ (r : Answer (List ℕ)). written r choices)
    (admit_same file piece p k d e (λ d q. choices_of d q k (front ++ xs) (length choices)) (λ d q. choices_of d q k (front ++ ys) (length choices))
    (choices_same d (property_of file piece d p) k front xs ys long same (length choices)))

-- the verdict tells the last bound tried
decided_last : (k : ℕ) (a : search.Answer) (tries i : ℕ) (o : Outcome) (rest : Judged) → last_tried k rest.told.verdict ≡ rest.bound
    → last_tried k (decided a tries i o rest).told.verdict ≡ (decided a tries i o rest).bound
decided_last k (SAT settings) tries i o rest h = refl
decided_last k UNSAT tries i o rest h = h
decided_last k SPENT tries i o rest h = refl

module _ (d : Design) (q : Property) (k budget : ℕ) where
  last_from : (m i t : ℕ) → i + m ≡ k → last_tried k (judged_from d q budget m i t).told.verdict ≡ (judged_from d q budget m i t).bound
  unfolding judged_from
  last_from zero i t e = let o = searched d q (up_to (budget - t)) i in decided_last k o.answer (t + o.tries) i o _ (omega arith)
  last_from (suc m) i t e = let o = searched d q (up_to (budget - t)) i in decided_last k o.answer (t + o.tries) i o _ (last_from m (suc i) (t + o.tries) (omega arith))

  pub last_tried_lem : last_tried k (judge d q k budget).told.verdict ≡ (judge d q k budget).bound
  unfolding judge
  last_tried_lem = last_from k 0 0 (omega arith)

-- an answer and choices that are the same
pub record Alike (a b : After) : Type 0 where
  pub answer : a.answer ≡ b.answer
  pub choices : a.memory.choices ≡ b.memory.choices

module _ (file piece : List ℕ) (p k budget : ℕ) (choices : List ℕ) (lent other : Buffers) (same : SameLengths lent other) where
  abbrev mine : Memory
  mine = with_choices lent choices

  abbrev yours : Memory
  yours = with_choices other choices

  module _ (d : Design) (e : check file ≡ Checked.accepted d) where
    abbrev q : Property
    q = property_of file piece d p

    left_same : (v : Verdict) (b : ℕ) (a : search.Answer) → last_tried k v ≡ b
        → choices_left file piece d p v (values_left (n d q b) a ++ drop (n d q b) lent.values) choices ≡ choices_left file piece d p v (values_left (n d q b) a ++ drop (n d q b) other.values) choices
    left_same (VIOLATED i) b a h =
        ap (λ (r : AfterDecode). r.choices)
        (decode_same file piece p i d e (values_left (n d q b) a) (drop (n d q b) lent.values) (drop (n d q b) other.values) choices
        (left_long (n d q b) a ∙ ap (n d q) (sym h))
        (length-drop (n d q b) lent.values ∙ ap (λ (x : ℕ). x - n d q b) same.values ∙ sym (length-drop (n d q b) other.values)))
    left_same CLEAN b a h = refl
    left_same (SPENT-AT i) b a h = refl

    memory_same : (memory_left file piece d p (judge d q k budget) mine).choices ≡ (memory_left file piece d p (judge d q k budget) yours).choices
    unfolding memory_left
    memory_same = let j = judge d q k budget in left_same j.told.verdict j.bound j.outcome.answer (last_tried_lem d q k budget)

    room_same : room_for d q k mine ≡ room_for d q k yours
    unfolding room_for
    room_same = rw (same.clauses, same.values, same.trail)

  -- of what a call comes to
  abbrev AlikeAfter : Answer (Told × Memory) → Answer (Told × Memory) → Type 0
  AlikeAfter r s = Alike (after_call mine r) (after_call yours s)

  alike_need : (t : Bool) (number place : ℕ) (r s : Answer (Told × Memory)) → AlikeAfter r s → AlikeAfter (need t number place r) (need t number place s)
  alike_need true number place r s h = h
  alike_need false number place r s h = record { answer = refl; choices = refl }

  alike_checked : (c : Checked) → check file ≡ c → (f g : Design → Answer (Told × Memory)) → ((d : Design) → check file ≡ Checked.accepted d → AlikeAfter (f d) (g d)) → AlikeAfter (of_checked c f) (of_checked c g)
  alike_checked (Checked.refused number place) e f g h = record { answer = refl; choices = refl }
  alike_checked (Checked.accepted d) e f g h = h d e

  -- past 13, 8, 14 and 19, and the whole
  module _ (d : Design) (e : check file ≡ Checked.accepted d) where
    abbrev from16 : Memory → Answer (Told × Memory)
    from16 m = need (room_for d (q d e) k m) 16 0 (answer ((judge d (q d e) k budget).told, memory_left file piece d p (judge d (q d e) k budget) m))

    abbrev from19 : Memory → Answer (Told × Memory)
    from19 m = need (leb (n d (q d e) k) last_variable) 19 0 (from16 m)

    abbrev from14 : Memory → Answer (Told × Memory)
    from14 m = need (leb k max_bound) 14 0 (from19 m)

    abbrev from8 : Memory → Answer (Told × Memory)
    from8 m = need (piece_right file piece p) 8 0 (from14 m)

    alike_told : AlikeAfter (from16 mine) (from16 yours)
    alike_told = rw (room_same d e) (alike_need (room_for d (q d e) k yours) 16 0 _ _ (record { answer = refl; choices = memory_same d e }))

    alike_accepted : AlikeAfter (need (leb p (last_property file)) 13 0 (from8 mine)) (need (leb p (last_property file)) 13 0 (from8 yours))
    alike_accepted =
        alike_need (leb p (last_property file)) 13 0 (from8 mine) (from8 yours)
        (alike_need (piece_right file piece p) 8 0 (from14 mine) (from14 yours)
        (alike_need (leb k max_bound) 14 0 (from19 mine) (from19 yours)
        (alike_need (leb (n d (q d e) k) last_variable) 19 0 (from16 mine) (from16 yours) alike_told)))

  pub verdict_alike : Alike (verdict file piece p k budget mine) (verdict file piece p k budget yours)
  unfolding verdict admit gate on_design
  verdict_alike = alike_checked (check file) refl _ _ alike_accepted
