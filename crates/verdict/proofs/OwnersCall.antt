-- The three ways out of the call of several owners.
use mathlib.Core.Path.{◌≡◌, refl, sym, ap, ◌∙◌}
use mathlib.Core.Bool.{Bool, true, false, ◌&&◌}
use mathlib.Core.List.{List}
use Prim.Native.Nat.{ℕ, ◌<◌, ◌≤◌}
use lib.Dec.{leb, ltb}
use lib.ListN.{take}
use borrow.Author.Tests.{le-leb, lt-ltb, ltb-true, leb-true}
use Rattle.design.specs.Tree.{Design}
use Rattle.design.specs.Check.{Checked, check, refusal}
use Rattle.design.specs.Answer.{answer, need, of_checked, on_design}
use Rattle.design.specs.Refusal.{Refusal}
use Rattle.design.proofs.Places.{read}
use Rattle.step.proofs.Gates.{accepted_zero}
use Rattle.verdict.specs.Owners.{Buffers, most_owners, owners_of, after_owners, each_owner, owners}
use Rattle.verdict.specs.Answers.{OwnersExit, owners_exit}
use Rattle.verdict.proofs.Calls.{and_true}

module _ (file : List ℕ) (k : ℕ) (lent : Buffers) (count : ℕ) (pieces : List (List ℕ)) (budgets : List ℕ) (choices : List (List ℕ)) (pointers : List (ℕ × ℕ)) (answers : List (List ℕ)) (r : Refusal) (e : r ≡ refusal (check file)) where
  -- what comes of CHECK and of the count's test
  abbrev came : Checked → Bool → OwnersExit
  came c t = owners_exit (after_owners lent choices (of_checked c (λ (d : Design). need t 20 0 (answer (each_owner file k lent d (take count (owners_of pieces budgets choices)) choices))))) pointers answers

  abbrev test : Bool
  test = ltb 0 count && leb count most_owners

  abbrev kept : Refusal → OwnersExit
  kept x = record { refusal = x; buffers = lent; choices = choices; pointers = pointers; answers = answers }

  -- CHECK's refusal
  pub owners_check : (r.number ≡ 0 → ⊥) → kept r ≡ owners_exit (owners file k lent count pieces budgets choices) pointers answers
  unfolding owners on_design
  owners_check z = go (check file) e
    where
      go : (c : Checked) → r ≡ refusal c → kept r ≡ came c test
      go (Checked.refused number place) q = ap kept q
      go (Checked.accepted d) q = absurd (z (ap (λ (x : Refusal). x.number) q))

  -- 20: no owner, or more than four
  pub owners_20 : r.number ≡ 0 → (0 < count → count ≤ most_owners → ⊥) → kept (record { number = 20; place = 0 }) ≡ owners_exit (owners file k lent count pieces budgets choices) pointers answers
  unfolding owners on_design
  owners_20 z h =
      let w = read file (accepted_zero file r e z) in
      sym (ap (λ (c : Checked). came c test) w.is ∙ ap (came (Checked.accepted w.tree)) (go test refl))
    where
      go : (t : Bool) → test ≡ t → test ≡ false
      go true s = let x = and_true (ltb 0 count) (leb count most_owners) s in absurd (h (ltb-true 0 count x.0) (leb-true count most_owners x.1))
      go false s = s

  -- each owner's answer
  pub owners_each : r.number ≡ 0 → 0 < count → count ≤ most_owners → {buffers : Buffers} {choices' : List (List ℕ)} {pointers' : List (ℕ × ℕ)} {answers' : List (List ℕ)}
      → ((d : Design) → check file ≡ Checked.accepted d
      → record { refusal = record { number = 0; place = 0 }; buffers = buffers; choices = choices'; pointers = pointers'; answers = answers' }
      ≡ owners_exit (each_owner file k lent d (take count (owners_of pieces budgets choices)) choices) pointers answers)
      → record { refusal = r; buffers = buffers; choices = choices'; pointers = pointers'; answers = answers' } ≡ owners_exit (owners file k lent count pieces budgets choices) pointers answers
  unfolding owners on_design
  owners_each z low high {buffers} {choices'} {pointers'} {answers'} f =
      let w = read file (accepted_zero file r e z) in
      let t : test ≡ true = rw (lt-ltb 0 count low, le-leb count most_owners high) in
      ap {B = OwnersExit} (λ (x : Refusal). record { refusal = x; buffers = buffers; choices = choices'; pointers = pointers'; answers = answers' }) (e ∙ ap refusal w.is)
      ∙ f w.tree w.is
      ∙ sym (ap (λ (c : Checked). came c test) w.is ∙ ap (came (Checked.accepted w.tree)) t)
