-- ENCODE's joined parts are the formula's words, so a refutation of them that is accepted says that no run within the bound breaks the property.
use mathlib.Core.Path.{◌≡◌, refl, sym, ap, ap₂, subst, ◌∙◌}
use mathlib.Core.Logic.{◌↔◌}
use mathlib.Core.Bool.{Bool, true}
use mathlib.Core.List.{List, ◌++◌}
use Prim.Native.Nat.{ℕ, zero, suc, ◌+◌, ◌≤◌}
use native.Mathlib.Omega.{arith}
use native.Mathlib.Nat.{le_refl}
use lib.Dec.{leb}
use lib.IntN.{ℤ}
use lib.ListN.{length, take, drop}
use lib.Seq.{take_at}
use borrow.Author.Tests.{le-leb}
use Rattle.design.specs.Tree.{Design}
use Rattle.design.specs.Check.{Checked, check}
use Rattle.design.specs.Answer.{Answer, refused, answer, need}
use Rattle.step.specs.Limits.{last_property, max_bound}
use Rattle.step.specs.Piece.{piece_right}
use Rattle.step.specs.Property.{Property, property_of}
use Rattle.step.specs.Breaking.{Breakable}
use Rattle.step.proofs.Gates.{need_answers}
use Rattle.clauses.specs.Formula.{n, part, parts_from, formula}
use Rattle.clauses.specs.Limits.{last_variable}
use Rattle.clauses.specs.Words.{words, clauses_of}
use Rattle.clauses.specs.Encode.{words_to_write, filled, encode}
use Rattle.clauses.specs.Theorem.{Theorem}
use Rattle.clauses.specs.Meaning.{Satisfiable}
use Rattle.clauses.proofs.Admissions.{admit_in, admit_answers}
use Rattle.clauses.proofs.EmitWords.{words_append}
use Rattle.search.specs.Refutation.{refute}
use Rattle.search.specs.declared.refute.Judged.TheVariants.{Accepted}
use Rattle.design.specs.Answer.{answer}
use Rattle.search.proofs.Refuting.{refute_right}
use Rattle.verdict.specs.Claim.{Wrote, Joined}

same_answer : {A : Type 0} (x y : A) → answer x ≡ answer y → x ≡ y
same_answer x y e = cc

-- words that a call writes, told by what it answers and leaves
filled_are : (a : Answer (List ℤ)) (buffer ws : List ℤ) → (filled a buffer).answer ≡ answer (length ws) → take (length ws) (filled a buffer).buffer ≡ ws → a ≡ answer ws
filled_are (refused number place) buffer ws e q = absurd (let z : ◌≡◌ {A = ℕ} 0 1 = cc in omega arith)
filled_are (answer xs) buffer ws e q =
    let l : length xs ≡ length ws = same_answer (length xs) (length ws) e in
    ap answer (sym (take_at xs (drop (length xs) buffer) (length ws) l) ∙ q)

module _ (file piece : List ℕ) (d : Design) (e : check file ≡ Checked.accepted d) (p k : ℕ) where
  abbrev q : Property
  q = property_of file piece d p

  part_written : (i : ℕ) (ws : List ℤ) → Wrote file piece p k i ws → ws ≡ words (part d q k i)
  unfolding encode words_to_write
  part_written i ws h =
      let a = filled_are (words_to_write file piece p k i (length h.lent)) h.lent ws h.count h.written in
      let g = admit_answers file piece p k _ ws a in
      let same : g.design ≡ d = cc (g.accepted, e) in
      let b = need_answers (leb i (k + 2)) 15 0 _ ws g.same in
      let c = need_answers (leb (length (words (part g.design (property_of file piece g.design p) k i))) (length h.lent)) 16 0 _ ws b.1 in
      sym (same_answer (words (part g.design (property_of file piece g.design p) k i)) ws c.1) ∙ ap (λ (x : Design). words (part x (property_of file piece x p) k i)) same

  parts_joined : (m i : ℕ) (ws : List ℤ) → Joined file piece p k m i ws → ws ≡ words (parts_from d q k m i)
  unfolding parts_from
  parts_joined zero i ws h = h
  parts_joined (suc m) i ws h =
      h.4 ∙ ap₂ ◌++◌ (part_written i h.0 h.2) (parts_joined m (suc i) h.1 h.3) ∙ sym (words_append (part d q k i) (parts_from d q k m (suc i)))

  -- and the other way: each part's words are what a call with just room for them writes
  module _ (low : p ≤ last_property file) (right : piece_right file piece p ≡ true) (few : k ≤ max_bound) (numbers : n d q k ≤ last_variable) where
    writes : (i : ℕ) → i ≤ k + 2 → Wrote file piece p k i (words (part d q k i))
    unfolding encode words_to_write
    writes i l =
        let ws = words (part d q k i) in
        let asks = admit_in file piece p k _ d e low right few numbers in
        let is : words_to_write file piece p k i (length ws) ≡ answer ws = asks ∙ ap₂ (λ (t u : Bool). need t 15 0 (need u 16 0 (answer ws))) (le-leb i (k + 2) l) (le-leb (length ws) (length ws) (le_refl (length ws))) in
        record {
          lent = ws;
          count = ap (λ (a : Answer (List ℤ)). (filled a ws).answer) is;
          written = ap (λ (a : Answer (List ℤ)). take (length ws) (filled a ws).buffer) is ∙ take_at ws (drop (length ws) ws) (length ws) refl;
        }

    joins : (m i : ℕ) → i + m ≤ k + 3 → Joined file piece p k m i (words (parts_from d q k m i))
    unfolding parts_from
    joins zero i l = refl
    joins (suc m) i l =
        (words (part d q k i), words (parts_from d q k m (suc i)), writes i (omega arith), joins m (suc i) (omega arith), words_append (part d q k i) (parts_from d q k m (suc i)))

    pub joined : (list : List ℤ) → Joined file piece p k (k + 3) 0 list ↔ (list ≡ words (formula d q k))
    unfolding formula
    joined list = (parts_joined (k + 3) 0 list, λ same. subst (Joined file piece p k (k + 3) 0) (sym same) (joins (k + 3) 0 (omega arith)))

  pub refuted : Theorem d q k → (list : List ℤ) → Joined file piece p k (k + 3) 0 list → (variables : ℕ) (refutation : List ℤ) (values : List ℕ)
      → (refute variables list refutation values).reply ≡ answer Accepted → Breakable d q k → ⊥
  unfolding formula
  refuted th list h variables refutation values a b =
      let says : clauses_of list ≡ formula d q k = ap clauses_of (parts_joined (k + 3) 0 list h) ∙ th.words in
      (refute_right variables list refutation values).sound a (subst Satisfiable (sym says) (th.satisfiable.1 b))
