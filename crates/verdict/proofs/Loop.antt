-- The loop over the bounds: how it starts, goes on and ends.
use mathlib.Core.Path.{◌≡◌, refl, sym, ap, ◌∙◌}
use mathlib.Core.Bool.{true}
use mathlib.Core.List.{List, ◌++◌}
use Prim.Native.Nat.{ℕ, zero, suc, ◌+◌, ◌-◌, ◌<◌, ◌≤◌}
use native.Mathlib.Omega.{arith}
use native.Mathlib.Numerals.{add-one}
use lib.IntN.{ℤ}
use lib.ListN.{length, drop, replicate, length-append, length-drop, length-replicate}
use lib.Seq.{drop-append-add, drop-drop}
use Rattle.design.specs.Tree.{Design}
use Rattle.design.specs.Check.{Checked, check}
use Rattle.design.specs.WellFormed.{WellFormed}
use Rattle.step.specs.Piece.{piece_right}
use Rattle.step.specs.Property.{Property, property_of}
use Rattle.clauses.specs.Words.{words}
use Rattle.clauses.specs.Formula.{n, formula}
use Rattle.step.specs.Limits.{last_property, max_bound}
use Rattle.clauses.specs.Limits.{last_variable}
use Rattle.clauses.specs.Decode.{decode}
use Rattle.search.specs.Search.{up_to, Answer, SAT, UNSAT, SPENT, Outcome}
use Rattle.search.specs.Solve.{values_left}
use Rattle.search.specs.Answers.{declared_answer}
use Rattle.search.specs.declared.Answered.TheVariants.{Sat, Unsat, Spent}
use Rattle.search.specs.declared.Solved.{Solved}
use Rattle.search.proofs.Values.{length_from}
use Rattle.verdict.specs.Verdict.{Verdict, VIOLATED, CLEAN, SPENT-AT, Judged, judged, decided, searched, judged_from, judge, Memory, choices_left, memory_left, verdict}
use Rattle.verdict.specs.Answers.{declared_verdict, declared_told, Exit, exit}
use Rattle.verdict.specs.Loop.{Judging, Tried}
use Rattle.verdict.specs.declared.answer.Verdict.TheVariants.{Violated, Clean, Spent as SpentAt}
use Rattle.clauses.proofs.Within.{n_up}
use Rattle.verdict.proofs.Growing.{words_grow}
use Rattle.verdict.proofs.Calls.{Room, answers}
use Rattle.verdict.proofs.Judging.{tries_most}
use Rattle.design.specs.Answer.{answer}

-- a front of a entries written over a list
module _ {A : Type 0} (ws xs : List A) (a : ℕ) (e : length ws ≡ a) where
  front_kept : (ys : List A) (m : ℕ) → a ≤ m → drop a xs ≡ drop a ys → drop m (ws ++ drop a xs) ≡ drop m ys
  front_kept ys m h q =
      let p : m ≡ length ws + (m - a) = omega arith in
      let r : a + (m - a) ≡ m = omega arith in
      ap (λ (j : ℕ). drop j (ws ++ drop a xs)) p ∙ drop-append-add ws (drop a xs) (m - a) ∙ ap (drop (m - a)) q ∙ drop-drop (m - a) a ys ∙ ap (λ (j : ℕ). drop j ys) r

  pub front_long : a ≤ length xs → length (ws ++ drop a xs) ≡ length xs
  front_long h = omega (arith, length-append ws (drop a xs), length-drop a xs)

pub left_long : (m : ℕ) (a : Answer) → length (values_left m a) ≡ m
left_long m (SAT ss) = length_from ss 1 m
left_long m UNSAT = length-replicate m 0
left_long m SPENT = length-replicate m 0

module _ (file piece : List ℕ) (d : Design) (wf : WellFormed d) (number k budget : ℕ) (lent : Memory) (room : Room d (property_of file piece d number) k lent) where
  abbrev p : Property
  p = property_of file piece d number

  pub judging_start : Judging d p k budget lent 0 0 lent.clauses lent.values lent.trail
  unfolding judge
  judging_start = record {
    low = omega arith;
    paid = omega arith;
    same = let e : k - 0 ≡ k = omega arith in ap (λ (m : ℕ). judged_from d p budget m 0 0) e;
    clauses_kept = refl;
    values_kept = refl;
    trail_kept = refl;
    clauses_long = refl;
    values_long = refl;
    trail_long = refl;
  }

  -- where bound i is UNSAT and m bounds are left
  rest : ℕ → ℕ → ℕ → Outcome → Judged
  rest zero i t o = judged CLEAN (t + o.tries) i o
  rest (suc m) i t o = judged_from d p budget m (suc i) (t + o.tries)

  judged_step : (m i t : ℕ) → judged_from d p budget m i t ≡ (let o = searched d p (up_to (budget - t)) i in decided o.answer (t + o.tries) i o (rest m i t o))
  unfolding judged_from rest
  judged_step zero i t = refl
  judged_step (suc m) i t = refl

  module _ {i t : ℕ} {clauses : List ℤ} {values trail : List ℕ} (j : Judging d p k budget lent i t clauses values trail) where
    -- there is room for bound i
    pub words_fit : length (words (formula d p i)) ≤ length clauses
    words_fit = omega (arith, words_grow d p j.low wf, room.clauses, j.clauses_long)

    pub values_fit : n d p i ≤ length values
    values_fit = omega (arith, n_up d p i k j.low, room.values, j.values_long)

    pub trail_fit : n d p i ≤ length trail
    trail_fit = omega (arith, n_up d p i k j.low, room.trail, j.trail_long)

    module _ {r : Solved} {clauses' : List ℤ} {values' trail' : List ℕ} (x : Tried d p k budget lent i t clauses values trail r clauses' values' trail') where
      o : Outcome
      o = searched d p (up_to (budget - t)) i

      same_tries : r.tries ≡ o.tries
      unfolding o
      same_tries = ap (λ (y : Solved). y.tries) x.result

      same_answer : r.answer ≡ declared_answer o.answer
      unfolding o
      same_answer = ap (λ (y : Solved). y.answer) x.result

      pub tries_fit : t + r.tries ≤ budget
      unfolding o
      tries_fit = omega (arith, same_tries, tries_most d p (budget - t) i, j.paid)

      judge_is : judge d p k budget ≡ decided o.answer (t + o.tries) i o (rest (k - i) i t o)
      unfolding o
      judge_is = sym j.same ∙ judged_step (k - i) i t

      on_sat : r.answer ≡ Sat → judge d p k budget ≡ judged (VIOLATED i) (t + r.tries) i o
      on_sat q = judge_is ∙ go o.answer (sym same_answer ∙ q) ∙ ap (λ (y : ℕ). judged (VIOLATED i) (t + y) i o) (sym same_tries)
        where
          go : (a : Answer) → declared_answer a ≡ Sat → decided a (t + o.tries) i o (rest (k - i) i t o) ≡ judged (VIOLATED i) (t + o.tries) i o
          go (SAT ss) e = refl
          go UNSAT e = absurd (let z : ◌≡◌ {A = ℕ} 0 1 = cc in omega arith)
          go SPENT e = absurd (let z : ◌≡◌ {A = ℕ} 0 1 = cc in omega arith)

      on_spent : r.answer ≡ Spent → judge d p k budget ≡ judged (SPENT-AT i) (t + r.tries) i o
      on_spent q = judge_is ∙ go o.answer (sym same_answer ∙ q) ∙ ap (λ (y : ℕ). judged (SPENT-AT i) (t + y) i o) (sym same_tries)
        where
          go : (a : Answer) → declared_answer a ≡ Spent → decided a (t + o.tries) i o (rest (k - i) i t o) ≡ judged (SPENT-AT i) (t + o.tries) i o
          go (SAT ss) e = absurd (let z : ◌≡◌ {A = ℕ} 0 1 = cc in omega arith)
          go UNSAT e = absurd (let z : ◌≡◌ {A = ℕ} 0 1 = cc in omega arith)
          go SPENT e = refl

      on_unsat : r.answer ≡ Unsat → judge d p k budget ≡ rest (k - i) i t o
      on_unsat q = judge_is ∙ go o.answer (sym same_answer ∙ q)
        where
          go : (a : Answer) → declared_answer a ≡ Unsat → decided a (t + o.tries) i o (rest (k - i) i t o) ≡ rest (k - i) i t o
          go (SAT ss) e = absurd (let z : ◌≡◌ {A = ℕ} 0 1 = cc in omega arith)
          go UNSAT e = refl
          go SPENT e = absurd (let z : ◌≡◌ {A = ℕ} 0 1 = cc in omega arith)

      on_last : r.answer ≡ Unsat → i ≡ k → judge d p k budget ≡ judged CLEAN (t + r.tries) i o
      unfolding rest
      on_last q e =
          let z : k - i ≡ 0 = omega arith in
          on_unsat q ∙ ap (λ (m : ℕ). rest m i t o) z ∙ ap (λ (y : ℕ). judged CLEAN (t + y) i o) (sym same_tries)

      on_next : r.answer ≡ Unsat → i < k → judged_from d p budget (k - suc i) (suc i) (t + r.tries) ≡ judge d p k budget
      unfolding rest
      on_next q l =
          let z : k - i ≡ suc (k - suc i) = omega arith in
          sym (on_unsat q ∙ ap (λ (m : ℕ). rest m i t o) z ∙ ap (λ (y : ℕ). judged_from d p budget (k - suc i) (suc i) (t + y)) (sym same_tries))

      values_front : length (values_left (n d p i) o.answer) ≡ n d p i
      values_front = left_long (n d p i) o.answer

      trail_front : length (replicate {A = ℕ} (n d p i) 0) ≡ n d p i
      trail_front = length-replicate (n d p i) 0

      pub lengths_kept : (length clauses' ≡ length lent.clauses) × (length values' ≡ length lent.values) × (length trail' ≡ length lent.trail)
      unfolding o
      lengths_kept = (
        ap length x.written ∙ front_long (words (formula d p i)) clauses (length (words (formula d p i))) refl words_fit ∙ j.clauses_long,
        ap length x.values_left_lem ∙ front_long (values_left (n d p i) o.answer) values (n d p i) values_front values_fit ∙ j.values_long,
        ap length x.trail_left ∙ front_long (replicate (n d p i) 0) trail (n d p i) trail_front trail_fit ∙ j.trail_long,
      )

      pub judging_next : r.answer ≡ Unsat → (i ≡ k → ⊥) → Judging d p k budget lent (i + 1) (t + r.tries) clauses' values' trail'
      unfolding o
      judging_next q ne =
          let low = j.low in
          let l : i < k = omega arith in
          let up : i ≤ suc i = omega arith in
          rw (add-one i) (record {
            low = l;
            paid = tries_fit;
            same = on_next q l;
            clauses_kept =
                ap (drop (length (words (formula d p (suc i))))) x.written
                ∙ front_kept (words (formula d p i)) clauses (length (words (formula d p i))) refl lent.clauses (length (words (formula d p (suc i)))) (words_grow d p up wf) j.clauses_kept;
            values_kept = ap (drop (n d p (suc i))) x.values_left_lem ∙ front_kept (values_left (n d p i) o.answer) values (n d p i) values_front lent.values (n d p (suc i)) (n_up d p i (suc i) up) j.values_kept;
            trail_kept = ap (drop (n d p (suc i))) x.trail_left ∙ front_kept (replicate (n d p i) 0) trail (n d p i) trail_front lent.trail (n d p (suc i)) (n_up d p i (suc i) up) j.trail_kept;
            clauses_long = lengths_kept.0;
            values_long = lengths_kept.1;
            trail_long = lengths_kept.2;
          })

      -- lent memory, where this bound is the last
      memory_is : (v : Verdict) (choices' : List ℕ) → choices' ≡ choices_left file piece d number v values' lent.choices
          → record { clauses = clauses'; values = values'; trail = trail'; choices = choices' } ≡ memory_left file piece d number (judged v (t + r.tries) i o) lent
      unfolding o memory_left
      memory_is v choices' q =
          let vs : values' ≡ values_left (n d p i) o.answer ++ drop (n d p i) lent.values = x.values_left_lem ∙ ap (λ (y : List ℕ). values_left (n d p i) o.answer ++ y) j.values_kept in
          let ws : clauses' ≡ words (formula d p i) ++ drop (length (words (formula d p i))) lent.clauses = x.written ∙ ap (λ (y : List ℤ). words (formula d p i) ++ y) j.clauses_kept in
          let ts : trail' ≡ replicate (n d p i) 0 ++ drop (n d p i) lent.trail = x.trail_left ∙ ap (λ (y : List ℕ). replicate (n d p i) 0 ++ y) j.trail_kept in
          let cs : choices' ≡ choices_left file piece d number v (values_left (n d p i) o.answer ++ drop (n d p i) lent.values) lent.choices = q ∙ ap (λ (y : List ℕ). choices_left file piece d number v y lent.choices) vs in
          λ h. record { clauses = ws h; values = vs h; trail = ts h; choices = cs h }

      -- what the call comes to, where the verdict is v
      module _ (e : check file ≡ Checked.accepted d) (low : number ≤ last_property file) (right : piece_right file piece number ≡ true) (few : k ≤ max_bound) (numbers : n d p k ≤ last_variable) where
        ends : (v : Verdict) (choices' : List ℕ) → judge d p k budget ≡ judged v (t + r.tries) i o → choices' ≡ choices_left file piece d number v values' lent.choices
            → record { reply = answer (record { verdict = declared_verdict v; tries = t + r.tries }); memory = record { clauses = clauses'; values = values'; trail = trail'; choices = choices' } }
            ≡ exit (verdict file piece number k budget lent)
        ends v choices' q cs =
            ap {B = Exit} (λ (m : Memory). record { reply = answer (record { verdict = declared_verdict v; tries = t + r.tries }); memory = m }) (memory_is v choices' cs)
            ∙ ap {B = Exit} (λ (y : Judged). record { reply = answer (declared_told y.told); memory = memory_left file piece d number y lent }) (sym q)
            ∙ ap exit (sym (answers file piece d e number k budget lent low right few numbers room))

        pub ends_sat : {choices' : List ℕ} → r.answer ≡ Sat → choices' ≡ (decode file piece number i values' lent.choices).choices
            → record { reply = answer (record { verdict = Violated i; tries = t + r.tries }); memory = record { clauses = clauses'; values = values'; trail = trail'; choices = choices' } }
            ≡ exit (verdict file piece number k budget lent)
        ends_sat {choices'} q cs = ends (VIOLATED i) choices' (on_sat q) cs

        pub ends_spent : r.answer ≡ Spent
            → record { reply = answer (record { verdict = SpentAt i; tries = t + r.tries }); memory = record { clauses = clauses'; values = values'; trail = trail'; choices = lent.choices } }
            ≡ exit (verdict file piece number k budget lent)
        ends_spent q = ends (SPENT-AT i) lent.choices (on_spent q) refl

        pub ends_clean : r.answer ≡ Unsat → i ≡ k
            → record { reply = answer (record { verdict = Clean; tries = t + r.tries }); memory = record { clauses = clauses'; values = values'; trail = trail'; choices = lent.choices } }
            ≡ exit (verdict file piece number k budget lent)
        ends_clean q x = ends CLEAN lent.choices (on_last q x) refl
