-- REFUTE: its clauses one after the other, and its cases.
use mathlib.Core.Path.{◌≡◌, refl, sym, ap, ap₂, ◌∙◌, subst}
use mathlib.Core.Bool.{Bool, true, false, not, ◌||◌, cond}
use mathlib.Core.List.{List, [], ◌∷◌, ◌++◌, append-nil, append_assoc}
use Prim.Native.Nat.{ℕ, suc, ◌+◌, ◌-◌, ◌^◌, ◌<◌, ◌≤◌}
use native.Mathlib.Omega.{arith}
use lib.Dec.{ltb}
use lib.IntN.{ℤ, pos}
use lib.ListN.{length, get_or, drop, take, replicate, length-replicate}
use lib.Seq.{length-take-le}
use borrow.Author.Tests.{lt-ltb, le-ltb}
use Rattle.std.specs.Prelude.{Option, None, Some}
use Rattle.design.specs.Answer.{refused, answer}
use Rattle.clauses.specs.Literal.{Literal, Clause}
use Rattle.clauses.specs.Meaning.{Within}
use Rattle.clauses.specs.Words.{is_end, clauses_of}
use Rattle.search.specs.Solve.{outside, bad_word, at_place}
use Rattle.search.specs.Refutation.{set_false, reaches, holds_both, follows, judged, AfterRefute, refuses, refute, Refutes, Right}
use Rattle.search.specs.Memory.{AllIn, first_clause, has_end, rest_words, Past, AllUnset, Denied, Two, both_of, Reaches, ReadTo, follows_at}
use Rattle.search.proofs.Reading.{inside_next, within_words}
use Rattle.search.proofs.Prefixes.{clause_at, next_place, read_next, clauses_next}
use Rattle.search.proofs.BadWords.{good_words}
use Rattle.search.proofs.Refutations.{follows_from, from_follows, refutes_none, accepted_refutes, refutes_accepted}
use Rattle.search.specs.declared.refute.Judged.{Judged}
use Rattle.search.specs.declared.refute.Judged.TheVariants.{Accepted, Word}

-- one clause: the values are set anew, its literals set false, and units set
module _ {n : ℕ} {ws ds : List ℤ} {vs₂ : List ℕ} {i : ℕ} (two : Two n ws ds) (read : ReadTo ds i) (l : i < length ds) (filled : vs₂ ≡ replicate n 2) where
  wide : length vs₂ ≡ n
  wide = ap length filled ∙ length-replicate n 2

  pub deny_ready : AllIn (length vs₂) ds × AllUnset vs₂ × (has_end (drop i ds) ≡ true)
  deny_ready = (rw wide two.inside₂, filled ∙ ap (λ (k : ℕ). replicate k 2) (sym wide), (clause_at ds i read l).ends)

  -- after its literals were set false
  module _ (vs₃ : List ℕ) (same : length vs₃ ≡ length vs₂) (r : Bool) (d : Denied (first_clause (drop i ds)) r vs₃) where
    pub follows_both : r ≡ true → true ≡ follows_at n ws ds i
    unfolding follows
    follows_both e =
        let h : holds_both (first_clause (drop i ds)) ≡ true = subst (λ (b : Bool). Denied (first_clause (drop i ds)) b vs₃) e d in
        rw h

    pub follows_reached : r ≡ false → (q : Bool) → Reaches (both_of ws (take i ds)) vs₃ q → q ≡ follows_at n ws ds i
    unfolding follows
    follows_reached e q f =
        let h : Denied (first_clause (drop i ds)) false vs₃ = subst (λ (b : Bool). Denied (first_clause (drop i ds)) b vs₃) e d in
        f (set_false [] (first_clause (drop i ds))) h.1 ∙ ap (λ (k : ℕ). reaches k (both_of ws (take i ds)) (set_false [] (first_clause (drop i ds)))) (same ∙ wide)
        ∙ sym (ap (λ (b : Bool). b || reaches n (both_of ws (take i ds)) (set_false [] (first_clause (drop i ds)))) h.0)

-- the refutation read up to a place: what is left comes to what the whole does
pub record Judging (n : ℕ) (ws ds : List ℤ) (i : ℕ) : Type 0 where
  pub read : ReadTo ds i
  pub same : judged n i (both_of ws (take i ds)) (clauses_of (drop i ds)) ≡ judged n 0 (clauses_of ws) (clauses_of ds)

pub judging_start : {n : ℕ} {ws ds : List ℤ} → Two n ws ds → Judging n ws ds 0
judging_start {n} {ws} {ds} t =
    record {
      read = record { low = omega arith; before = refl; after = t.closes₂ };
      same = ap (λ (cs : List Clause). judged n 0 cs (clauses_of ds)) (append-nil (clauses_of ws));
    }

module _ {n : ℕ} {ws ds : List ℤ} {i : ℕ} (h : Judging n ws ds i) where
  -- at a clause, where r tells whether it follows
  module _ (l : i < length ds) {m : ℕ} (wide : m ≡ n) {r : Bool} (found : r ≡ follows_at m ws ds i) where
    f : r ≡ follows_at n ws ds i
    f = found ∙ ap (λ (k : ℕ). follows_at k ws ds i) wide

    -- the clause there set apart
    apart : judged n i (both_of ws (take i ds)) (first_clause (drop i ds) ∷ clauses_of (rest_words (drop i ds))) ≡ judged n 0 (clauses_of ws) (clauses_of ds)
    apart = ap (judged n i (both_of ws (take i ds))) (sym (clause_at ds i h.read l).split) ∙ h.same

    pub judging_stops : r ≡ false → Word i ≡ judged n 0 (clauses_of ws) (clauses_of ds)
    judging_stops e = (go (first_clause (drop i ds)) (sym f ∙ e) ∙ apart)
      where
        go : (c : Clause) → follows n (both_of ws (take i ds)) c ≡ false → Word i ≡ judged n i (both_of ws (take i ds)) (c ∷ clauses_of (rest_words (drop i ds)))
        go [] e = rw e
        go (m ∷ ms) e = rw e

    module _ (goes : r ≡ true) {ended : Bool} (word : ended ≡ is_end (get_or ds i (pos 0))) where
      holds : follows_at n ws ds i ≡ true
      holds = sym f ∙ goes

      pub judging_next : ended ≡ false → (j : ℕ) → Past ds i j → Judging n ws ds j
      judging_next e j p =
          record {
            read = read_next ds i h.read l j p;
            same =
                ap₂ (judged n j) (ap (λ (cs : List Clause). clauses_of ws ++ cs) (clauses_next ds i h.read l j p) ∙ sym (append_assoc (clauses_of ws) (clauses_of (take i ds)) (first_clause (drop i ds) ∷ []))) (ap clauses_of p.rest)
                ∙ ap (λ (k : ℕ). judged n k (both_of ws (take i ds) ++ (first_clause (drop i ds) ∷ [])) (clauses_of (rest_words (drop i ds)))) (next_place ds i h.read l j p)
                ∙ go (first_clause (drop i ds)) (inside_next ds i (clause_at ds i h.read l).ends (sym word ∙ e)).2 holds
                ∙ apart;
          }
        where
          go : (c : Clause) {m : Literal} {ms : Clause} → c ≡ m ∷ ms → follows n (both_of ws (take i ds)) c ≡ true
              → judged n (i + suc (length c)) (both_of ws (take i ds) ++ (c ∷ [])) (clauses_of (rest_words (drop i ds))) ≡ judged n i (both_of ws (take i ds)) (c ∷ clauses_of (rest_words (drop i ds)))
          go [] q e = absurd (let z : ◌≡◌ {A = ℕ} 0 1 = cc in omega arith)
          go (m ∷ ms) q e = rw e

-- a place of a word lies within the words
pub word_low : (n : ℕ) (ws : List ℤ) {i : ℕ} → Some i ≡ bad_word n 0 false ws → i ≤ length ws
word_low n ws {i} e = let h = low 0 false ws i (sym e) in omega arith
  where
    low : (j : ℕ) (begun : Bool) (ws : List ℤ) (k : ℕ) → bad_word n j begun ws ≡ Some k → k ≤ j + length ws
    low j true [] k e = let q : j ≡ k = cc in omega arith
    low j false [] k e = absurd (let z : ◌≡◌ {A = ℕ} 0 1 = cc in omega arith)
    low j begun (w ∷ ws) k e = pick (outside n w) e (low (suc j) (not (is_end w)) ws k)
      where
        pick : (b : Bool) → cond b (Some j) (bad_word n (suc j) (not (is_end w)) ws) ≡ Some k → (bad_word n (suc j) (not (is_end w)) ws ≡ Some k → k ≤ suc j + length ws) → k ≤ j + suc (length ws)
        pick true e h = let q : j ≡ k = cc in omega arith
        pick false e h = let q = h e in omega arith

-- REFUTE's cases. Past the refusals of n and of the words, and past those of n and of the list:
abbrev rest : ℕ → List ℤ → List ℤ → List ℕ → AfterRefute
rest n ws ds vs = cond (ltb (length vs) n) (refuses 16 0 vs) (record { reply = answer (judged n 0 (clauses_of ws) (clauses_of ds)); values = replicate n 0 ++ drop n vs })

abbrev listed : ℕ → List ℤ → List ℤ → List ℕ → AfterRefute
listed n ws ds vs = at_place (bad_word n 0 false ds) (λ i. refuses 17 (length ws + i) vs) (rest n ws ds vs)

module _ (n : ℕ) (ws ds : List ℤ) (vs : List ℕ) where
  pub refute_large : 2147483647 < n → refuses 17 0 vs ≡ refute n ws ds vs
  unfolding refute
  refute_large h = rw (lt-ltb 2147483647 n h)

  module _ (small : n ≤ 2147483647) where
    pub refute_list : {i : ℕ} → Some i ≡ bad_word n 0 false ws → refuses 17 i vs ≡ refute n ws ds vs
    unfolding refute
    refute_list e = rw (le-ltb 2147483647 n small, ← e)

    module _ (good : None ≡ bad_word n 0 false ws) where
      past_list : listed n ws ds vs ≡ refute n ws ds vs
      unfolding refute
      past_list = rw (le-ltb 2147483647 n small, ← good)

      pub refute_refutation : {i : ℕ} → Some i ≡ bad_word n 0 false ds → refuses 17 (length ws + i) vs ≡ refute n ws ds vs
      refute_refutation {i} e = (let g : refuses 17 (length ws + i) vs ≡ listed n ws ds vs = rw (← e) in g) ∙ past_list

      module _ (good₂ : None ≡ bad_word n 0 false ds) where
        past : rest n ws ds vs ≡ refute n ws ds vs
        past = (let g : rest n ws ds vs ≡ listed n ws ds vs = rw (← good₂) in g) ∙ past_list

        pub refute_values : length vs < n → refuses 16 0 vs ≡ refute n ws ds vs
        refute_values l = (let g : refuses 16 0 vs ≡ rest n ws ds vs = rw (lt-ltb (length vs) n l) in g) ∙ past

        module _ (long : n ≤ length vs) where
          pub refute_two : Two (length (take n vs)) ws ds
          refute_two =
              let g = good_words n 0 false ws (sym good) in
              let h = good_words n 0 false ds (sym good₂) in
              rw (length-take-le n vs long) (record { inside = g.0; closes = g.1; inside₂ = h.0; closes₂ = h.1 })

          pub refute_done : {r : Judged} {vs₃ : List ℕ} → r ≡ judged (length (take n vs)) 0 (clauses_of ws) (clauses_of ds) → vs₃ ≡ replicate (length (take n vs)) 0
              → record { reply = answer r; values = vs₃ ++ drop n vs } ≡ refute n ws ds vs
          refute_done {r} e z =
              let a : r ≡ judged n 0 (clauses_of ws) (clauses_of ds) = e ∙ ap (λ (k : ℕ). judged k 0 (clauses_of ws) (clauses_of ds)) (length-take-le n vs long) in
              let b = z ∙ ap (λ (k : ℕ). replicate k 0) (length-take-le n vs long) in
              (λ i. record { reply = answer (a i); values = b i ++ drop n vs })
              ∙ (let g : record { reply = answer (judged n 0 (clauses_of ws) (clauses_of ds)); values = replicate n 0 ++ drop n vs } ≡ rest n ws ds vs = rw (le-ltb (length vs) n long) in g) ∙ past

-- what an answer tells of the call
pub record Answers (n : ℕ) (ws ds : List ℤ) (j : Judged) : Type 0 where
  pub list : Within n (clauses_of ws)
  pub refutation : Within n (clauses_of ds)
  pub judges : j ≡ judged n 0 (clauses_of ws) (clauses_of ds)

pub answers : (n : ℕ) (ws ds : List ℤ) (vs : List ℕ) (j : Judged) → (refute n ws ds vs).reply ≡ answer j → Answers n ws ds j
unfolding refute
answers n ws ds vs j e = large (ltb (2 ^ 31 - 1) n) e
  where
    turned : {i k : ℕ} → refused i k ≡ answer j → ⊥
    turned e = let z : ◌≡◌ {A = ℕ} 0 1 = cc in omega arith

    short : bad_word n 0 false ws ≡ None → bad_word n 0 false ds ≡ None → (b : Bool)
        → (cond b (refuses 16 0 vs) (record { reply = answer (judged n 0 (clauses_of ws) (clauses_of ds)); values = replicate n 0 ++ drop n vs })).reply ≡ answer j → Answers n ws ds j
    short p q true e = absurd (turned e)
    short p q false e =
        record {
          list = within_words n ws (good_words n 0 false ws p).0;
          refutation = within_words n ds (good_words n 0 false ds q).0;
          judges = (let k : judged n 0 (clauses_of ws) (clauses_of ds) ≡ j = cc in sym k);
        }

    second : bad_word n 0 false ws ≡ None → (p : Option ℕ) → bad_word n 0 false ds ≡ p → (at_place p (λ i. refuses 17 (length ws + i) vs) (rest n ws ds vs)).reply ≡ answer j → Answers n ws ds j
    second p None q e = short p q (ltb (length vs) n) e
    second p (Some i) q e = absurd (turned e)

    first : (p : Option ℕ) → bad_word n 0 false ws ≡ p → (at_place p (λ i. refuses 17 i vs) (listed n ws ds vs)).reply ≡ answer j → Answers n ws ds j
    first None p e = second p (bad_word n 0 false ds) refl e
    first (Some i) p e = absurd (turned e)

    large : (b : Bool) → (cond b (refuses 17 0 vs) (at_place (bad_word n 0 false ws) (λ i. refuses 17 i vs) (listed n ws ds vs))).reply ≡ answer j → Answers n ws ds j
    large true e = absurd (turned e)
    large false e = first (bad_word n 0 false ws) refl e

-- R-7's sentences about the answer
pub refute_right : (n : ℕ) (list refutation : List ℤ) (values : List ℕ) → Right n list refutation values
refute_right n list refutation values =
    record {
      order = λ cs c w. (follows_from n cs w c, from_follows n cs w c);
      sound = λ e s. refutes_none (meets e) s;
      meets = meets;
      complete = λ j e r. let h = answers n list refutation values j e in h.judges ∙ refutes_accepted n 0 h.list h.refutation r;
    }
  where
    meets : (refute n list refutation values).reply ≡ answer Accepted → Refutes (clauses_of list) (clauses_of refutation)
    meets e =
        let h = answers n list refutation values Accepted e in
        accepted_refutes n 0 (clauses_of list) (clauses_of refutation) h.list h.refutation (sym h.judges)
