-- VERDICT's bounds one after the other: which verdict comes of them, and the tries.
use mathlib.Core.Path.{◌≡◌, refl, sym, ap, subst}
use mathlib.Core.Bool.{Bool, true, false}
use Prim.Native.Nat.{ℕ, zero, suc, ◌+◌, ◌-◌, ◌<◌, ◌≤◌}
use native.Mathlib.Decide.{dec_le}
use native.Mathlib.Omega.{arith}
use native.Mathlib.Nat.{le_refl}
use lib.Dec.{eqb}
use borrow.Author.Tests.{eqb-true, eqb-false}
use Rattle.design.specs.Tree.{Design}
use Rattle.step.specs.Property.{Property}
use Rattle.step.specs.Breaking.{Breakable}
use Rattle.step.specs.Strict.{Smallest}
use Rattle.clauses.specs.Meaning.{satisfies}
use Rattle.clauses.specs.Formula.{n, formula}
use Rattle.clauses.specs.Theorem.{Theorem}
use Rattle.search.specs.Search.{Settings, no_budget, up_to, Answer, SAT, UNSAT, SPENT, Outcome}
use Rattle.search.proofs.Scans.{made}
use Rattle.search.proofs.Ending.{Says as AnswerSays, search_right, Budgeted, search_budget}
use Rattle.verdict.specs.Verdict.{Verdict, VIOLATED, CLEAN, SPENT-AT, Judged, judged, decided, searched, judged_from, judge}
use Rattle.verdict.specs.Claim.{tries_of, tries_below, NoneShorter, FirstBreak, Exceeds, Enough, Says, tries_told}

module _ (d : Design) (p : Property) where
  tries_grow : (i j : ℕ) → i ≤ j → tries_below d p i ≤ tries_below d p j
  tries_grow i zero h = let e : i ≡ 0 = omega arith in rw e (le_refl 0)
  tries_grow i (suc j) h = go (dec_le i j) (tries_grow i j)
    where
      go : Dec (i ≤ j) → (i ≤ j → tries_below d p i ≤ tries_below d p j) → tries_below d p i ≤ tries_below d p (suc j)
      go (yes l) r = let k = r l in omega arith
      go (no l) r = let e : i ≡ suc j = omega arith in subst (λ (x : ℕ). tries_below d p i ≤ tries_below d p x) e (le_refl (tries_below d p i))

  none_more : (i : ℕ) → NoneShorter d p i → (Breakable d p i → ⊥) → NoneShorter d p (suc i)
  none_more i h e j l = go (eqb j i) refl
    where
      go : (t : Bool) → eqb j i ≡ t → Breakable d p j → ⊥
      go true q = subst (λ (x : ℕ). Breakable d p x → ⊥) (sym (eqb-true j i q)) e
      go false q = let ne = eqb-false j i q in h j (omega arith)

  breakable_up : {i k : ℕ} → i ≤ k → Breakable d p i → Breakable d p k
  breakable_up h b = record { list = b.list; short = omega (arith, b.short); movers = b.movers; breaks = b.breaks }

  searched_budget : (b i : ℕ) → Budgeted b (searched d p no_budget i) (searched d p (up_to b) i)
  unfolding searched
  searched_budget b i = search_budget (n d p i) (formula d p i) b

  -- a search's tries are within its budget
  pub tries_most : (b i : ℕ) → (searched d p (up_to b) i).tries ≤ b
  tries_most b i = go (dec_le (tries_of d p i) b)
    where
      go : Dec (tries_of d p i ≤ b) → (searched d p (up_to b) i).tries ≤ b
      go (yes l) = rw ((searched_budget b i).0 l) l
      go (no l) = let e = ap (λ (o : Outcome). o.tries) ((searched_budget b i).1 (omega arith)) in omega arith

  -- what is known of each verdict: the last bound tried is i, and its search came to o
  pub record Violated (k b t i : ℕ) (o : Outcome) (step : ℕ) : Type 0 where
    pub within : step ≤ k
    pub some : Breakable d p step
    pub none : NoneShorter d p step
    pub paid : tries_below d p (suc step) ≤ b
    pub total : t ≡ tries_below d p (suc step)
    pub last : i ≡ step
    pub settings : Settings
    pub sat : o.answer ≡ SAT settings
    pub satisfies : satisfies (made settings) (formula d p step) ≡ true

  pub record Clean (k b t : ℕ) : Type 0 where
    pub none : Breakable d p k → ⊥
    pub paid : tries_below d p (suc k) ≤ b
    pub total : t ≡ tries_below d p (suc k)

  pub record Spent (k b t bound : ℕ) : Type 0 where
    pub within : bound ≤ k
    pub none : NoneShorter d p bound
    pub before : tries_below d p bound ≤ b
    pub over : b < tries_below d p (suc bound)
    pub total : t ≡ b

  abbrev pub Known : ℕ → ℕ → ℕ → ℕ → Outcome → Verdict → Type 0
  Known k b t i o (VIOLATED step) = Violated k b t i o step
  Known k b t i o CLEAN = Clean k b t
  Known k b t i o (SPENT-AT bound) = Spent k b t bound

  abbrev pub Right : ℕ → ℕ → Judged → Type 0
  Right k b j = Known k b j.told.tries j.bound j.outcome j.told.verdict

  module _ (th : (k : ℕ) → Theorem d p k) where
    says : (i : ℕ) → AnswerSays (n d p i) (formula d p i) (searched d p no_budget i).answer
    unfolding searched
    says i = (search_right (n d p i) (formula d p i) (th i).within).says

    -- one bound: `rest` is what comes of it where it is UNSAT
    bound_right : (k b i t : ℕ) (rest : Outcome → Judged) → i ≤ k → t ≡ tries_below d p i → t ≤ b → NoneShorter d p i
        → ((o : Outcome) → t + o.tries ≡ tries_below d p (suc i) → t + o.tries ≤ b → (Breakable d p i → ⊥) → Right k b (rest o))
        → (let o = searched d p (up_to (b - t)) i in Right k b (decided o.answer (t + o.tries) i o (rest o)))
    bound_right k b i t rest w s l h f = go (dec_le (tries_of d p i) (b - t))
      where
        free : Outcome
        free = searched d p no_budget i

        paid : (a : Answer) → free.answer ≡ a → AnswerSays (n d p i) (formula d p i) a → t + free.tries ≤ b → t + free.tries ≡ tries_below d p (suc i)
            → Right k b (decided a (t + free.tries) i free (rest free))
        paid (SAT ss) e y m z = record {
          within = w;
          some = (th i).satisfiable.0 (made ss, y.1);
          none = h;
          paid = omega arith;
          total = z;
          last = refl;
          settings = ss;
          sat = e;
          satisfies = y.1;
        }
        paid UNSAT e y m z = f free z m (λ c. let r = (th i).satisfiable.1 c in y r.0 r.1)
        paid SPENT e y m z = absurd y

        go : Dec (tries_of d p i ≤ b - t) → (let o = searched d p (up_to (b - t)) i in Right k b (decided o.answer (t + o.tries) i o (rest o)))
        go (yes a) = rw ((searched_budget (b - t) i).0 a) (paid free.answer refl (says i) (omega arith) (omega arith))
        go (no a) = rw ((searched_budget (b - t) i).1 (omega arith)) (record { within = w; none = h; before = omega arith; over = omega arith; total = omega arith })

    judged_right : (k b m i t : ℕ) → i + m ≡ k → t ≡ tries_below d p i → t ≤ b → NoneShorter d p i → Right k b (judged_from d p b m i t)
    unfolding judged_from
    judged_right k b zero i t e s l h =
        let q : i ≡ k = omega arith in
        bound_right k b i t (λ o. judged CLEAN (t + o.tries) i o) (omega arith) s l h
        (λ o z m u. subst (λ (x : ℕ). Clean x b (t + o.tries)) q (record { none = u; paid = omega arith; total = z }))
    judged_right k b (suc m) i t e s l h =
        bound_right k b i t (λ o. judged_from d p b m (suc i) (t + o.tries)) (omega arith) s l h
        (λ o z y u. judged_right k b m (suc i) (t + o.tries) (omega arith) z y (none_more i h u))

    pub judge_right : (k b : ℕ) → Right k b (judge d p k b)
    unfolding judge
    judge_right k b = judged_right k b k 0 0 (omega arith) refl (omega arith) (λ j l. absurd (omega arith))

  -- what is known says what the verdict says
  pub known_says : (k b t i : ℕ) (o : Outcome) (v : Verdict) → Known k b t i o v → Says d p k b v
  known_says k b t i o (VIOLATED step) h = (enough, record { within = h.within; some = h.some; none = h.none })
    where
      enough : Enough d p k b
      enough j x = go (dec_le j step)
        where
          go : Dec (j ≤ step) → ⊥
          go (yes l) = let m = tries_grow (suc j) (suc step) (omega arith) in omega (arith, h.paid, x.more)
          go (no l) = x.none step (omega arith) h.some
  known_says k b t i o CLEAN h = ((λ j x. let m = tries_grow (suc j) (suc k) (omega (arith, x.within)) in omega (arith, h.paid, x.more)), h.none)
  known_says k b t i o (SPENT-AT bound) h = record {
    some = record { within = h.within; none = h.none; more = h.over };
    none = λ j l x. let m = tries_grow (suc j) bound (omega arith) in omega (arith, h.before, x.more);
  }

  pub known_tries : (k b t i : ℕ) (o : Outcome) (v : Verdict) → Known k b t i o v → t ≡ tries_told d p k b v
  known_tries k b t i o (VIOLATED step) h = h.total
  known_tries k b t i o CLEAN h = h.total
  known_tries k b t i o (SPENT-AT bound) h = h.total

  -- no two verdicts are said at once
  same_break : (k i j : ℕ) → FirstBreak d p k i → FirstBreak d p k j → i ≡ j
  same_break k i j x y = go (dec_le i j) (dec_le j i)
    where
      go : Dec (i ≤ j) → Dec (j ≤ i) → i ≡ j
      go (yes l) (yes m) = omega arith
      go (no l) u = absurd (x.none j (omega arith) y.some)
      go (yes l) (no m) = absurd (y.none i (omega arith) x.some)

  same_exceeds : (k b i j : ℕ) → Smallest (Exceeds d p k b) i → Smallest (Exceeds d p k b) j → i ≡ j
  same_exceeds k b i j x y = go (dec_le i j) (dec_le j i)
    where
      go : Dec (i ≤ j) → Dec (j ≤ i) → i ≡ j
      go (yes l) (yes m) = omega arith
      go (no l) u = absurd (x.none j (omega arith) y.some)
      go (yes l) (no m) = absurd (y.none i (omega arith) x.some)

  pub same_verdict : (k b : ℕ) (u v : Verdict) → Says d p k b u → Says d p k b v → u ≡ v
  same_verdict k b (VIOLATED i) (VIOLATED j) x y = ap VIOLATED (same_break k i j x.1 y.1)
  same_verdict k b (VIOLATED i) CLEAN x y = absurd (y.1 (breakable_up x.1.within x.1.some))
  same_verdict k b (VIOLATED i) (SPENT-AT j) x y = absurd (x.0 j y.some)
  same_verdict k b CLEAN (VIOLATED j) x y = absurd (x.1 (breakable_up y.1.within y.1.some))
  same_verdict k b CLEAN CLEAN x y = refl
  same_verdict k b CLEAN (SPENT-AT j) x y = absurd (x.0 j y.some)
  same_verdict k b (SPENT-AT i) (VIOLATED j) x y = absurd (y.0 i x.some)
  same_verdict k b (SPENT-AT i) CLEAN x y = absurd (y.0 i x.some)
  same_verdict k b (SPENT-AT i) (SPENT-AT j) x y = ap SPENT-AT (same_exceeds k b i j x y)
