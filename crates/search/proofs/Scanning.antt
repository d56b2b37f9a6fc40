-- The nested scan: clause by clause, literal by literal.
use mathlib.Core.Path.{◌≡◌, refl, sym, ap, ap₂, ◌∙◌, subst}
use mathlib.Core.Logic.{inl, inr}
use mathlib.Core.Bool.{Bool, true, false, ◌||◌, true≢false}
use mathlib.Core.List.{List, [], ◌∷◌, ◌++◌, append_assoc}
use Prim.Native.Nat.{ℕ, zero, suc, ◌+◌, ◌<◌, ◌≤◌}
use native.Mathlib.Omega.{arith}
use native.Mathlib.Nat.{le_refl}
use native.Mathlib.Numerals.{add-one}
use lib.IntN.{ℤ, pos, negsuc, nat_abs}
use lib.ListN.{length, get_or, drop, drop_of_length-le}
use Rattle.std.specs.Prelude.{Option, None, Some, is_some}
use Rattle.clauses.specs.Literal.{Literal, Clause}
use Rattle.clauses.specs.Words.{is_end, literal_of_word, clauses_of}
use Rattle.search.specs.Search.{Value, unset, is, Values, literal_value, Scan, all_false, unit, some_true, several, scan_one, join, scan, is_false, conflict, nothing, or_else, first_unit}
use Rattle.search.specs.AnyOrder.{IsUnit, Quiet}
use Rattle.search.specs.Memory.{AllIn, first_clause, has_end, rest_words, Past, Starts, sign_of, Named, value_at, known, literal_from, UnitFound, Finds}
use Rattle.search.proofs.Reading.{inside_low, inside_next, inside_end, Passing, passing_start, passing_next_lem, Clause₁, a_clause, starts_past}
use Rattle.search.specs.declared.scan.Found.{Found}
use Rattle.search.specs.declared.scan.Found.TheVariants.{Nothing, Conflict, Unit as UnitAt}

-- a literal's variable is not 0
pub literal_low : (z : ℤ) (v : ℕ) → is_end z ≡ false → v ≡ nat_abs z → 0 < v
literal_low (pos zero) v e q = absurd (true≢false e)
literal_low (pos (suc n)) v e q = omega arith
literal_low (negsuc n) v e q = omega arith

is_known : (x : Value) (b : Bool) → Some b ≡ known x → x ≡ is b
is_known unset b e = absurd (let z : ◌≡◌ {A = ℕ} 0 1 = cc in omega arith)
is_known (is a) b e = let q : a ≡ b = cc in ap is q

is_unset_lem : (x : Value) → None ≡ known x → x ≡ unset
is_unset_lem unset e = refl
is_unset_lem (is b) e = absurd (let z : ◌≡◌ {A = ℕ} 0 1 = cc in omega arith)

-- what the literals up to an unset position come to, where there was one
abbrev pub partly : List ℤ → Option ℕ → Scan
partly ws None = all_false
partly ws (Some k) = unit (literal_of_word (get_or ws k (pos 0)))

-- inside the clause that starts at i₀, at i
pub record Inner (ws : List ℤ) (vs : List ℕ) (i₀ i : ℕ) (spot : Option ℕ) : Type 0 where
  pub passing : Passing ws i₀ i
  pub behind : (k : ℕ) → spot ≡ Some k → k < i
  pub joined : join (partly ws spot) (scan (value_at vs) (first_clause (drop i ws))) ≡ scan (value_at vs) (first_clause (drop i₀ ws))

-- neither all false nor a unit: the scan goes past it
abbrev pub Skipped : Scan → Type 0
Skipped all_false = ⊥
Skipped (unit l) = ⊥
Skipped some_true = Unit {0}
Skipped several = Unit {0}

pub inner_start : {ws : List ℤ} {vs : List ℕ} {i : ℕ} → has_end (drop i ws) ≡ true → Inner ws vs i i None
inner_start {ws} {vs} {i} e = record { passing = passing_start ws i e; behind = λ k q. absurd (let z : ◌≡◌ {A = ℕ} 0 1 = cc in omega arith); joined = refl }

module _ {ws : List ℤ} {vs : List ℕ} {i₀ i : ℕ} {spot : Option ℕ} (h : Inner ws vs i₀ i spot) where
  pub inner_low : i < length ws
  inner_low = inside_low ws i h.passing.ends

  -- at a literal, whose value is x
  module _ (literal : is_end (get_or ws i (pos 0)) ≡ false) {x : Option Bool} (value : x ≡ known (literal_value (value_at vs) (literal_of_word (get_or ws i (pos 0))))) where
    -- what the clause comes to, with this literal set apart
    apart : (y : Value) → literal_value (value_at vs) (literal_of_word (get_or ws i (pos 0))) ≡ y
        → join (partly ws spot) (join (scan_one (literal_of_word (get_or ws i (pos 0))) y) (scan (value_at vs) (first_clause (drop (suc i) ws)))) ≡ scan (value_at vs) (first_clause (drop i₀ ws))
    apart y e =
        ap (λ (z : Value). join (partly ws spot) (join (scan_one (literal_of_word (get_or ws i (pos 0))) z) (scan (value_at vs) (first_clause (drop (suc i) ws))))) (sym e)
        ∙ ap (λ (c : Clause). join (partly ws spot) (scan (value_at vs) c)) (sym (inside_next ws i h.passing.ends literal).2)
        ∙ h.joined

    is_set : (b : Bool) → x ≡ Some b → literal_value (value_at vs) (literal_of_word (get_or ws i (pos 0))) ≡ is b
    is_set b q = is_known (literal_value (value_at vs) (literal_of_word (get_or ws i (pos 0)))) b (sym q ∙ value)

    is_free : x ≡ None → literal_value (value_at vs) (literal_of_word (get_or ws i (pos 0))) ≡ unset
    is_free q = is_unset_lem (literal_value (value_at vs) (literal_of_word (get_or ws i (pos 0)))) (sym q ∙ value)

    pub inner_false : x ≡ Some false → Inner ws vs i₀ (i + 1) spot
    inner_false q =
        record {
          passing = passing_next_lem ws i₀ i h.passing literal;
          behind = λ k e. omega (arith, h.behind k e);
          joined = rw (add-one i) (apart (is false) (is_set false q));
        }

    pub inner_unset : x ≡ None → spot ≡ None → Inner ws vs i₀ (i + 1) (Some i)
    inner_unset q n =
        record {
          passing = passing_next_lem ws i₀ i h.passing literal;
          behind = λ k e. let s : k ≡ i = cc in omega arith;
          joined =
              rw (add-one i) (ap (λ (s : Option ℕ). join (partly ws s) (join (unit (literal_of_word (get_or ws i (pos 0)))) (scan (value_at vs) (first_clause (drop (suc i) ws))))) (sym n) ∙ apart unset (is_free q));
        }

    pub inner_true : x ≡ Some true → Skipped (scan (value_at vs) (first_clause (drop i₀ ws)))
    inner_true q = subst Skipped (apart (is true) (is_set true q)) (go spot)
      where
        go : (k : Option ℕ) → Skipped (join (partly ws k) some_true)
        go None = tt
        go (Some k) = tt

    pub inner_second : x ≡ None → is_some spot ≡ true → Skipped (scan (value_at vs) (first_clause (drop i₀ ws)))
    inner_second q e =
        subst Skipped (apart unset (is_free q)) (go spot e (scan (value_at vs) (first_clause (drop (suc i) ws))))
      where
        go : (k : Option ℕ) → is_some k ≡ true → (s : Scan) → Skipped (join (partly ws k) (join (unit (literal_of_word (get_or ws i (pos 0)))) s))
        go None e s = absurd (true≢false (sym e))
        go (Some k) e all_false = tt
        go (Some k) e (unit o) = tt
        go (Some k) e some_true = tt
        go (Some k) e several = tt

  pub inner_named : (n : ℕ) → AllIn n ws → is_end (get_or ws i (pos 0)) ≡ false → Named ws n i
  inner_named n a goes = record { here = inner_low; goes = goes; high = a i inner_low }

  -- at the clause's end
  inner_end : is_end (get_or ws i (pos 0)) ≡ true → scan (value_at vs) (first_clause (drop i₀ ws)) ≡ partly ws spot
  inner_end g =
      sym (sym (go spot) ∙ ap (λ (c : Clause). join (partly ws spot) (scan (value_at vs) c)) (sym (inside_end ws i h.passing.ends g).1) ∙ h.joined)
    where
      go : (k : Option ℕ) → join (partly ws k) all_false ≡ partly ws k
      go None = refl
      go (Some k) = refl

-- clauses that are passed over
abbrev pub AllSkipped : Values → List Clause → Type 0
AllSkipped σ [] = Unit {0}
AllSkipped σ (c ∷ cs) = Skipped (scan σ c) × AllSkipped σ cs

pub skipped_quiet : (σ : Values) (ds cs : List Clause) → AllSkipped σ ds → Quiet σ cs → Quiet σ (ds ++ cs)
skipped_quiet σ [] cs d q = q
skipped_quiet σ (c ∷ ds) cs d q =
    let h = go (scan σ c) d.0 (skipped_quiet σ ds cs d.1 q) in
    record { calm = h.0; closed = h.1 }
  where
    go : (s : Scan) → Skipped s → Quiet σ (ds ++ cs) → (is_false s || conflict σ (ds ++ cs) ≡ false) × (or_else s (first_unit σ (ds ++ cs)) ≡ nothing)
    go all_false d q = absurd d
    go (unit l) d q = absurd d
    go some_true d q = (q.calm, q.closed)
    go several d q = (q.calm, q.closed)

skipped_more : (σ : Values) (ds : List Clause) (c : Clause) → AllSkipped σ ds → Skipped (scan σ c) → AllSkipped σ (ds ++ (c ∷ []))
skipped_more σ [] c d h = (h, tt)
skipped_more σ (e ∷ ds) c d h = (d.0, skipped_more σ ds c d.1 h)

pub conflict_after : (σ : Values) (ds cs : List Clause) → conflict σ cs ≡ true → conflict σ (ds ++ cs) ≡ true
conflict_after σ [] cs e = e
conflict_after σ (c ∷ ds) cs e = go (is_false (scan σ c)) (conflict_after σ ds cs e)
  where
    go : (b : Bool) → conflict σ (ds ++ cs) ≡ true → b || conflict σ (ds ++ cs) ≡ true
    go true e = refl
    go false e = e

pub unit_after : (σ : Values) (ds cs : List Clause) (l : Literal) → IsUnit σ cs l → IsUnit σ (ds ++ cs) l
unit_after σ [] cs l u = u
unit_after σ (c ∷ ds) cs l u = inr (unit_after σ ds cs l u)

-- the scan at i, from `from` on: nothing yet
pub record Outer (ws : List ℤ) (vs : List ℕ) (from i : ℕ) : Type 0 where
  pub starts : Starts ws i
  pub passed : List Clause
  pub skipped : AllSkipped (value_at vs) passed
  pub split : clauses_of (drop from ws) ≡ passed ++ clauses_of (drop i ws)

pub outer_start : {ws : List ℤ} {vs : List ℕ} {from : ℕ} → Starts ws from → Outer ws vs from from
outer_start s = record { starts = s; passed = []; skipped = tt; split = refl }

literal_is : (z : ℤ) → literal_from (nat_abs z) (sign_of z) ≡ literal_of_word z
literal_is (pos v) = refl
literal_is (negsuc v) = refl

pub sign_bit : (z : ℤ) → sign_of z ≤ 1
sign_bit (pos v) = le_refl 1
sign_bit (negsuc v) = omega arith

module _ {ws : List ℤ} {vs : List ℕ} {from i : ℕ} (h : Outer ws vs from i) where
  pub outer_end : length ws ≤ i → Finds (Starts ws) (value_at vs) (clauses_of (drop from ws)) Nothing
  outer_end l =
      let q : clauses_of (drop from ws) ≡ h.passed ++ [] = h.split ∙ ap (λ (x : List ℤ). h.passed ++ clauses_of x) (drop_of_length-le ws {i = i} l) in
      subst (Quiet (value_at vs)) (sym q) (skipped_quiet (value_at vs) h.passed [] h.skipped (record { calm = refl; closed = refl }))

  module _ (l : i < length ws) where
    here : Clause₁ ws i
    here = a_clause ws i h.starts.closes l

    pub outer_clause : Inner ws vs i i None
    outer_clause = inner_start here.ends

    pub outer_next : {k r : ℕ} {spot : Option ℕ} → Skipped (scan (value_at vs) (first_clause (drop i ws))) → Inner ws vs i k spot → Past ws k r → Outer ws vs from r
    outer_next {k} {r} d n q =
        let e : drop r ws ≡ rest_words (drop i ws) = q.rest ∙ n.passing.rest in
        record {
          starts = starts_past ws i r h.starts l q.low e;
          passed = h.passed ++ (first_clause (drop i ws) ∷ []);
          skipped = skipped_more (value_at vs) h.passed (first_clause (drop i ws)) h.skipped d;
          split =
              h.split ∙ ap (λ (ds : List Clause). h.passed ++ ds) (here.split ∙ ap (λ (x : List ℤ). first_clause (drop i ws) ∷ clauses_of x) (sym e))
              ∙ sym (append_assoc h.passed (first_clause (drop i ws) ∷ []) (clauses_of (drop r ws)));
        }

    whole : clauses_of (drop from ws) ≡ h.passed ++ (first_clause (drop i ws) ∷ clauses_of (rest_words (drop i ws)))
    whole = h.split ∙ ap (λ (ds : List Clause). h.passed ++ ds) here.split

    module _ {k : ℕ} {spot : Option ℕ} (n : Inner ws vs i k spot) (g : is_end (get_or ws k (pos 0)) ≡ true) where
      pub outer_conflict : spot ≡ None → Finds (Starts ws) (value_at vs) (clauses_of (drop from ws)) Conflict
      outer_conflict z =
          subst (λ (cs : List Clause). conflict (value_at vs) cs ≡ true) (sym whole)
          (conflict_after (value_at vs) h.passed (first_clause (drop i ws) ∷ clauses_of (rest_words (drop i ws)))
          (ap (λ (s : Scan). is_false s || conflict (value_at vs) (clauses_of (rest_words (drop i ws)))) (inner_end n g ∙ ap (partly ws) z)))

      pub outer_unit : {u v b : ℕ} → spot ≡ Some u → v ≡ nat_abs (get_or ws u (pos 0)) → b ≡ sign_of (get_or ws u (pos 0)) → UnitFound (Starts ws) (value_at vs) (clauses_of (drop from ws)) v b (k + 1)
      outer_unit {u} {v} {b} z p q =
          let w = get_or ws u (pos 0) in
          record {
            unit =
                subst (λ (cs : List Clause). IsUnit (value_at vs) cs (literal_from v b)) (sym whole)
                (unit_after (value_at vs) h.passed (first_clause (drop i ws) ∷ clauses_of (rest_words (drop i ws))) (literal_from v b)
                (inl (inner_end n g ∙ ap (partly ws) z ∙ ap unit (sym (literal_is w)) ∙ ap₂ (λ (x y : ℕ). unit (literal_from x y)) (sym p) (sym q))));
            bit = subst (λ (x : ℕ). x ≤ 1) (sym q) (sign_bit w);
            starts = rw (add-one k) (starts_past ws i (suc k) h.starts l (inner_low n) ((inside_end ws k n.passing.ends g).0 ∙ n.passing.rest));
          }

-- what is found from a place on is found in the whole list
abbrev pub Finding : Found → Type 0
Finding r = r ≡ Nothing → ⊥

pub found_after : (P : ℕ → Type 0) (σ : Values) (cs ds : List Clause) (r : Found) → Finding r → Finds P σ ds r → Finds P σ (cs ++ ds) r
found_after P σ cs ds Nothing s f = absurd (s refl)
found_after P σ cs ds Conflict s f = conflict_after σ cs ds f
found_after P σ cs ds (UnitAt v b next) s f = record { unit = unit_after σ cs ds (literal_from v b) f.unit; bit = f.bit; starts = f.starts }

module _ (ws : List ℤ) (vs : List ℕ) (from : ℕ) (r : Found) where
  pub finds_whole : Starts ws from → Finding r → Finds (Starts ws) (value_at vs) (clauses_of (drop from ws)) r → Finds (Starts ws) (value_at vs) (clauses_of ws) r
  finds_whole s k f = subst (λ (cs : List Clause). Finds (Starts ws) (value_at vs) cs r) (sym s.split) (found_after (Starts ws) (value_at vs) s.before (clauses_of (drop from ws)) r k f)
