-- The scan of two lists, one after the other, and unit setting over both.
use mathlib.Core.Path.{◌≡◌, refl, sym, ap, ◌∙◌, subst}
use mathlib.Core.Logic.{inl, inr}
use mathlib.Core.Bool.{Bool, true, false, ◌||◌, true≢false}
use mathlib.Core.List.{List, [], ◌∷◌, ◌++◌, append_assoc}
use Prim.Native.Nat.{ℕ, zero, suc, ◌+◌, ◌-◌, ◌<◌, ◌≤◌}
use native.Mathlib.Omega.{arith}
use native.Mathlib.Decide.{dec_lt}
use lib.IntN.{ℤ}
use lib.ListN.{length, get_or, drop, set, length-set, drop_of_length-le}
use Rattle.clauses.specs.Literal.{Literal, Clause}
use Rattle.clauses.specs.Meaning.{Within}
use Rattle.clauses.specs.Words.{clauses_of}
use Rattle.search.specs.Search.{Value, unset, Settings, Values, value_of, Scan, all_false, unit, some_true, several, scan, is_false, conflict, nothing, or_else, first_unit, forced, is_unset}
use Rattle.search.specs.AnyOrder.{IsUnit, Quiet, Settles, done, more}
use Rattle.search.specs.Memory.{Starts, value_of_byte, value_at, literal_from, bit, Finds, Agrees, Two, StartsAfter, StartsTwo, clauses_from, both_of, Reaches}
use Rattle.search.proofs.Scans.{Free, unit_free}
use Rattle.search.proofs.Reading.{starts_zero, within_words}
use Rattle.search.proofs.Scanning.{Skipped, AllSkipped, skipped_quiet, conflict_after, unit_after, Finding, found_after}
use Rattle.search.proofs.State.{byte_bit}
use Rattle.search.proofs.Steps.{conflict_ext, is_unit_ext, quiet_ext, variable_is}
use Rattle.search.proofs.Denying.{set_agrees}
use Rattle.search.proofs.Refutations.{within_both, reaches_is}
use Rattle.search.specs.declared.scan.Found.{Found}
use Rattle.search.specs.declared.scan.Found.TheVariants.{Nothing, Conflict, Unit as UnitAt}

-- quiet clauses, a conflict and a unit among more clauses
quiet_skips : (σ : Values) (cs : List Clause) → Quiet σ cs → AllSkipped σ cs
quiet_skips σ [] q = tt
quiet_skips σ (c ∷ cs) q = go (scan σ c) q.calm q.closed (quiet_skips σ cs)
  where
    go : (s : Scan) → is_false s || conflict σ cs ≡ false → or_else s (first_unit σ cs) ≡ nothing → (Quiet σ cs → AllSkipped σ cs) → Skipped s × AllSkipped σ cs
    go all_false e f k = absurd (true≢false e)
    go (unit l) e f k = absurd (let z : ◌≡◌ {A = ℕ} 0 1 = cc in omega arith)
    go some_true e f k = (tt, k (record { calm = e; closed = f }))
    go several e f k = (tt, k (record { calm = e; closed = f }))

quiet_both : (σ : Values) (cs ds : List Clause) → Quiet σ cs → Quiet σ ds → Quiet σ (cs ++ ds)
quiet_both σ cs ds p q = skipped_quiet σ cs ds (quiet_skips σ cs p) q

conflict_before : (σ : Values) (cs ds : List Clause) → conflict σ cs ≡ true → conflict σ (cs ++ ds) ≡ true
conflict_before σ [] ds e = absurd (true≢false (sym e))
conflict_before σ (c ∷ cs) ds e = go (is_false (scan σ c)) e (conflict_before σ cs ds)
  where
    go : (b : Bool) → b || conflict σ cs ≡ true → (conflict σ cs ≡ true → conflict σ (cs ++ ds) ≡ true) → b || conflict σ (cs ++ ds) ≡ true
    go true e k = refl
    go false e k = k e

unit_before : (σ : Values) (cs ds : List Clause) (l : Literal) → IsUnit σ cs l → IsUnit σ (cs ++ ds) l
unit_before σ [] ds l u = absurd u
unit_before σ (c ∷ cs) ds l (inl e) = inl e
unit_before σ (c ∷ cs) ds l (inr u) = inr (unit_before σ cs ds l u)

-- what a scan finds, told of other places and of more clauses
found_among : (P Q : ℕ → Type 0) (σ : Values) (cs ds : List Clause) → ((i : ℕ) → P i → Q i) → Quiet σ cs → (r : Found) → Finds P σ ds r → Finds Q σ (cs ++ ds) r
found_among P Q σ cs ds h q Nothing f = quiet_both σ cs ds q f
found_among P Q σ cs ds h q Conflict f = conflict_after σ cs ds f
found_among P Q σ cs ds h q (UnitAt v b next) f = record { unit = unit_after σ cs ds (literal_from v b) f.unit; bit = f.bit; starts = h next f.starts }

found_before : (P Q : ℕ → Type 0) (σ : Values) (cs ds : List Clause) → ((i : ℕ) → P i → Q i) → (r : Found) → Finding r → Finds P σ cs r → Finds Q σ (cs ++ ds) r
found_before P Q σ cs ds h Nothing s f = absurd (s refl)
found_before P Q σ cs ds h Conflict s f = conflict_before σ cs ds f
found_before P Q σ cs ds h (UnitAt v b next) s f = record { unit = unit_before σ cs ds (literal_from v b) f.unit; bit = f.bit; starts = h next f.starts }

module _ {n : ℕ} {ws ds : List ℤ} (two : Two n ws ds) where
  -- places
  pub starts_first : StartsTwo ws ds 0
  starts_first = ((λ l. starts_zero ws two.closes), λ l. subst (Starts ds) (let e : 0 ≡ 0 - length ws = omega arith in e) (starts_zero ds two.closes₂))

  of_first : (i : ℕ) → Starts ws i → StartsTwo ws ds i
  of_first i s = ((λ l. s), λ l. subst (Starts ds) (let h = s.low in let e : 0 ≡ i - length ws = omega arith in e) (starts_zero ds two.closes₂))

  of_second : (i : ℕ) → StartsAfter (length ws) ds i → StartsTwo ws ds i
  of_second i s = ((λ l. absurd (let h = s.0 in omega arith)), λ l. s.1)

  -- the scan from a place of the first list on that finds something, and from there into the second
  module _ (σ : Values) (from : ℕ) (r : Found) where
    pub two_first : Finding r → Finds (Starts ws) σ (clauses_of (drop from ws)) r → Finds (StartsTwo ws ds) σ (clauses_from ws ds from) r
    two_first s f = found_before (Starts ws) (StartsTwo ws ds) σ (clauses_of (drop from ws)) (clauses_of (drop (from - length ws) ds)) of_first r s f

    pub two_on : from < length ws → Quiet σ (clauses_of (drop from ws)) → Finds (StartsAfter (length ws) ds) σ (clauses_of (drop 0 ds)) r → Finds (StartsTwo ws ds) σ (clauses_from ws ds from) r
    two_on l q f =
        subst (λ (k : ℕ). Finds (StartsTwo ws ds) σ (clauses_of (drop from ws) ++ clauses_of (drop k ds)) r) (let e : 0 ≡ from - length ws = omega arith in e)
        (found_among (StartsAfter (length ws) ds) (StartsTwo ws ds) σ (clauses_of (drop from ws)) (clauses_of (drop 0 ds)) of_second q r f)

  -- all round
  from_start : clauses_from ws ds 0 ≡ both_of ws ds
  from_start = ap (λ (k : ℕ). clauses_of ws ++ clauses_of (drop k ds)) (let e : 0 - length ws ≡ 0 = omega arith in e)

  clauses_from_lem : (i : ℕ) → StartsTwo ws ds i → (before : List Clause) × (both_of ws ds ≡ before ++ clauses_from ws ds i)
  clauses_from_lem i s = go (dec_lt i (length ws))
    where
      go : Dec (i < length ws) → (before : List Clause) × (both_of ws ds ≡ before ++ clauses_from ws ds i)
      go (yes l) =
          let a = s.0 l in (
            a.before,
            ap (λ (x : List Clause). x ++ clauses_of ds) a.split ∙ append_assoc a.before (clauses_of (drop i ws)) (clauses_of ds)
                ∙ ap (λ (k : ℕ). a.before ++ (clauses_of (drop i ws) ++ clauses_of (drop k ds))) (let e : 0 ≡ i - length ws = omega arith in e),
          )
      go (no l) =
          let a = s.1 (omega arith) in (
            clauses_of ws ++ a.before,
            ap (λ (x : List Clause). clauses_of ws ++ x) a.split ∙ sym (append_assoc (clauses_of ws) a.before (clauses_of (drop (i - length ws) ds)))
                ∙ ap (λ (x : List ℤ). (clauses_of ws ++ a.before) ++ (clauses_of x ++ clauses_of (drop (i - length ws) ds))) (sym (drop_of_length-le ws {i = i} (omega arith))),
          )

  module _ (σ : Values) (from : ℕ) (r : Found) where
    pub round_some : StartsTwo ws ds from → Finding r → Finds (StartsTwo ws ds) σ (clauses_from ws ds from) r → Finds (StartsTwo ws ds) σ (both_of ws ds) r
    round_some s k f =
        let b = clauses_from_lem from s in
        subst (λ (cs : List Clause). Finds (StartsTwo ws ds) σ cs r) (sym b.1) (found_after (StartsTwo ws ds) σ b.0 (clauses_from ws ds from) r k f)

-- unit setting
settles_more : (cs : List Clause) {ss ss₁ : Settings} → Settles cs ss ss₁ → (l : Literal) → IsUnit (value_of ss₁) cs l → Settles cs ss (forced l ∷ ss₁)
settles_more cs done l u = more l u done
settles_more cs (more m v s) l u = more m v (settles_more cs s l u)

-- how many values are unset
abbrev pub unset_bytes : List ℕ → ℕ
unset_bytes [] = 0
unset_bytes (x ∷ xs) = bit (is_unset (value_of_byte x)) + unset_bytes xs

bytes_fall : (vs : List ℕ) (i b : ℕ) → i < length vs → value_of_byte (get_or vs i 0) ≡ unset → b ≤ 1 → unset_bytes (set vs i b) < unset_bytes vs
bytes_fall [] i b l e h = absurd (omega arith)
bytes_fall (x ∷ xs) zero b l e h =
    let p : bit (is_unset (value_of_byte x)) ≡ 1 = ap (λ (y : Value). bit (is_unset y)) e in
    let q : bit (is_unset (value_of_byte b)) ≡ 0 = ap (λ (y : Value). bit (is_unset y)) (byte_bit b h) in
    omega arith
bytes_fall (x ∷ xs) (suc i) b l e h = let k = bytes_fall xs i b (omega arith) e h in omega arith

-- from values vs₀, units were set up to values vs
pub record Settling (cs : List Clause) (vs₀ vs : List ℕ) : Type 0 where
  pub wide : length vs ≡ length vs₀
  pub settles : (ss : Settings) → Agrees ss vs₀ → (ss₁ : Settings) × Settles cs ss ss₁ × Agrees ss₁ vs

pub settling_start : {cs : List Clause} {vs : List ℕ} → Settling cs vs vs
settling_start = record { wide = refl; settles = λ ss a. (ss, done, a) }

-- after a scan that found r
module _ {ws ds : List ℤ} {vs₀ vs : List ℕ} (two : Two (length vs₀) ws ds) (h : Settling (both_of ws ds) vs₀ vs) (r : Found) (f : Finds (StartsTwo ws ds) (value_at vs) (both_of ws ds) r) where
  within : Within (length vs₀) (both_of ws ds)
  within = within_both (length vs₀) (clauses_of ws) (clauses_of ds) (within_words (length vs₀) ws two.inside) (within_words (length vs₀) ds two.inside₂)

  here : Within (length vs) (both_of ws ds)
  here = rw h.wide within

  finds : {q : Found} → r ≡ q → Finds (StartsTwo ws ds) (value_at vs) (both_of ws ds) q
  finds e = subst (Finds (StartsTwo ws ds) (value_at vs) (both_of ws ds)) e f

  pub settling_quiet : r ≡ Nothing → Reaches (both_of ws ds) vs₀ false
  settling_quiet e ss a =
      let s = h.settles ss a in
      reaches_is (length vs₀) (both_of ws ds) within ss false (s.0, s.1, quiet_ext (length vs) (value_of s.0) (value_at vs) s.2 (both_of ws ds) here (finds e))

  pub settling_conflict : r ≡ Conflict → Reaches (both_of ws ds) vs₀ true
  settling_conflict e ss a =
      let s = h.settles ss a in
      reaches_is (length vs₀) (both_of ws ds) within ss true (s.0, s.1, conflict_ext (length vs) (value_of s.0) (value_at vs) s.2 (both_of ws ds) here ∙ finds e)

  module _ {v b next : ℕ} (e : r ≡ UnitAt v b next) where
    free : Free (length vs) (value_at vs) (literal_from v b)
    free = unit_free (length vs) (value_at vs) (both_of ws ds) here (literal_from v b) (finds e).unit

    pub unit_low : 0 < v
    unit_low = subst (λ (k : ℕ). 0 < k) (variable_is v b) free.low

    pub unit_high : v ≤ length vs
    unit_high = subst (λ (k : ℕ). k ≤ length vs) (variable_is v b) free.high

    pub settling_less : unset_bytes (set vs (v - 1) b) < unset_bytes vs
    settling_less =
        let a = unit_low in
        let c = unit_high in
        bytes_fall vs (v - 1) b (omega arith) (subst (λ (k : ℕ). value_at vs k ≡ unset) (variable_is v b) free.unset!) (finds e).bit

    pub settling_next : Settling (both_of ws ds) vs₀ (set vs (v - 1) b) × StartsTwo ws ds next
    settling_next = (
      record {
        wide = length-set vs (v - 1) b ∙ h.wide;
        settles = λ ss a. let s = h.settles ss a in (
          forced (literal_from v b) ∷ s.0,
          settles_more (both_of ws ds) s.1 (literal_from v b) (is_unit_ext (length vs) (value_of s.0) (value_at vs) s.2 (both_of ws ds) here (literal_from v b) (finds e).unit),
          set_agrees s.0 vs v b unit_low unit_high (finds e).bit s.2,
        );
      },
      (finds e).starts,
    )
