-- What a scan says of the assignments that agree with the settings.
use mathlib.Core.Path.{◌≡◌, refl, sym, ap, ◌∙◌, subst}
use mathlib.Core.Logic.{inl, inr}
use mathlib.Core.Bool.{Bool, true, false, not, ◌&&◌, ◌||◌, cond, true≢false}
use mathlib.Core.List.{List, [], ◌∷◌}
use Prim.Native.Nat.{ℕ, zero, suc, ◌+◌, ◌<◌, ◌≤◌}
use native.Mathlib.Omega.{arith}
use native.Mathlib.Nat.{le_refl}
use lib.Dec.{eqb}
use borrow.Author.Tests.{eqb-true, eqb-false}
use Rattle.std.specs.Prelude.{Option, None, Some}
use Rattle.clauses.specs.Literal.{Literal, positive, negative, variable_of, Clause}
use Rattle.clauses.specs.Meaning.{Assignment, literal_true, clause_true, satisfies, ClauseWithin, Within}
use Rattle.search.specs.Search.{Value, unset, is, Setting, Settings, Values, value_of, opposite, literal_value, Scan, all_false, unit, some_true, several, scan_one, join, scan, is_false, conflict, is_unset, lowest_unset}
use Rattle.search.specs.AnyOrder.{IsUnit}

-- an assignment follows settings: it has their values
abbrev pub Follows : Assignment → Settings → Type 0
Follows ρ ss = (v : ℕ) (b : Bool) → value_of ss v ≡ is b → ρ v ≡ b

pub follows_none : (ρ : Assignment) → Follows ρ []
follows_none ρ v b e = absurd (let z : ◌≡◌ {A = ℕ} 0 1 = cc in omega arith)

pub follows_more : (ρ : Assignment) (s : Setting) (ss : Settings) → Follows ρ ss → ρ s.variable ≡ s.value → Follows ρ (s ∷ ss)
follows_more ρ s ss f h v b e = go (eqb v s.variable) refl
  where
    go : (t : Bool) → eqb v s.variable ≡ t → ρ v ≡ b
    go true p =
        let q : is s.value ≡ is b = rw p at e in
        let r : s.value ≡ b = cc in
        ap ρ (eqb-true v s.variable p) ∙ h ∙ r
    go false p = f v b (rw p at e)

follows_lit : (ρ : Assignment) (ss : Settings) → Follows ρ ss → (l : Literal) (b : Bool) → literal_value (value_of ss) l ≡ is b → literal_true ρ l ≡ b
follows_lit ρ ss f (positive v) b e = f v b e
follows_lit ρ ss f (negative v) b e = go (value_of ss v) refl
  where
    go : (x : Value) → value_of ss v ≡ x → not (ρ v) ≡ b
    go unset p = absurd (let q : unset ≡ is b = rw p at e in let z : ◌≡◌ {A = ℕ} 0 1 = cc in omega arith)
    go (is c) p =
        let q : is (not c) ≡ is b = rw p at e in
        let r : not c ≡ b = cc in
        ap not (f v c p) ∙ r

-- what a scan says of an assignment that follows
abbrev pub Means : Assignment → Clause → Scan → Type 0
Means ρ c all_false = clause_true ρ c ≡ false
Means ρ c (unit l) = clause_true ρ c ≡ literal_true ρ l
Means ρ c some_true = clause_true ρ c ≡ true
Means ρ c several = Unit {0}

pub or_true : (b : Bool) → b || true ≡ true
or_true true = refl
or_true false = refl

pub or_false : (b : Bool) → b || false ≡ b
or_false true = refl
or_false false = refl

means_step : (ρ : Assignment) (l : Literal) (ls : Clause) (x : Value) → ((b : Bool) → x ≡ is b → literal_true ρ l ≡ b) → (r : Scan) → Means ρ ls r → Means ρ (l ∷ ls) (join (scan_one l x) r)
means_step ρ l ls unset h all_false m = rw m (or_false (literal_true ρ l))
means_step ρ l ls unset h (unit k) m = tt
means_step ρ l ls unset h some_true m = rw m (or_true (literal_true ρ l))
means_step ρ l ls unset h several m = tt
means_step ρ l ls (is true) h r m = rw (h true refl)
means_step ρ l ls (is false) h all_false m = rw (h false refl) m
means_step ρ l ls (is false) h (unit k) m = rw (h false refl) m
means_step ρ l ls (is false) h some_true m = rw (h false refl) m
means_step ρ l ls (is false) h several m = tt

pub scan_means : (ρ : Assignment) (ss : Settings) → Follows ρ ss → (c : Clause) → Means ρ c (scan (value_of ss) c)
scan_means ρ ss f [] = refl
scan_means ρ ss f (l ∷ ls) = means_step ρ l ls (literal_value (value_of ss) l) (follows_lit ρ ss f l) (scan (value_of ss) ls) (scan_means ρ ss f ls)

-- a unit's literal is unset, and of a variable in 1..n
pub record Free (n : ℕ) (σ : Values) (l : Literal) : Type 0 where
  pub unset! : σ (variable_of l) ≡ unset
  pub low : 0 < variable_of l
  pub high : variable_of l ≤ n

abbrev pub UnitFree : ℕ → Values → Scan → Type 0
UnitFree n σ all_false = Unit {0}
UnitFree n σ (unit l) = Free n σ l
UnitFree n σ some_true = Unit {0}
UnitFree n σ several = Unit {0}

unset_var : (σ : Values) (l : Literal) → literal_value σ l ≡ unset → σ (variable_of l) ≡ unset
unset_var σ (positive v) e = e
unset_var σ (negative v) e = go (σ v) refl
  where
    go : (x : Value) → σ v ≡ x → σ v ≡ unset
    go unset p = p
    go (is c) p = absurd (let q : is (not c) ≡ unset = rw p at e in let z : ◌≡◌ {A = ℕ} 0 1 = cc in omega arith)

free_step : (n : ℕ) (σ : Values) (l : Literal) → 0 < variable_of l → variable_of l ≤ n → (x : Value) → literal_value σ l ≡ x → (r : Scan) → UnitFree n σ r → UnitFree n σ (join (scan_one l x) r)
free_step n σ l a b unset e all_false m = record { unset! = unset_var σ l e; low = a; high = b }
free_step n σ l a b unset e (unit k) m = tt
free_step n σ l a b unset e some_true m = tt
free_step n σ l a b unset e several m = tt
free_step n σ l a b (is true) e r m = tt
free_step n σ l a b (is false) e r m = m

scan_free : (n : ℕ) (σ : Values) (c : Clause) → ClauseWithin n c → UnitFree n σ (scan σ c)
scan_free n σ [] w = tt
scan_free n σ (l ∷ ls) w = free_step n σ l w.0.0 w.0.1 (literal_value σ l) refl (scan σ ls) (scan_free n σ ls w.1)

pub unit_free : (n : ℕ) (σ : Values) (cs : List Clause) → Within n cs → (l : Literal) → IsUnit σ cs l → Free n σ l
unit_free n σ [] w l u = absurd u
unit_free n σ (c ∷ cs) w l (inl e) = subst (UnitFree n σ) e (scan_free n σ c w.0)
unit_free n σ (c ∷ cs) w l (inr u) = unit_free n σ cs w.1 l u

-- with every variable set a clause is all false or has a true literal
abbrev pub AllSet : ℕ → Settings → Type 0
AllSet n ss = (v : ℕ) → 0 < v → v ≤ n → is_unset (value_of ss v) ≡ false

abbrev Decided : Scan → Type 0
Decided all_false = Unit {0}
Decided (unit l) = ⊥
Decided some_true = Unit {0}
Decided several = ⊥

decided_step : (l : Literal) (x : Value) → is_unset x ≡ false → (r : Scan) → Decided r → Decided (join (scan_one l x) r)
decided_step l unset e r d = absurd (true≢false e)
decided_step l (is true) e r d = tt
decided_step l (is false) e r d = d

lit_set : (n : ℕ) (ss : Settings) → AllSet n ss → (l : Literal) → 0 < variable_of l → variable_of l ≤ n → is_unset (literal_value (value_of ss) l) ≡ false
lit_set n ss h (positive v) a b = h v a b
lit_set n ss h (negative v) a b = go (value_of ss v) (h v a b)
  where
    go : (x : Value) → is_unset x ≡ false → is_unset (opposite x) ≡ false
    go unset e = e
    go (is c) e = refl

scan_decided : (n : ℕ) (ss : Settings) → AllSet n ss → (c : Clause) → ClauseWithin n c → Decided (scan (value_of ss) c)
scan_decided n ss h [] w = tt
scan_decided n ss h (l ∷ ls) w = decided_step l (literal_value (value_of ss) l) (lit_set n ss h l w.0.0 w.0.1) (scan (value_of ss) ls) (scan_decided n ss h ls w.1)

both : (a b : Bool) → a ≡ true → b ≡ true → a && b ≡ true
both a b p q = rw p q

pub both_l : (a b : Bool) → a && b ≡ true → a ≡ true
both_l true b e = refl
both_l false b e = e

pub both_r : (a b : Bool) → a && b ≡ true → b ≡ true
both_r true b e = e
both_r false b e = absurd (true≢false (sym e))

pub neither_l : (a b : Bool) → a || b ≡ false → a ≡ false
neither_l true b e = e
neither_l false b e = refl

pub neither_r : (a b : Bool) → a || b ≡ false → b ≡ false
neither_r true b e = absurd (true≢false e)
neither_r false b e = e

-- in a conflict no assignment that follows satisfies
pub conflict_no : (ρ : Assignment) (ss : Settings) → Follows ρ ss → (cs : List Clause) → conflict (value_of ss) cs ≡ true → satisfies ρ cs ≡ true → ⊥
conflict_no ρ ss f [] e s = true≢false (sym e)
conflict_no ρ ss f (c ∷ cs) e s =
    go (scan (value_of ss) c) e (scan_means ρ ss f c) (λ e'. conflict_no ρ ss f cs e' (both_r (clause_true ρ c) (satisfies ρ cs) s))
  where
    go : (r : Scan) → is_false r || conflict (value_of ss) cs ≡ true → Means ρ c r → (conflict (value_of ss) cs ≡ true → ⊥) → ⊥
    go all_false e m k = true≢false (sym (both_l (clause_true ρ c) (satisfies ρ cs) s) ∙ m)
    go (unit l) e m k = k e
    go some_true e m k = k e
    go several e m k = k e

-- a unit: unset, and implied
pub record Forced (n : ℕ) (cs : List Clause) (ss : Settings) (l : Literal) : Type 0 where
  pub fresh : Free n (value_of ss) l
  pub implied : (ρ : Assignment) → Follows ρ ss → satisfies ρ cs ≡ true → literal_true ρ l ≡ true

pub unit_implied : (cs : List Clause) (ss : Settings) (l : Literal) → IsUnit (value_of ss) cs l → (ρ : Assignment) → Follows ρ ss → satisfies ρ cs ≡ true → literal_true ρ l ≡ true
unit_implied [] ss l u ρ f s = absurd u
unit_implied (c ∷ cs) ss l (inl e) ρ f s = sym (subst (Means ρ c) e (scan_means ρ ss f c)) ∙ both_l (clause_true ρ c) (satisfies ρ cs) s
unit_implied (c ∷ cs) ss l (inr u) ρ f s = unit_implied cs ss l u ρ f (both_r (clause_true ρ c) (satisfies ρ cs) s)

pub unit_forced : (n : ℕ) (cs : List Clause) (ss : Settings) → Within n cs → (l : Literal) → IsUnit (value_of ss) cs l → Forced n cs ss l
unit_forced n cs ss w l u = record { fresh = unit_free n (value_of ss) cs w l u; implied = unit_implied cs ss l u }

-- all set and no conflict: satisfied
pub settled : (n : ℕ) (ρ : Assignment) (ss : Settings) → Follows ρ ss → AllSet n ss → (cs : List Clause) → Within n cs → conflict (value_of ss) cs ≡ false → satisfies ρ cs ≡ true
settled n ρ ss f h [] w e = refl
settled n ρ ss f h (c ∷ cs) w e =
    both (clause_true ρ c) (satisfies ρ cs)
    (go (scan (value_of ss) c) (neither_l (is_false (scan (value_of ss) c)) (conflict (value_of ss) cs) e) (scan_decided n ss h c w.0) (scan_means ρ ss f c))
    (settled n ρ ss f h cs w.1 (neither_r (is_false (scan (value_of ss) c)) (conflict (value_of ss) cs) e))
  where
    go : (r : Scan) → is_false r ≡ false → Decided r → Means ρ c r → clause_true ρ c ≡ true
    go all_false e d m = absurd (true≢false e)
    go (unit l) e d m = absurd d
    go some_true e d m = m
    go several e d m = absurd d

-- the assignment that settings make: what is unset is false
abbrev pub is_true : Value → Bool
is_true unset = false
is_true (is b) = b

abbrev pub made : Settings → Assignment
made ss v = is_true (value_of ss v)

pub made_follows : (ss : Settings) → Follows (made ss) ss
made_follows ss v b e = rw e

-- the lowest unset variable: all before it are set
pub record LowestAt (ss : Settings) (v k u : ℕ) : Type 0 where
  pub low : v ≤ u
  pub high : u < v + k
  pub unset! : value_of ss u ≡ unset
  pub before : (x : ℕ) → v ≤ x → x < u → is_unset (value_of ss x) ≡ false

abbrev pub LowestRight : Settings → ℕ → ℕ → Option ℕ → Type 0
LowestRight ss v k None = (u : ℕ) → v ≤ u → u < v + k → is_unset (value_of ss u) ≡ false
LowestRight ss v k (Some u) = LowestAt ss v k u

was_unset : (x : Value) → is_unset x ≡ true → x ≡ unset
was_unset unset e = refl
was_unset (is b) e = absurd (true≢false (sym e))

pub lowest_right : (ss : Settings) (v k : ℕ) → LowestRight ss v k (lowest_unset (value_of ss) v k)
lowest_right ss v zero = λ u a b. absurd (omega arith)
lowest_right ss v (suc k) = go (is_unset (value_of ss v)) refl (lowest_unset (value_of ss) (suc v) k) (lowest_right ss (suc v) k)
  where
    -- v is set, and so is each past it
    from : is_unset (value_of ss v) ≡ false → (u : ℕ) → v ≤ u → (v < u → is_unset (value_of ss u) ≡ false) → is_unset (value_of ss u) ≡ false
    from e u a h = pick (eqb u v) refl
      where
        pick : (t : Bool) → eqb u v ≡ t → is_unset (value_of ss u) ≡ false
        pick true q = rw (eqb-true u v q) e
        pick false q = let ne = eqb-false u v q in h (omega arith)

    go : (t : Bool) → is_unset (value_of ss v) ≡ t → (p : Option ℕ) → LowestRight ss (suc v) k p → LowestRight ss v (suc k) (cond t (Some v) p)
    go true e p h = record { low = le_refl v; high = omega arith; unset! = was_unset (value_of ss v) e; before = λ x a b. absurd (omega arith) }
    go false e None h = λ u a b. from e u a (λ l. h u l (omega arith))
    go false e (Some u) h = record {
      low = omega (arith, h.low);
      high = omega (arith, h.high);
      unset! = h.unset!;
      before = λ x a b. from e x a (λ l. h.before x l b);
    }
