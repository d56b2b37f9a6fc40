-- Settings closed under units are the same whatever the order in which the units were set.
use mathlib.Core.Path.{◌≡◌, refl, sym, ap, ◌∙◌, subst}
use mathlib.Core.Logic.{inl, inr}
use mathlib.Core.Bool.{Bool, true, false, not, ◌||◌, true≢false}
use mathlib.Core.List.{List, [], ◌∷◌}
use Prim.Native.Nat.{ℕ}
use native.Mathlib.Omega.{arith}
use lib.Dec.{eqb}
use borrow.Author.Tests.{eqb-true, eqb-false}
use Rattle.clauses.specs.Literal.{Literal, positive, negative, Clause}
use Rattle.search.specs.Search.{Value, unset, is, Settings, Values, value_of, opposite, literal_value, Scan, all_false, unit, some_true, several, scan_one, join, scan, is_false, conflict, nothing, found, or_else, first_unit, forced}
use Rattle.search.specs.AnyOrder.{IsUnit, Quiet, Settles, done, more}
use Rattle.search.proofs.Counting.{value_of_other, value_of_same}

-- values that hold more
abbrev Below : Values → Values → Type 0
Below σ τ = (v : ℕ) (b : Bool) → σ v ≡ is b → τ v ≡ is b

is_inj : {a b : Bool} → is a ≡ is b → a ≡ b
is_inj e = cc

not_unset : {b : Bool} → unset ≡ is b → ⊥
not_unset e = let z : ◌≡◌ {A = ℕ} 0 1 = cc in omega arith

below_lit : (σ τ : Values) → Below σ τ → (l : Literal) (b : Bool) → literal_value σ l ≡ is b → literal_value τ l ≡ is b
below_lit σ τ h (positive v) b e = h v b e
below_lit σ τ h (negative v) b e = go (σ v) refl e
  where
    go : (x : Value) → σ v ≡ x → opposite x ≡ is b → opposite (τ v) ≡ is b
    go unset p q = absurd (not_unset q)
    go (is c) p q = ap opposite (h v c p) ∙ q

join_none : (s : Scan) → join s all_false ≡ s
join_none all_false = refl
join_none (unit l) = refl
join_none some_true = refl
join_none several = refl

-- what a scan tells of more values
abbrev Up : Values → Clause → Scan → Type 0
Up τ c all_false = scan τ c ≡ all_false
Up τ c (unit l) = scan τ c ≡ scan_one l (literal_value τ l)
Up τ c some_true = Unit {0}
Up τ c several = Unit {0}

scan_up : (σ τ : Values) → Below σ τ → (c : Clause) → Up τ c (scan σ c)
scan_up σ τ h [] = refl
scan_up σ τ h (m ∷ ms) = go (literal_value σ m) refl (scan σ ms) (scan_up σ τ h ms)
  where
    go : (x : Value) → literal_value σ m ≡ x → (r : Scan) → Up τ ms r → Up τ (m ∷ ms) (join (scan_one m x) r)
    go unset e all_false u = ap (join (scan_one m (literal_value τ m))) u ∙ join_none (scan_one m (literal_value τ m))
    go unset e (unit k) u = tt
    go unset e some_true u = tt
    go unset e several u = tt
    go (is true) e r u = tt
    go (is false) e all_false u = rw (below_lit σ τ h m false e) u
    go (is false) e (unit k) u = rw (below_lit σ τ h m false e) u
    go (is false) e some_true u = tt
    go (is false) e several u = tt

conflict_up : (σ τ : Values) → Below σ τ → (cs : List Clause) → conflict σ cs ≡ true → conflict τ cs ≡ true
conflict_up σ τ h [] e = e
conflict_up σ τ h (c ∷ cs) e = go (scan σ c) (scan_up σ τ h c) e (conflict_up σ τ h cs)
  where
    or_r : (a b : Bool) → b ≡ true → a || b ≡ true
    or_r true b e = refl
    or_r false b e = e

    go : (r : Scan) → Up τ c r → is_false r || conflict σ cs ≡ true → (conflict σ cs ≡ true → conflict τ cs ≡ true) → is_false (scan τ c) || conflict τ cs ≡ true
    go all_false u e k = rw u
    go (unit l) u e k = or_r (is_false (scan τ c)) (conflict τ cs) (k e)
    go some_true u e k = or_r (is_false (scan τ c)) (conflict τ cs) (k e)
    go several u e k = or_r (is_false (scan τ c)) (conflict τ cs) (k e)

-- a unit's literal is unset
abbrev UnitUnset : Values → Scan → Type 0
UnitUnset σ all_false = Unit {0}
UnitUnset σ (unit l) = literal_value σ l ≡ unset
UnitUnset σ some_true = Unit {0}
UnitUnset σ several = Unit {0}

scan_unset : (σ : Values) (c : Clause) → UnitUnset σ (scan σ c)
scan_unset σ [] = tt
scan_unset σ (m ∷ ms) = go (literal_value σ m) refl (scan σ ms) (scan_unset σ ms)
  where
    go : (x : Value) → literal_value σ m ≡ x → (r : Scan) → UnitUnset σ r → UnitUnset σ (join (scan_one m x) r)
    go unset e all_false u = e
    go unset e (unit k) u = tt
    go unset e some_true u = tt
    go unset e several u = tt
    go (is true) e r u = tt
    go (is false) e r u = u

unit_unset : (σ : Values) (cs : List Clause) (l : Literal) → IsUnit σ cs l → literal_value σ l ≡ unset
unit_unset σ [] l u = absurd u
unit_unset σ (c ∷ cs) l (inl e) = subst (UnitUnset σ) e (scan_unset σ c)
unit_unset σ (c ∷ cs) l (inr u) = unit_unset σ cs l u

-- a unit's literal is true under closed values that hold more
unit_true : (σ τ : Values) → Below σ τ → (cs : List Clause) → Quiet τ cs → (l : Literal) → IsUnit σ cs l → literal_value τ l ≡ is true
unit_true σ τ h [] k l u = absurd u
unit_true σ τ h (c ∷ cs) k l (inl e) = go (literal_value τ l) refl
  where
    up : scan τ c ≡ scan_one l (literal_value τ l)
    up = subst (Up τ c) e (scan_up σ τ h c)

    go : (x : Value) → literal_value τ l ≡ x → literal_value τ l ≡ is true
    go unset p =
        let s : scan τ c ≡ unit l = up ∙ ap (scan_one l) p in
        let q : found l ≡ nothing = ap (λ (r : Scan). or_else r (first_unit τ cs)) (sym s) ∙ k.closed in
        absurd (let z : ◌≡◌ {A = ℕ} 0 1 = cc in omega arith)
    go (is true) p = p
    go (is false) p =
        let s : scan τ c ≡ all_false = up ∙ ap (scan_one l) p in
        let q : true ≡ false = ap (λ (r : Scan). is_false r || conflict τ cs) (sym s) ∙ k.calm in
        absurd (true≢false q)
unit_true σ τ h (c ∷ cs) k l (inr u) = unit_true σ τ h cs (record { calm = rest_calm; closed = rest_closed (scan τ c) k.closed }) l u
  where
    r_or : (a b : Bool) → a || b ≡ false → b ≡ false
    r_or true b e = absurd (true≢false e)
    r_or false b e = e

    rest_calm : conflict τ cs ≡ false
    rest_calm = r_or (is_false (scan τ c)) (conflict τ cs) k.calm

    rest_closed : (r : Scan) → or_else r (first_unit τ cs) ≡ nothing → first_unit τ cs ≡ nothing
    rest_closed all_false e = e
    rest_closed (unit l) e = absurd (let z : ◌≡◌ {A = ℕ} 0 1 = cc in omega arith)
    rest_closed some_true e = e
    rest_closed several e = e

-- one unit more
forced_below : (ss : Settings) (τ : Values) (l : Literal) → Below (value_of ss) τ → literal_value τ l ≡ is true → Below (value_of (forced l ∷ ss)) τ
forced_below ss τ l h e v b p = go (eqb v (forced l).variable) refl
  where
    value : (l : Literal) → literal_value τ l ≡ is true → τ (forced l).variable ≡ is (forced l).value
    value (positive u) e = e
    value (negative u) e = flip (τ u) e
      where
        flip : (x : Value) → opposite x ≡ is true → x ≡ is false
        flip unset q = absurd (not_unset q)
        flip (is true) q = absurd (true≢false (sym (is_inj q)))
        flip (is false) q = refl

    go : (c : Bool) → eqb v (forced l).variable ≡ c → τ v ≡ is b
    go true q =
        let m = eqb-true v (forced l).variable q in
        ap τ m ∙ value l e ∙ sym (value_of_same (forced l) ss v m) ∙ p
    go false q = h v b (sym (value_of_other (forced l) ss v (eqb-false v (forced l).variable q)) ∙ p)

forced_above : (ss : Settings) (l : Literal) → literal_value (value_of ss) l ≡ unset → Below (value_of ss) (value_of (forced l ∷ ss))
forced_above ss l u v b p = value_of_other (forced l) ss v (λ e. clear l u e) ∙ p
  where
    clear : (l : Literal) → literal_value (value_of ss) l ≡ unset → v ≡ (forced l).variable → ⊥
    clear (positive w) u e = not_unset (sym u ∙ ap (value_of ss) (sym e) ∙ p)
    clear (negative w) u e = go (value_of ss w) refl
      where
        go : (x : Value) → value_of ss w ≡ x → ⊥
        go unset q = not_unset (sym q ∙ ap (value_of ss) (sym e) ∙ p)
        go (is c) q =
            let z : is (not c) ≡ unset = ap opposite (sym q) ∙ u in
            not_unset (sym z)

below_trans : (ρ σ τ : Values) → Below ρ σ → Below σ τ → Below ρ τ
below_trans ρ σ τ f g v b e = g v b (f v b e)

settles_above : (cs : List Clause) {ss ss₁ : Settings} → Settles cs ss ss₁ → Below (value_of ss) (value_of ss₁)
settles_above cs done = λ v b e. e
settles_above cs {ss} {ss₁} (more l u s) = below_trans (value_of ss) (value_of (forced l ∷ ss)) (value_of ss₁) (forced_above ss l (unit_unset (value_of ss) cs l u)) (settles_above cs s)

settles_below : (cs : List Clause) (τ : Values) → Quiet τ cs → {ss ss₁ : Settings} → Settles cs ss ss₁ → Below (value_of ss) τ → Below (value_of ss₁) τ
settles_below cs τ k done h = h
settles_below cs τ k {ss} {ss₁} (more l u s) h = settles_below cs τ k s (forced_below ss τ l h (unit_true (value_of ss) τ h cs k l u))

abbrev pub Same : Settings → Settings → Type 0
Same ss ts = (v : ℕ) → value_of ss v ≡ value_of ts v

same_below : (ss ts : Settings) → Same ss ts → Below (value_of ss) (value_of ts)
same_below ss ts h v b e = sym (h v) ∙ e

pub same_sym : (ss ts : Settings) → Same ss ts → Same ts ss
same_sym ss ts h v = sym (h v)

-- if one closure has no conflict, none has
pub calm_all : (cs : List Clause) {ss ss₁ ts ts₁ : Settings} → Same ss ts → Settles cs ss ss₁ → Quiet (value_of ss₁) cs → Settles cs ts ts₁ → conflict (value_of ts₁) cs ≡ true → ⊥
calm_all cs {ss} {ss₁} {ts} {ts₁} h s k r e =
    let b : Below (value_of ts) (value_of ss₁) = below_trans (value_of ts) (value_of ss) (value_of ss₁) (same_below ts ss (same_sym ss ts h)) (settles_above cs s) in
    true≢false (sym (conflict_up (value_of ts₁) (value_of ss₁) (settles_below cs (value_of ss₁) k r b) cs e) ∙ k.calm)

-- and two such closures are the same
pub one_closure : (cs : List Clause) {ss ss₁ ts ts₁ : Settings} → Same ss ts → Settles cs ss ss₁ → Quiet (value_of ss₁) cs → Settles cs ts ts₁ → Quiet (value_of ts₁) cs → Same ss₁ ts₁
one_closure cs {ss} {ss₁} {ts} {ts₁} h s k r m v = go (value_of ss₁ v) refl (value_of ts₁ v) refl
  where
    f : Below (value_of ss₁) (value_of ts₁)
    f = settles_below cs (value_of ts₁) m s (below_trans (value_of ss) (value_of ts) (value_of ts₁) (same_below ss ts h) (settles_above cs r))

    g : Below (value_of ts₁) (value_of ss₁)
    g = settles_below cs (value_of ss₁) k r (below_trans (value_of ts) (value_of ss) (value_of ss₁) (same_below ts ss (same_sym ss ts h)) (settles_above cs s))

    go : (x : Value) → value_of ss₁ v ≡ x → (y : Value) → value_of ts₁ v ≡ y → value_of ss₁ v ≡ value_of ts₁ v
    go (is b) p y q = p ∙ sym (f v b p)
    go unset p unset q = p ∙ sym q
    go unset p (is b) q = absurd (not_unset (sym p ∙ g v b q))
