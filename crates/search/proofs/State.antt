-- Lent memory as settings: one setting more, one less, an undo.
use mathlib.Core.Path.{◌≡◌, refl, sym, ap, ap₂, ◌∙◌, subst, subst₂}
use mathlib.Core.Bool.{Bool, true, false, cond}
use mathlib.Core.List.{List, ◌∷◌}
use Prim.Native.Nat.{ℕ, zero, suc, ◌+◌, ◌*◌, ◌-◌, ◌/◌, ◌%◌, ◌<◌, ◌≤◌}
use native.Mathlib.Omega.{arith}
use native.Mathlib.Numerals.{add-one}
use native.Mathlib.Nat.{le_refl}
use lib.Dec.{eqb}
use lib.ListN.{length, get_or, set, length-set}
use lib.Seq.{get_or-set_same, get_or-set_other, set-set}
use borrow.Author.Tests.{eqb-true, eqb-false, eq-eqb, ne_eqb}
use Rattle.std.specs.Prelude.{Some}
use Rattle.search.specs.Search.{unset, is, Setting, Settings, value_of, takes, undo}
use Rattle.search.specs.Memory.{value_of_byte, value_at, setting_at, settings_of, Proper₁, Proper, unset_count, TrailAgrees, Assigned, Undone}
use Rattle.search.proofs.Counting.{value_of_other, value_of_same, count_set}

unset_other : (s : Setting) (ss : Settings) (v : ℕ) → value_of (s ∷ ss) v ≡ unset → v ≡ s.variable → ⊥
unset_other s ss v e q =
    let p : is s.value ≡ unset = sym (value_of_same s ss v q) ∙ e in
    let z : ◌≡◌ {A = ℕ} 0 1 = cc in omega arith

unset_before : (s : Setting) (ss : Settings) (v : ℕ) → value_of (s ∷ ss) v ≡ unset → value_of ss v ≡ unset
unset_before s ss v e = sym (value_of_other s ss v (unset_other s ss v e)) ∙ e

-- settings keep where a byte of none of them, and trail words past them, are written
settings_keep : (n : ℕ) (vs tr tr' : List ℕ) (v b t : ℕ) → 0 < v → ((i : ℕ) → i < t → get_or tr' i 0 ≡ get_or tr i 0)
    → Proper n (settings_of vs tr t) → value_of (settings_of vs tr t) v ≡ unset → settings_of (set vs (v - 1) b) tr' t ≡ settings_of vs tr t
settings_keep n vs tr tr' v b zero h a p u = refl
settings_keep n vs tr tr' v b (suc t) h a p u =
    let s = setting_at vs (get_or tr t 0) in
    let ss = settings_of vs tr t in
    let ne = unset_other s ss v u in
    let lo : 0 < get_or tr t 0 / 2 = p.0.low in
    let w : get_or tr' t 0 ≡ get_or tr t 0 = a t (omega arith) in
    let k : get_or (set vs (v - 1) b) (get_or tr t 0 / 2 - 1) 0 ≡ get_or vs (get_or tr t 0 / 2 - 1) 0 = get_or-set_other vs (v - 1) (get_or tr t 0 / 2 - 1) b 0 (λ e. ne (omega arith)) in
    let q : setting_at (set vs (v - 1) b) (get_or tr t 0) ≡ s = ap {B = Setting} (λ (x : ℕ). record { variable = get_or tr t 0 / 2; value = eqb x 1; first = eqb (get_or tr t 0 % 2) 1 }) k in
    ap₂ ◌∷◌ (ap (setting_at (set vs (v - 1) b)) w ∙ q)
    (settings_keep n vs tr tr' v b t h (λ i l. a i (omega arith)) p.1 (unset_before s ss v u))

pub byte_bit : (b : ℕ) → b ≤ 1 → value_of_byte b ≡ is (eqb b 1)
byte_bit zero h = refl
byte_bit (suc zero) h = refl
byte_bit (suc (suc b)) h = absurd (omega arith)

pub value_other : (vs : List ℕ) (v w b : ℕ) → 0 < v → 0 < w → (w ≡ v → ⊥) → value_at (set vs (v - 1) b) w ≡ value_at vs w
value_other vs v w b hv hw ne = ap value_of_byte (get_or-set_other vs (v - 1) (w - 1) b 0 (λ e. ne (omega arith)))

pub value_same : (vs : List ℕ) (v b : ℕ) → 0 < v → v ≤ length vs → value_at (set vs (v - 1) b) v ≡ value_of_byte b
value_same vs v b hv hl = ap value_of_byte (get_or-set_same vs (v - 1) b 0 (omega arith))

-- one more setting
pub record Grown (n : ℕ) (vs tr vs' tr' : List ℕ) (t v b f : ℕ) : Type 0 where
  pub is : settings_of vs' tr' (suc t) ≡ record { variable = v; value = eqb b 1; first = eqb f 1 } ∷ settings_of vs tr t
  pub shaped : TrailAgrees n vs' tr' (suc t)

grow : (n : ℕ) (vs tr : List ℕ) (t v b f : ℕ) → TrailAgrees n vs tr t → 0 < v → v ≤ n → value_of (settings_of vs tr t) v ≡ unset → b ≤ 1 → f ≤ 1
    → Grown n vs tr (set vs (v - 1) b) (set tr t (2 * v + f)) t v b f
grow n vs tr t v b f h lo hi u hb hf =
    record {
      is = eq;
      shaped = record {
        values = length-set vs (v - 1) b ∙ h.values;
        trail = length-set tr t x ∙ h.trail;
        proper = subst (Proper n) (sym eq) (record { low = lo; high = hi; unset! = u }, h.proper);
        looks = λ w a c. looks w a c (eqb w v) refl;
        count = (let e = ap (λ (z : Settings). unset_count z 1 n) eq in let k = h.count in let l = count_set s ss 1 n u lo (omega arith) in omega arith);
      };
    }
  where
    x : ℕ
    x = 2 * v + f

    ss : Settings
    ss = settings_of vs tr t

    s : Setting
    s = record { variable = v; value = eqb b 1; first = eqb f 1 }

    vs' : List ℕ
    vs' = set vs (v - 1) b

    room : t < length tr
    room = let k = h.count in let l = count_set s ss 1 n u lo (omega arith) in let r = h.trail in omega arith

    word : get_or (set tr t x) t 0 ≡ x
    word = get_or-set_same tr t x 0 room

    half : x / 2 ≡ v
    half = omega arith

    odd : x % 2 ≡ f
    odd = omega arith

    byte : get_or vs' (v - 1) 0 ≡ b
    byte = get_or-set_same vs (v - 1) b 0 (let r = h.values in omega arith)

    top : setting_at vs' (get_or (set tr t x) t 0) ≡ s
    top =
        ap (setting_at vs') word
        ∙ ap₂ {C = Setting} (λ (m r : ℕ). record { variable = m; value = eqb (get_or vs' (m - 1) 0) 1; first = eqb r 1 }) half odd
        ∙ ap {B = Setting} (λ (y : ℕ). record { variable = v; value = eqb y 1; first = eqb f 1 }) byte

    eq : settings_of vs' (set tr t x) (suc t) ≡ s ∷ ss
    eq = ap₂ ◌∷◌ top (settings_keep n vs tr (set tr t x) v b t lo (λ i l. get_or-set_other tr t i x 0 (λ e. omega arith)) h.proper u)

    looks : (w : ℕ) → 0 < w → w ≤ n → (c : Bool) → eqb w v ≡ c → value_of (settings_of vs' (set tr t x) (suc t)) w ≡ value_at vs' w
    looks w a c true e =
        let q = eqb-true w v e in
        ap (λ (z : Settings). value_of z w) eq ∙ value_of_same s ss w q ∙ sym (byte_bit b hb)
        ∙ sym (value_same vs v b lo (let r = h.values in omega arith)) ∙ ap (value_at vs') (sym q)
    looks w a c false e =
        let q = eqb-false w v e in
        ap (λ (z : Settings). value_of z w) eq ∙ value_of_other s ss w q ∙ h.looks w a c ∙ sym (value_other vs v w b lo a q)

pub grown : {n : ℕ} {vs tr vs' tr' : List ℕ} {t v b f : ℕ} → Assigned vs tr t v b f vs' tr' → TrailAgrees n vs tr t → 0 < v → v ≤ n → value_of (settings_of vs tr t) v ≡ unset → b ≤ 1 → f ≤ 1
    → Grown n vs tr vs' tr' t v b f
grown {n} {vs} {tr} {vs'} {tr'} {t} {v} {b} {f} a h lo hi u hb hf =
    subst₂ (λ (x y : List ℕ). Grown n vs tr x y t v b f) (sym a.values) (sym a.trail) (grow n vs tr t v b f h lo hi u hb hf)

-- one setting less
pub record Shrunk (n : ℕ) (vs tr vs' : List ℕ) (t : ℕ) : Type 0 where
  pub is : settings_of vs' tr t ≡ settings_of vs tr t
  pub shaped : TrailAgrees n vs' tr t

pub shrink : (n : ℕ) (vs tr : List ℕ) (t : ℕ) → TrailAgrees n vs tr (suc t) → Shrunk n vs tr (set vs (get_or tr t 0 / 2 - 1) 2) t
shrink n vs tr t h =
    record {
      is = eq;
      shaped = record {
        values = length-set vs (v - 1) 2 ∙ h.values;
        trail = h.trail;
        proper = subst (Proper n) (sym eq) h.proper.1;
        looks = λ w a c. looks w a c (eqb w v) refl;
        count = (let e = ap (λ (z : Settings). unset_count z 1 n) eq in let k = h.count in let l = count_set s ss 1 n p.unset! p.low (omega (arith, p.high)) in omega arith);
      };
    }
  where
    v : ℕ
    v = get_or tr t 0 / 2

    ss : Settings
    ss = settings_of vs tr t

    s : Setting
    s = setting_at vs (get_or tr t 0)

    p : Proper₁ n s ss
    p = h.proper.0

    vs' : List ℕ
    vs' = set vs (v - 1) 2

    eq : settings_of vs' tr t ≡ ss
    eq = settings_keep n vs tr tr v 2 t p.low (λ i l. refl) h.proper.1 p.unset!

    looks : (w : ℕ) → 0 < w → w ≤ n → (c : Bool) → eqb w v ≡ c → value_of (settings_of vs' tr t) w ≡ value_at vs' w
    looks w a c true e =
        let q = eqb-true w v e in
        ap (λ (z : Settings). value_of z w) eq ∙ ap (value_of ss) q ∙ p.unset! ∙ sym (value_same vs v 2 p.low (let r = h.values in let z = p.high in omega arith)) ∙ ap (value_at vs') (sym q)
    looks w a c false e =
        let q = eqb-false w v e in
        ap (λ (z : Settings). value_of z w) eq ∙ sym (value_of_other s ss w q) ∙ h.looks w a c ∙ sym (value_other vs v w 2 p.low a q)

pub record Undoing (n : ℕ) (ss : Settings) (vs tr : List ℕ) (k : ℕ) : Type 0 where
  pub shaped : TrailAgrees n vs tr k
  pub same : undo ss ≡ undo (settings_of vs tr k)

pub undo_pop : (n : ℕ) (ss : Settings) (vs tr : List ℕ) (k : ℕ) → Undoing n ss vs tr (suc k) → (get_or tr k 0 % 2 ≡ 1 → ⊥) → Undoing n ss (set vs (get_or tr k 0 / 2 - 1) 2) tr k
undo_pop n ss vs tr k u h =
    let g = shrink n vs tr k u.shaped in
    record {
      shaped = g.shaped;
      same =
          u.same
          ∙ ap (λ (b : Bool). cond b (takes (record { variable = get_or tr k 0 / 2; value = true; first = false } ∷ settings_of vs tr k)) (undo (settings_of vs tr k))) (ne_eqb (get_or tr k 0 % 2) 1 h)
          ∙ ap undo (sym g.is);
    }

pub undo_flip : (n : ℕ) (ss : Settings) (vs tr : List ℕ) (k : ℕ) → Undoing n ss vs tr (suc k) → get_or tr k 0 % 2 ≡ 1
    → Undone n ss (Some (suc k)) (set vs (get_or tr k 0 / 2 - 1) 1) (set tr k (get_or tr k 0 - 1))
undo_flip n ss vs tr k u h =
    let v = get_or tr k 0 / 2 in
    let g = shrink n vs tr k u.shaped in
    let p = u.shaped.proper.0 in
    let w : 2 * v + 0 ≡ get_or tr k 0 - 1 = omega arith in
    let r = grow n (set vs (v - 1) 2) tr k v 1 0 g.shaped p.low p.high (ap (λ (z : Settings). value_of z v) g.is ∙ p.unset!) (le_refl 1) (omega arith) in
    let r₂ : Grown n (set vs (v - 1) 2) tr (set vs (v - 1) 1) (set tr k (get_or tr k 0 - 1)) k v 1 0 = subst₂ (λ (a b : List ℕ). Grown n (set vs (v - 1) 2) tr a b k v 1 0) (set-set vs (v - 1) 2 1) (ap (set tr k) w) r in (
      u.same
          ∙ ap (λ (b : Bool). cond b (takes (record { variable = v; value = true; first = false } ∷ settings_of vs tr k)) (undo (settings_of vs tr k))) (eq-eqb (get_or tr k 0 % 2) 1 h)
          ∙ ap (λ (z : Settings). takes (record { variable = v; value = true; first = false } ∷ z)) (sym g.is)
          ∙ ap takes (sym r₂.is),
      r₂.shaped,
    )

less_one : (k : ℕ) → suc k - 1 ≡ k
less_one k = omega arith

-- the same with k above 0
pub undo_pop' : (n : ℕ) (ss : Settings) (vs tr : List ℕ) (k : ℕ) → 0 < k → Undoing n ss vs tr k → (get_or tr (k - 1) 0 % 2 ≡ 1 → ⊥) → Undoing n ss (set vs (get_or tr (k - 1) 0 / 2 - 1) 2) tr (k - 1)
undo_pop' n ss vs tr zero l u = absurd (omega arith)
undo_pop' n ss vs tr (suc k) l u = rw (less_one k) (undo_pop n ss vs tr k u)

pub undo_flip' : (n : ℕ) (ss : Settings) (vs tr : List ℕ) (k : ℕ) → 0 < k → Undoing n ss vs tr k → get_or tr (k - 1) 0 % 2 ≡ 1
    → Undone n ss (Some (k - 1 + 1)) (set vs (get_or tr (k - 1) 0 / 2 - 1) 1) (set tr (k - 1) (get_or tr (k - 1) 0 - 1))
undo_flip' n ss vs tr zero l u = absurd (omega arith)
undo_flip' n ss vs tr (suc k) l u =
    subst (λ (j : ℕ). get_or tr j 0 % 2 ≡ 1 → Undone n ss (Some (j + 1)) (set vs (get_or tr j 0 / 2 - 1) 1) (set tr j (get_or tr j 0 - 1)))
    (sym (less_one k)) (rw (add-one k) (undo_flip n ss vs tr k u))

pub record Named (n : ℕ) (vs tr : List ℕ) (k : ℕ) : Type 0 where
  pub low : 0 < get_or tr (k - 1) 0 / 2
  pub high : get_or tr (k - 1) 0 / 2 ≤ n
  pub short : k ≤ n

pub named : (n : ℕ) (vs tr : List ℕ) (k : ℕ) → 0 < k → TrailAgrees n vs tr k → Named n vs tr k
named n vs tr zero l h = absurd (omega arith)
named n vs tr (suc k) l h =
    record {
      low = subst (λ (j : ℕ). 0 < get_or tr j 0 / 2) (sym (less_one k)) h.proper.0.low;
      high = subst (λ (j : ℕ). get_or tr j 0 / 2 ≤ n) (sym (less_one k)) h.proper.0.high;
      short = let c = h.count in omega arith;
    }
