-- The loops that look for the first wrong entry. Assumes nothing.
use Rattle.std.proofs.Common.{◌≡◌, ℕ, suc, ◌+◌, ◌<◌, ◌≤◌, Bool, true, false, cond, not, ltb, leb, List, [], ◌∷◌, map, length, get_or, drop, sym, refl, ap, ◌∙◌, ap₂, add-one, arith, drop-cons, le-ltb, lt-ltb, ltb-true, ltb-false}
use lib.ListN.{length-map}
use lib.Seq.{drop-length}
use Rattle.std.specs.Prelude.{Some, None, position}
use Rattle.std.specs.List.{prefix_len}
use Rattle.std.proofs.lemmas.Option.{cond_some, none-some}
use Rattle.step.specs.Interface.{first_wrong, wrong_at}

-- what the first wrong one is, by how many are right before it
module _ (ts : List Bool) where
  pub wrong_is : (i : ℕ) → i ≡ first_wrong ts → i < length ts → Some i ≡ wrong_at ts
  wrong_is i e l = ap Some e ∙ sym (ap (λ (t : Bool). cond t (Some (first_wrong ts)) None) (lt-ltb (first_wrong ts) (length ts) (omega arith)))

  pub right_is : length ts ≤ first_wrong ts → None ≡ wrong_at ts
  right_is l = sym (ap (λ (t : Bool). cond t (Some (first_wrong ts)) None) (le-ltb (first_wrong ts) (length ts) l))

  pub wrong_here : (i : ℕ) → Some i ≡ wrong_at ts → (i ≡ first_wrong ts) × (i < length ts)
  wrong_here i e =
      let (t, q) = cond_some (ltb (first_wrong ts) (length ts)) (first_wrong ts) i (sym e) in
      let l = ltb-true (first_wrong ts) (length ts) t in
      (sym q, omega arith)

  pub right_here : None ≡ wrong_at ts → length ts ≤ first_wrong ts
  right_here e = go (ltb (first_wrong ts) (length ts)) refl
    where
      go : (t : Bool) → ltb (first_wrong ts) (length ts) ≡ t → length ts ≤ first_wrong ts
      go true q = absurd (none-some (first_wrong ts) (e ∙ ap (λ (b : Bool). cond b (Some (first_wrong ts)) None) q))
      go false q = ltb-false (first_wrong ts) (length ts) q

-- the first i are right
pub record Looking (ts : List Bool) (i : ℕ) : Type 0 where
  pub inside : i ≤ length ts
  pub same : i + first_wrong (drop i ts) ≡ first_wrong ts

pub looking_start : (ts : List Bool) → Looking ts 0
looking_start ts = record { inside = omega arith; same = omega arith }

module _ (ts : List Bool) (i : ℕ) (z : Bool) (g : Looking ts i) (l : i < length ts) where
  pub looking_wrong : get_or ts i z ≡ false → Some i ≡ wrong_at ts
  looking_wrong e =
      let q = ap first_wrong (drop-cons ts i z l) ∙ ap (λ (t : Bool). first_wrong (t ∷ drop (suc i) ts)) e in
      let s = g.same in
      wrong_is ts i (omega arith) l

  pub looking_right : get_or ts i z ≡ true → Looking ts (i + 1)
  looking_right e =
      let q = ap first_wrong (drop-cons ts i z l) ∙ ap (λ (t : Bool). first_wrong (t ∷ drop (suc i) ts)) e in
      let s = g.same in
      let n = ap (λ (k : ℕ). first_wrong (drop k ts)) (add-one i) in
      record { inside = omega arith; same = omega arith }

pub looking_end : (ts : List Bool) (i : ℕ) → length ts ≤ i → Looking ts i → None ≡ wrong_at ts
looking_end ts i l g =
    let k = g.inside in
    let n = ap (λ (j : ℕ). first_wrong (drop j ts)) (let z : i ≡ length ts = omega arith in z) ∙ ap first_wrong (drop-length ts) in
    let s = g.same in
    right_is ts (omega arith)

-- choices below w
module _ (cs : List ℕ) (w : ℕ) where
  abbrev pub belows : List Bool
  belows = map (λ (c : ℕ). ltb c w) cs

  pub belows_length : length belows ≡ length cs
  belows_length = length-map cs (λ (c : ℕ). ltb c w)

-- the first choice that the library finds at or above w
at_most : (w x : ℕ) → not (leb w x) ≡ ltb x w
at_most w x = grind arith

over_len : (cs : List ℕ) (w : ℕ) → prefix_len (λ x. not (leb w x)) cs ≡ first_wrong (belows cs w)
over_len [] w = refl
over_len (c ∷ cs) w = go (over_len cs w) (ltb c w) (at_most w c)
  where
    go : prefix_len (λ x. not (leb w x)) cs ≡ first_wrong (belows cs w) → (t : Bool) → not (leb w c) ≡ t → cond (not (leb w c)) (1 + prefix_len (λ x. not (leb w x)) cs) 0 ≡ first_wrong (t ∷ belows cs w)
    go h true e = ap (λ (b : Bool). cond b (1 + prefix_len (λ x. not (leb w x)) cs) 0) e ∙ (let z : 1 + prefix_len (λ x. not (leb w x)) cs ≡ suc (first_wrong (belows cs w)) = omega (arith, h) in z)
    go h false e = ap (λ (b : Bool). cond b (1 + prefix_len (λ x. not (leb w x)) cs) 0) e

pub first_over_is : (cs : List ℕ) (w : ℕ) → position (λ x. leb w x) cs ≡ wrong_at (belows cs w)
first_over_is cs w = ap₂ (λ (n m : ℕ). cond (ltb n m) (Some n) None) (over_len cs w) (sym (belows_length cs w))
