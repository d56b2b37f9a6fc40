-- Loops over words of sixteen literals. Assumes nothing.
use Rattle.std.proofs.Common.{◌≡◌, ℕ, zero, suc, ◌+◌, ◌-◌, ◌/◌, ◌%◌, ◌<◌, ◌≤◌, false, List, [], ◌∷◌, ◌++◌, map, length, get_or, take, drop, set, replicate, ℤ, sym, refl, ap, ◌∙◌, ap₂, add-one, arith, length-set}
use native.Mathlib.Numerals.{unary_clauses}
use Rattle.design.specs.Tree.{truth}
use Rattle.clauses.specs.Literal.{Literal, negate, true_literal, false_literal}
use Rattle.clauses.specs.Circuit.{Build, give, ◌>>=◌, and!, xor!, or!, Bits, Summed, earlier_of, sum!, difference!, shift, addend, product!, negate_top, less!, xors!, chain!, equal! }
use Rattle.clauses.specs.Writing.{from_code, from_codes, Emits}
use Rattle.clauses.specs.Builders.{SumBit, sum_bit! }
use Rattle.clauses.proofs.EmitWords.{append-nil, code_no}
use Rattle.clauses.proofs.EmitLists.{drop_one, drop_all, take_all, codes_more}
use Rattle.clauses.proofs.EmitBuilds.{emits_same, emits_result, emits_give, emits_bind, emits_map, Left, left_start, left_on, left_map, left_same, left_result, left_end}

pub bit_emits : (n : ℕ) (a b c p s u t k : Literal) {xs x1 x2 x3 x4 x5 : List ℤ} {c0 c1 c2 c3 c4 c5 v1 v2 v3 v4 v5 : ℕ}
    → Emits n (xor! a b n) xs x1 c0 p c1 v1 → Emits v1 (xor! p c v1) x1 x2 c1 s c2 v2 → Emits v2 (and! a b v2) x2 x3 c2 u c3 v3 → Emits v3 (and! p c v3) x3 x4 c3 t c4 v4 → Emits v4 (or! u t v4) x4 x5 c4 k c5 v5
    → Emits n (sum_bit! a b c n) xs x5 c0 (record { bit = s; carry = k }) c5 v5
unfolding sum_bit!
bit_emits n a b c p s u t k w1 w2 w3 w4 w5 =
    emits_bind (xor! a b) _ w1 (emits_bind (xor! p c) _ w2 (emits_bind (and! a b) _ w3 (emits_bind (and! p c) _ w4 (emits_map (or! u t) (λ (z : Literal). record { bit = s; carry = z }) w5))))

-- the sum
abbrev cons : Literal → Literal → Summed → Summed
cons c s r = record { bits = s ∷ r.bits; carry = r.carry; earlier = earlier_of c r.bits r.earlier }

-- The carry into the last bit, where i bits are done: e, which went into the last of them, if none is left.
abbrev held : ℕ → Literal → Summed → Literal
held zero e r = r.earlier
held (suc i) e r = earlier_of e r.bits r.earlier

held_on : (i : ℕ) (e c s : Literal) (r : Summed) → held i e (cons c s r) ≡ held (i + 1) c r
held_on zero e c s r = refl
held_on (suc i) e c s r = ap (λ (k : ℕ). held k c r) (sym (add-one (suc i)))

held_end : (i : ℕ) (e c : Literal) → 1 ≤ i → held i e (record { bits = []; carry = c; earlier = c }) ≡ e
held_end zero e c h = absurd (omega arith)
held_end (suc i) e c h = refl

abbrev sofar : List ℕ → ℕ → Literal → Summed → Summed
sofar out i e r = record { bits = from_codes (take i out) ++ r.bits; carry = r.carry; earlier = held i e r }

sum_step : (a b : List ℕ) (c : Literal) (i n : ℕ) → i < length a → i < length b
    → sum! (from_codes (drop i a)) (from_codes (drop i b)) c n ≡ (sum_bit! (from_code (get_or a i 0)) (from_code (get_or b i 0)) c >>= (λ (p : SumBit). sum! (from_codes (drop (i + 1) a)) (from_codes (drop (i + 1) b)) p.carry >>= (λ (r : Summed). give (cons c p.bit r)))) n
unfolding sum! sum_bit! give ◌>>=◌ and! xor! or!
sum_step a b c i n h k = ap₂ (λ (x y : List ℕ). sum! (from_codes x) (from_codes y) c n) (drop_one a i h) (drop_one b i k)

-- c is the carry, e the one before it
pub record Summing (a b : List ℕ) (c₀ : Literal) (n₀ : ℕ) (xs₀ : List ℤ) (cur₀ : ℕ) (xs : List ℤ) (out : List ℕ) (c e : Literal) (cur n i : ℕ) : Type 0 where
  pub within : i ≤ 16
  pub size : length out ≡ 16
  pub left : Left n₀ (sum! (from_codes a) (from_codes b) c₀ n₀) xs₀ cur₀ n (sum! (from_codes (drop i a)) (from_codes (drop i b)) c n) xs cur (sofar out i e)

module _ (a b : List ℕ) (la : length a ≡ 16) (lb : length b ≡ 16) (c₀ : Literal) (n₀ : ℕ) (xs₀ : List ℤ) (cur₀ : ℕ) where
  pub summing_start : (out : List ℕ) → length out ≡ 16 → Summing a b c₀ n₀ xs₀ cur₀ xs₀ out c₀ c₀ cur₀ n₀ 0
  summing_start out h = record { within = omega arith; size = h; left = left_start n₀ (sum! (from_codes a) (from_codes b) c₀ n₀) xs₀ cur₀ }

  pub summing_on : {xs : List ℤ} (out : List ℕ) (c e : Literal) {cur n i : ℕ} → i < 16 → Summing a b c₀ n₀ xs₀ cur₀ xs out c e cur n i
      → {ys : List ℤ} (s k : ℕ) {cur' n' : ℕ} → Emits n (sum_bit! (from_code (get_or a i 0)) (from_code (get_or b i 0)) c n) xs ys cur (record { bit = from_code s; carry = from_code k }) cur' n' → Summing a b c₀ n₀ xs₀ cur₀ ys (set out i s) (from_code k) c cur' n' (i + 1)
  summing_on out c e {n = n} {i = i} h l s k w =
      let one = left_same _ _ (sum_step a b c i n (omega arith) (omega arith)) l.left in
      let two = left_on (sum_bit! (from_code (get_or a i 0)) (from_code (get_or b i 0)) c) _ one w in
      let three = left_map (sum! (from_codes (drop (i + 1) a)) (from_codes (drop (i + 1) b)) (from_code k)) (cons c (from_code s)) two in
      record {
        within = omega arith;
        size = length-set out i s ∙ l.size;
        left = left_result _ _ (λ (x : Summed). ap₂ (λ (bs : Bits) (q : Literal). record { bits = bs; carry = x.carry; earlier = q }) (codes_more out i s (from_code s) x.bits (omega (arith, l.size)) refl) (held_on i e c (from_code s) x)) three;
      }

  pub summing_end : {xs : List ℤ} (out : List ℕ) (c e : Literal) {cur n i : ℕ} → 16 ≤ i → Summing a b c₀ n₀ xs₀ cur₀ xs out c e cur n i → Emits n₀ (sum! (from_codes a) (from_codes b) c₀ n₀) xs₀ xs cur₀ (record { bits = from_codes out; carry = c; earlier = e }) cur n
  unfolding sum!
  summing_end out c e {n = n} {i = i} h l =
      let none : Summed = record { bits = []; carry = c; earlier = c } in
      let q : sum! (from_codes (drop i a)) (from_codes (drop i b)) c n ≡ give none n = ap (λ (x : List ℕ). sum! (from_codes x) (from_codes (drop i b)) c n) (drop_all a i (omega arith)) in
      emits_result _ (ap₂ (λ (bs : Bits) (x : Literal). record { bits = bs; carry = c; earlier = x }) (append-nil (from_codes (take i out)) ∙ ap from_codes (take_all out i (omega (arith, l.size)))) (held_end i e c (omega arith))) (left_end none (left_same _ _ q l.left))

-- A row of gates, one for each pair of bits: R is the row, G its gate.
pub record Row (G : Literal → Literal → Build Literal) (R : Bits → Bits → Build Bits) : Type 0 where
  pub nil : (ys : Bits) (n : ℕ) → R [] ys n ≡ give [] n
  pub step : (a b : Literal) (xs bs : Bits) (n : ℕ) → R (a ∷ xs) (b ∷ bs) n ≡ (G a b >>= (λ (x : Literal). R xs bs >>= (λ (rs : Bits). give (x ∷ rs)))) n

pub record Rowing (R : Bits → Bits → Build Bits) (k : ℕ) (a b : List ℕ) (n₀ : ℕ) (xs₀ : List ℤ) (cur₀ : ℕ) (xs : List ℤ) (out : List ℕ) (cur n i : ℕ) : Type 0 where
  pub within : i ≤ k
  pub left : Left n₀ (R (from_codes a) (from_codes b) n₀) xs₀ cur₀ n (R (from_codes (drop i a)) (from_codes (drop i b)) n) xs cur (λ (r : Bits). from_codes (take i out) ++ r)

module _ (G : Literal → Literal → Build Literal) (R : Bits → Bits → Build Bits) (law : Row G R) (k : ℕ) (a b : List ℕ) (la : length a ≡ k) (lb : length b ≡ k) (n₀ : ℕ) (xs₀ : List ℤ) (cur₀ : ℕ) where
  pub rowing_start : (out : List ℕ) → Rowing R k a b n₀ xs₀ cur₀ xs₀ out cur₀ n₀ 0
  rowing_start out =
      record { within = omega arith; left = left_result _ _ (λ (r : Bits). ap (λ (l : List ℕ). from_codes l ++ r) (sym (none out))) (left_same _ _ (ap₂ (λ (x y : List ℕ). R (from_codes x) (from_codes y) n₀) (sym (whole a)) (sym (whole b))) (left_start n₀ (R (from_codes a) (from_codes b) n₀) xs₀ cur₀)) }
    where
      none : (l : List ℕ) → take 0 l ≡ []
      none [] = refl
      none (x ∷ l) = refl

      whole : (l : List ℕ) → drop 0 l ≡ l
      whole [] = refl
      whole (x ∷ l) = refl

  pub rowing_on : {xs : List ℤ} (out : List ℕ) {cur n i : ℕ} → i < k → i < length out → Rowing R k a b n₀ xs₀ cur₀ xs out cur n i
      → {ys : List ℤ} (x y : Literal) (s : ℕ) {cur' n' : ℕ} → x ≡ from_code (get_or a i 0) → y ≡ from_code (get_or b i 0) → Emits n (G x y n) xs ys cur (from_code s) cur' n' → Rowing R k a b n₀ xs₀ cur₀ ys (set out i s) cur' n' (i + 1)
  rowing_on out {n = n} {i = i} h o l x y s ex ey w =
      let e : R (from_codes (drop i a)) (from_codes (drop i b)) n ≡ (G x y >>= (λ (x : Literal). R (from_codes (drop (i + 1) a)) (from_codes (drop (i + 1) b)) >>= (λ (rs : Bits). give (x ∷ rs)))) n =
      ap₂ (λ (p q : List ℕ). R (from_codes p) (from_codes q) n) (drop_one a i (omega arith)) (drop_one b i (omega arith)) ∙ law.step _ _ _ _ n
      ∙ ap₂ (λ (p q : Literal). (G p q >>= (λ (x : Literal). R (from_codes (drop (i + 1) a)) (from_codes (drop (i + 1) b)) >>= (λ (rs : Bits). give (x ∷ rs)))) n) (sym ex) (sym ey) in
      let two = left_on (G x y) _ (left_same _ _ e l.left) w in
      let three = left_map (R (from_codes (drop (i + 1) a)) (from_codes (drop (i + 1) b))) (λ (rs : Bits). from_code s ∷ rs) two in
      record { within = omega arith; left = left_result _ _ (λ (r : Bits). codes_more out i s (from_code s) r o refl) three }

  pub rowing_end : {xs : List ℤ} (out : List ℕ) {cur n i : ℕ} → k ≤ i → Rowing R k a b n₀ xs₀ cur₀ xs out cur n i → Emits n₀ (R (from_codes a) (from_codes b) n₀) xs₀ xs cur₀ (from_codes (take k out)) cur n
  rowing_end out {n = n} {i = i} h l =
      let z : i ≡ k = omega (arith, l.within) in
      let e : R (from_codes (drop i a)) (from_codes (drop i b)) n ≡ give [] n = ap (λ (x : List ℕ). R (from_codes x) (from_codes (drop i b)) n) (drop_all a i (omega arith)) ∙ law.nil _ n in
      emits_result _ (append-nil (from_codes (take i out)) ∙ ap (λ (j : ℕ). from_codes (take j out)) z) (left_end [] (left_same _ _ e l.left))

  pub rowing_all : {xs : List ℤ} (out : List ℕ) {cur n i : ℕ} → length out ≡ k → k ≤ i → Rowing R k a b n₀ xs₀ cur₀ xs out cur n i → Emits n₀ (R (from_codes a) (from_codes b) n₀) xs₀ xs cur₀ (from_codes out) cur n
  rowing_all out e h l = emits_result _ (ap from_codes (take_all out k (omega arith))) (rowing_end out h l)

pub xors_row : Row xor! xors!
unfolding xors!
xors_row = record { nil = λ ys n. refl; step = λ a b xs bs n. refl }

-- an and-chain over negations
pub record Chaining (x : List ℕ) (c₀ : Literal) (n₀ : ℕ) (xs₀ : List ℤ) (cur₀ : ℕ) (xs : List ℤ) (c : Literal) (cur n i : ℕ) : Type 0 where
  pub within : i ≤ 16
  pub left : Left n₀ (chain! c₀ (map negate (from_codes x)) n₀) xs₀ cur₀ n (chain! c (map negate (from_codes (drop i x))) n) xs cur (λ (l : Literal). l)

module _ (x : List ℕ) (lx : length x ≡ 16) (c₀ : Literal) (n₀ : ℕ) (xs₀ : List ℤ) (cur₀ : ℕ) where
  pub chaining_start : Chaining x c₀ n₀ xs₀ cur₀ xs₀ c₀ cur₀ n₀ 0
  chaining_start = record { within = omega arith; left = left_start n₀ (chain! c₀ (map negate (from_codes x)) n₀) xs₀ cur₀ }

  chain_step : (c : Literal) (i n : ℕ) → i < 16 → chain! c (map negate (from_codes (drop i x))) n ≡ (and! c (negate (from_code (get_or x i 0))) >>= (λ (y : Literal). chain! y (map negate (from_codes (drop (i + 1) x))))) n
  unfolding chain!
  chain_step c i n h = ap (λ (l : List ℕ). chain! c (map negate (from_codes l)) n) (drop_one x i (omega arith))

  pub chaining_on : {xs : List ℤ} (c : Literal) {cur n i : ℕ} → i < 16 → Chaining x c₀ n₀ xs₀ cur₀ xs c cur n i
      → {ys : List ℤ} (y s : Literal) {cur' n' : ℕ} → y ≡ negate (from_code (get_or x i 0)) → Emits n (and! c y n) xs ys cur s cur' n' → Chaining x c₀ n₀ xs₀ cur₀ ys s cur' n' (i + 1)
  chaining_on c {n = n} {i = i} h l y s ey w =
      record {
        within = omega arith;
        left = left_on (and! c (negate (from_code (get_or x i 0)))) (λ (y : Literal). chain! y (map negate (from_codes (drop (i + 1) x)))) (left_same _ _ (chain_step c i n h) l.left) (emits_same _ _ (ap (λ (b : Literal). and! c b n) ey) w);
      }

  pub chaining_end : {xs : List ℤ} (c : Literal) {cur n i : ℕ} → 16 ≤ i → Chaining x c₀ n₀ xs₀ cur₀ xs c cur n i → Emits n₀ (chain! c₀ (map negate (from_codes x)) n₀) xs₀ xs cur₀ c cur n
  unfolding chain!
  chaining_end c {n = n} {i = i} h l =
      let e : chain! c (map negate (from_codes (drop i x))) n ≡ give c n = ap (λ (l : List ℕ). chain! c (map negate (from_codes l)) n) (drop_all x i (omega arith)) in
      left_end c (left_same _ _ e l.left)

-- words negated
each_negated : (b out : List ℕ) → length b ≡ length out → ((k : ℕ) → k < length b → from_code (get_or out k 0) ≡ negate (from_code (get_or b k 0))) → from_codes out ≡ map negate (from_codes b)
each_negated [] [] lo h = refl
each_negated [] (y ∷ out) lo h = absurd (omega arith)
each_negated (x ∷ b) [] lo h = absurd (omega arith)
each_negated (x ∷ b) (y ∷ out) lo h = ap₂ (λ (z : Literal) (r : Bits). z ∷ r) (h 0 (omega arith)) (each_negated b out (omega arith) (λ k l. h (suc k) (omega arith)))

pub negates_all : (b out : List ℕ) → length b ≡ 16 → length out ≡ 16 → ((k : ℕ) → k < 16 → from_code (get_or out k 0) ≡ negate (from_code (get_or b k 0))) → from_codes out ≡ map negate (from_codes b)
negates_all b out lb lo h = each_negated b out (omega arith) (λ k l. h k (omega arith))

pub negate_top_lem : (b : List ℕ) (k s : ℕ) → length b ≡ suc k → from_code s ≡ negate (from_code (get_or b k 0)) → from_codes (set b k s) ≡ negate_top (from_codes b)
negate_top_lem [] k s h e = absurd (omega arith)
negate_top_lem (x ∷ []) zero s h e = ap (λ (l : Literal). l ∷ []) e
negate_top_lem (x ∷ []) (suc k) s h e = absurd (omega arith)
negate_top_lem (x ∷ y ∷ b) zero s h e = absurd (omega arith)
negate_top_lem (x ∷ y ∷ b) (suc k) s h e = ap (λ (r : Bits). from_code x ∷ r) (negate_top_lem (y ∷ b) k s (omega arith) e) ∙ refl

-- a word shifted by a place: false comes in below all literals but the last
shifts_lem : (y : ℕ) (x : List ℕ) (n : ℕ) → length x ≡ n → shift (from_code y) (from_codes x) ≡ from_codes (take n (y ∷ x))
shifts_lem y [] zero h = refl
shifts_lem y [] (suc n) h = absurd (omega arith)
shifts_lem y (z ∷ x) zero h = absurd (omega arith)
shifts_lem y (z ∷ x) (suc n) h = ap (λ (r : Bits). from_code y ∷ r) (shifts_lem z x n (omega arith))

pub shifts : (x rest : List ℕ) → length x ≡ 16 → rest ≡ take 15 x → from_codes (3 ∷ (rest ++ [])) ≡ shift false_literal (from_codes x)
shifts x rest h e =
    ap (λ (l : List ℕ). from_codes (3 ∷ l)) (append-nil rest ∙ e) ∙ sym (shifts_lem 3 x 16 h) ∙ ap (λ (y : Literal). shift y (from_codes x)) code_no

-- what a product adds, by a bit of the constant
all_false_lem : (x : List ℕ) (n : ℕ) → length x ≡ n → from_codes (replicate n 3) ≡ addend false (from_codes x)
all_false_lem [] zero h = refl
all_false_lem [] (suc n) h = absurd (omega arith)
all_false_lem (y ∷ x) zero h = absurd (omega arith)
all_false_lem (y ∷ x) (suc n) h = ap₂ (λ (a : Literal) (r : Bits). a ∷ r) code_no (all_false_lem x n (omega arith))

pub addend_no : (b : ℕ) (x : List ℕ) (n : ℕ) → length x ≡ n → b ≡ 0 → from_codes (replicate n 3) ≡ addend (truth b) (from_codes x)
addend_no b x n h e = all_false_lem x n h ∙ ap (λ (k : ℕ). addend (truth k) (from_codes x)) (sym e)

pub addend_yes : (b : ℕ) (xs : Bits) → (b ≡ 0 → ⊥) → xs ≡ addend (truth b) xs
addend_yes zero xs h = absurd (h refl)
addend_yes (suc b) xs h = refl

-- the circuits that use the sum
pub difference_emits : (n : ℕ) (a b b' : Bits) (c : Literal) {xs ys : List ℤ} {cur : ℕ} {r : Summed} {cur' v : ℕ} → b' ≡ map negate b → c ≡ true_literal → Emits n (sum! a b' c n) xs ys cur r cur' v → Emits n (difference! a b n) xs ys cur r cur' v
unfolding difference!
difference_emits n a b b' c eb e w = emits_same _ _ (ap₂ (λ (p : Bits) (q : Literal). sum! a p q n) eb e) w

pub less_emits : (n : ℕ) (a a' b b' : Bits) (l : Literal) {xs ys : List ℤ} {cur : ℕ} (r : Summed) {cur' v : ℕ} → a' ≡ negate_top a → b' ≡ negate_top b → l ≡ negate r.carry → Emits n (difference! a' b' n) xs ys cur r cur' v → Emits n (less! a b n) xs ys cur l cur' v
unfolding less!
less_emits n a a' b b' l r ea eb el w =
    emits_result l (sym el) (emits_map (difference! (negate_top a) (negate_top b)) (λ (x : Summed). negate x.carry) (emits_same _ _ (ap₂ (λ (p q : Bits). difference! p q n) ea eb) w))

pub equal_emits : (n : ℕ) (a b x : Bits) (c l : Literal) {xs ys zs : List ℤ} {cur cur' v cur'' v'' : ℕ} → c ≡ true_literal → Emits n (xors! a b n) xs ys cur x cur' v → Emits v (chain! c (map negate x) v) ys zs cur' l cur'' v'' → Emits n (equal! a b n) xs zs cur l cur'' v''
unfolding equal!
equal_emits n a b x c l {v =
    v} e w u = emits_bind (xors! a b) (λ (x : Bits). chain! true_literal (map negate x)) w (emits_same _ _ (ap (λ (y : Literal). chain! y (map negate x) v)
    e) u)

-- a product: no sum is left, or the first one and then the rest
pub product_done : (n left c : ℕ) (x y : Bits) {xs : List ℤ} {cur : ℕ} → left ≡ 0 → Emits n (product! left c x y n) xs xs cur y cur n
unfolding product!
product_done n left c x y {xs} {cur} e = emits_same _ _ (ap (λ (k : ℕ). product! k c x y n) (sym e)) (emits_give n y xs cur)

product_step : (left c : ℕ) (x y : Bits) → (left ≡ 0 → ⊥) → product! left c x y ≡ (sum! y (addend (truth (c % 2)) x) false_literal >>= (λ (r : Summed). product! (left - 1) (c / 2) (shift false_literal x) r.bits))
unfolding product!
product_step zero c x y h = absurd (h refl)
product_step (suc left) c x y h = simp unary_clauses

pub product_on : (n left c : ℕ) (x y a x' : Bits) (z : Literal) {xs ys zs : List ℤ} {cur cur' v cur'' v'' : ℕ} (r : Summed) {out : Bits} → (left ≡ 0 → ⊥) → a ≡ addend (truth (c % 2)) x → z ≡ false_literal → x' ≡ shift false_literal x
    → Emits n (sum! y a z n) xs ys cur r cur' v → Emits v (product! (left - 1) (c / 2) x' r.bits v) ys zs cur' out cur'' v'' → Emits n (product! left c x y n) xs zs cur out cur'' v''
product_on n left c x y a x' z {v = v} r h ea ez ex w u =
    emits_same _ _ (ap (λ (b : Build Bits). b n) (sym (product_step left c x y h)))
    (emits_bind (sum! y (addend (truth (c % 2)) x) false_literal) _ (emits_same _ _ (ap₂ (λ (p : Bits) (q : Literal). sum! y p q n) ea ez) w) (emits_same _ _ (ap (λ (q : Bits). product! (left - 1) (c / 2) q r.bits v) ex) u))
