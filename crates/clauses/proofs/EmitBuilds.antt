-- Laws of builders' gates written into a buffer, one builder after the other. Assumes nothing.
use Rattle.std.proofs.Common.{◌≡◌, ℕ, suc, ◌+◌, ◌<◌, List, [], ◌∷◌, length, ℤ, sym, refl, ap, ◌∙◌, subst, ap₂, arith, length-append}
use Rattle.clauses.specs.Literal.{Literal, positive, negate}
use Rattle.clauses.specs.Words.{clause_words}
use Rattle.clauses.specs.Circuit.{Built, Build, give, ◌>>=◌, and!, xor!, mux!, or! }
use Rattle.clauses.specs.Writing.{put, gate_words, variable_limit, Puts, Emits}
use Rattle.clauses.proofs.EmitWords.{put_append, puts_then, puts_same, gates_append, gates_length}

pub emits_same : {A : Type 0} {n : ℕ} {xs ys : List ℤ} {cur : ℕ} {out : A} {c v : ℕ} (b b' : Built A) → b ≡ b' → Emits n b xs ys cur out c v → Emits n b' xs ys cur out c v
emits_same {n = n} {xs = xs} {ys = ys} {cur = cur} {out = out} {c = c} {v = v} b b' e w = subst (λ x. Emits n x xs ys cur out c v) e w

pub emits_result : {A : Type 0} {n : ℕ} {b : Built A} {xs ys : List ℤ} {cur : ℕ} {out : A} {c v : ℕ} (out' : A) → out ≡ out' → Emits n b xs ys cur out c v → Emits n b xs ys cur out' c v
emits_result {n = n} {b = b} {xs = xs} {ys = ys} {cur = cur} {c = c} {v = v} out' e w = subst (λ x. Emits n b xs ys cur x c v) e w

pub emits_give : {A : Type 0} (n : ℕ) (a : A) (xs : List ℤ) (cur : ℕ) → Emits n (give a n) xs xs cur a cur n
unfolding give gate_words put
emits_give n a xs cur = record { emits = λ h. record { written = refl; cursor = omega arith; result = refl; next = refl; counted = omega arith } }

module _ {A B : Type 0} {n : ℕ} {xs ys : List ℤ} {cur : ℕ} {a : A} {c v : ℕ} where
  pub emits_bind : (m : Build A) (f : A → Build B) {zs : List ℤ} {b : B} {c' v' : ℕ} → Emits n (m n) xs ys cur a c v → Emits v (f a v) ys zs c b c' v' → Emits n ((m >>= f) n) xs zs cur b c' v'
  unfolding ◌>>=◌
  emits_bind m f {zs} {b} {c'} {v'} p q = record {
    emits = λ h.
        let r = m n in
        let s = f r.out r.next in
        let ln = length-append r.gates s.gates in
        let lw = gates_length r.gates s.gates in
        let one = p.emits (record { numbers = omega (arith, h.numbers); words = omega (arith, h.words) }) in
        let e : f a v ≡ s = ap₂ (λ (x : A) (k : ℕ). f x k) one.result one.next in
        let two = (subst (λ (t : Built B). Emits v t ys zs c b c' v') e q).emits (record { numbers = omega (arith, h.numbers, one.counted); words = omega (arith, h.words, one.cursor) }) in
        record {
          written = two.written ∙ ap₂ (λ (k : ℕ) (t : List ℤ). put k (gate_words s.gates) t) one.cursor one.written ∙ sym (put_append cur (gate_words r.gates) (gate_words s.gates) xs) ∙ ap (λ (l : List ℤ). put cur l xs) (sym (gates_append r.gates s.gates));
          cursor = omega (arith, two.cursor, one.cursor);
          result = two.result;
          next = two.next;
          counted = omega (arith, two.counted, one.counted);
        };
  }

  -- then a value made of the result
  pub emits_map : (m : Build A) (f : A → B) → Emits n (m n) xs ys cur a c v → Emits n ((m >>= (λ x. give (f x))) n) xs ys cur (f a) c v
  emits_map m f p = emits_bind m (λ x. give (f x)) p (emits_give v (f a) ys c)

-- a gate, from its clauses as they were put
abbrev clause : List Literal → List ℤ → List ℤ → ℕ → ℕ → Type 0
clause ls xs ys c c' = Puts (clause_words ls) xs ys c c'

gate : (n : ℕ) (b : Built Literal) (ws : List ℤ) (x : Literal) {xs ys : List ℤ} {c c' : ℕ} {g : Literal} {v : ℕ} → length b.gates ≡ 1 → b.out ≡ positive n → b.next ≡ suc n
    → (n < variable_limit → g ≡ positive n) → (n < variable_limit → v ≡ n + 1) → (g ≡ positive n → ws ≡ gate_words b.gates) → Puts ws xs ys c c' → Emits n b xs ys c g c' v
gate n b ws x l o s eg ev ew p = record {
  emits = λ h.
      let k : n < variable_limit = omega (arith, h.numbers) in
      let q = (puts_same (ew (eg k)) p).puts h.words in
      record { written = q.written; cursor = q.cursor; result = eg k ∙ sym o; next = ev k ∙ sym (s ∙ (let z : suc n ≡ n + 1 = omega arith in z)); counted = omega (arith, ev k) };
}

pub and_emits : (n : ℕ) (a na b nb g ng : Literal) {xs x1 x2 x3 : List ℤ} {c0 c1 c2 c3 v : ℕ} → (n < variable_limit → g ≡ positive n) → (n < variable_limit → v ≡ n + 1) → ng ≡ negate g → na ≡ negate a → nb ≡ negate b
    → clause (ng ∷ a ∷ []) xs x1 c0 c1 → clause (ng ∷ b ∷ []) x1 x2 c1 c2 → clause (g ∷ na ∷ nb ∷ []) x2 x3 c2 c3 → Emits n (and! a b n) xs x3 c0 g c3 v
unfolding and! gate_words
and_emits n a na b nb g ng eg ev eng ena enb p1 p2 p3 =
    gate n (and! a b n) _ g refl refl refl eg ev (λ h. cc (h, eng, ena, enb)) (puts_then (puts_then p1 p2) p3)

pub xor_emits : (n : ℕ) (a na b nb g ng : Literal) {xs x1 x2 x3 x4 : List ℤ} {c0 c1 c2 c3 c4 v : ℕ} → (n < variable_limit → g ≡ positive n) → (n < variable_limit → v ≡ n + 1) → ng ≡ negate g → na ≡ negate a → nb ≡ negate b
    → clause (ng ∷ a ∷ b ∷ []) xs x1 c0 c1 → clause (ng ∷ na ∷ nb ∷ []) x1 x2 c1 c2 → clause (g ∷ na ∷ b ∷ []) x2 x3 c2 c3 → clause (g ∷ a ∷ nb ∷ []) x3 x4 c3 c4 → Emits n (xor! a b n) xs x4 c0 g c4 v
unfolding xor! gate_words
xor_emits n a na b nb g ng eg ev eng ena enb p1 p2 p3 p4 =
    gate n (xor! a b n) _ g refl refl refl eg ev (λ h. cc (h, eng, ena, enb)) (puts_then (puts_then (puts_then p1 p2) p3) p4)

pub mux_emits : (n : ℕ) (s ns a na b nb g ng : Literal) {xs x1 x2 x3 x4 : List ℤ} {c0 c1 c2 c3 c4 v : ℕ} → (n < variable_limit → g ≡ positive n) → (n < variable_limit → v ≡ n + 1) → ng ≡ negate g → ns ≡ negate s → na ≡ negate a → nb ≡ negate b
    → clause (ns ∷ na ∷ g ∷ []) xs x1 c0 c1 → clause (ns ∷ a ∷ ng ∷ []) x1 x2 c1 c2 → clause (s ∷ nb ∷ g ∷ []) x2 x3 c2 c3 → clause (s ∷ b ∷ ng ∷ []) x3 x4 c3 c4 → Emits n (mux! s a b n) xs x4 c0 g c4 v
unfolding mux! gate_words
mux_emits n s ns a na b nb g ng eg ev eng ens ena enb p1 p2 p3 p4 =
    gate n (mux! s a b n) _ g refl refl refl eg ev (λ h. cc (h, eng, ens, ena, enb)) (puts_then (puts_then (puts_then p1 p2) p3) p4)

pub or_emits : (n : ℕ) (a na b nb x r : Literal) {xs ys : List ℤ} {c c' v : ℕ} → na ≡ negate a → nb ≡ negate b → r ≡ negate x → Emits n (and! na nb n) xs ys c x c' v → Emits n (or! a b n) xs ys c r c' v
unfolding or!
or_emits n a na b nb x r ea eb er w =
    emits_result r (sym er) (emits_map (and! (negate a) (negate b)) negate (emits_same (and! na nb n) (and! (negate a) (negate b) n) (ap₂ (λ (p q : Literal). and! p q n) ea eb) w))

-- A loop: where what is left is written from here, the whole is written from the start.
pub record Left {A B : Type 0} (n₀ : ℕ) (whole : Built A) (xs₀ : List ℤ) (cur₀ : ℕ) (n : ℕ) (rest : Built B) (xs : List ℤ) (cur : ℕ) (f : B → A) : Type 0 where
  pub then : (ys : List ℤ) (out : B) (c v : ℕ) → Emits n rest xs ys cur out c v → Emits n₀ whole xs₀ ys cur₀ (f out) c v

pub left_start : {A : Type 0} (n : ℕ) (b : Built A) (xs : List ℤ) (cur : ℕ) → Left n b xs cur n b xs cur (λ (x : A). x)
left_start n b xs cur = record { then = λ ys out c v e. e }

module _ {A : Type 0} {n₀ : ℕ} {W : Built A} {xs₀ : List ℤ} {cur₀ : ℕ} where
  pub left_on : {B C : Type 0} {n cur : ℕ} {xs : List ℤ} {f : B → A} (m : Build C) (k : C → Build B) → Left n₀ W xs₀ cur₀ n ((m >>= k) n) xs cur f
      → {ys : List ℤ} {a : C} {c v : ℕ} → Emits n (m n) xs ys cur a c v → Left n₀ W xs₀ cur₀ v (k a v) ys c f
  left_on m k l e = record { then = λ zs out c v q. l.then zs out c v (emits_bind m k e q) }

  pub left_map : {B C : Type 0} {n cur : ℕ} {xs : List ℤ} {f : B → A} (m : Build C) (h : C → B) → Left n₀ W xs₀ cur₀ n ((m >>= (λ x. give (h x))) n) xs cur f → Left n₀ W xs₀ cur₀ n (m n) xs cur (λ x. f (h x))
  left_map m h l = record { then = λ zs out c v q. l.then zs (h out) c v (emits_map m h q) }

  pub left_same : {B : Type 0} {n cur : ℕ} {xs : List ℤ} {f : B → A} (b b' : Built B) → b ≡ b' → Left n₀ W xs₀ cur₀ n b xs cur f → Left n₀ W xs₀ cur₀ n b' xs cur f
  left_same {n = n} {cur = cur} {xs = xs} {f = f} b b' e l = subst (λ x. Left n₀ W xs₀ cur₀ n x xs cur f) e l

  pub left_result : {B : Type 0} {n cur : ℕ} {b : Built B} {xs : List ℤ} (f g : B → A) → ((x : B) → f x ≡ g x) → Left n₀ W xs₀ cur₀ n b xs cur f → Left n₀ W xs₀ cur₀ n b xs cur g
  left_result f g e l = record { then = λ zs out c v q. emits_result (g out) (e out) (l.then zs out c v q) }

  pub left_end : {B : Type 0} {n cur : ℕ} {xs : List ℤ} {f : B → A} (x : B) → Left n₀ W xs₀ cur₀ n (give x n) xs cur f → Emits n₀ W xs₀ xs cur₀ (f x) cur n
  left_end {n = n} {cur = cur} {xs = xs} x l = l.then xs x cur n (emits_give n x xs cur)
