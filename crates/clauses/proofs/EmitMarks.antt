-- The mark behind an operator: its gates, and the operands whose product stays inside. Assumes nothing.
use Rattle.std.proofs.Common.{◌≡◌, ℕ, zero, suc, ◌+◌, ◌-◌, ◌/◌, ◌%◌, ◌<◌, ◌≤◌, Bool, true, false, cond, not, List, ℤ, pos, negsuc, neg_ℤ, sym, refl, ap, ◌∙◌, subst, ap₂, div-le_self, arith, le-ltb, lt-ltb}
use borrow.Author.Tests.{not-true, not-false}
use Rattle.step.specs.Pattern.{signed, wrap}
use Rattle.clauses.specs.Literal.{Literal}
use Rattle.clauses.specs.Circuit.{Build, xor!, or!, Bits, Summed, less!, mark! }
use Rattle.clauses.specs.Expression.{constant_bits, sum_passes!, least_operand, largest_operand, product_passes! }
use Rattle.clauses.specs.Writing.{from_code, Emits}
use Rattle.clauses.specs.Builders.{beside! }
use Rattle.clauses.specs.Encoders.{Writes, WritesMarked, MarkWritten}
use Rattle.clauses.specs.declared.gate.Cursor.{Cursor}
use Rattle.clauses.specs.declared.gate.Pen.{Pen}
use Rattle.clauses.proofs.EmitBuilds.{emits_same, emits_give, emits_bind, emits_map}

-- a pen that was moved on: the mark is as it was
abbrev pub Moved : Pen → Cursor → Pen → Type 0
Moved pen at after = (after.at ≡ at) × (after.marks ≡ pen.marks) × (after.mark ≡ pen.mark)

moved_writes : {A : Type 0} {from : Cursor} (build : Build A) {xs ys : List ℤ} (result : Literal → A) (pen : Pen) {after : Pen} {at : Cursor} → Moved pen at after
    → Writes from build xs ys (result (from_code pen.mark)) at → Writes from build xs ys (result (from_code after.mark)) after.at
moved_writes {from = from} build {xs} {ys} result pen {after} {at} (e, k, m) w =
    subst (λ (c : Cursor). Writes from build xs ys (result (from_code after.mark)) c) (sym e) (subst (λ (j : ℕ). Writes from build xs ys (result (from_code j)) at) (sym m) w)

pub beside_emits : {A : Type 0} (build : Build A) {xs ys : List ℤ} {out : A} (pen : Pen) {after : Pen} {at : Cursor} → Moved pen at after → Writes pen.at build xs ys out at → WritesMarked pen (beside! (from_code pen.mark) build) xs ys out after
unfolding beside!
beside_emits {A} build {out = out} pen m w =
    (moved_writes (beside! (from_code pen.mark) build) (λ (l : Literal). record { result = out; mark = l }) pen m (emits_map build (λ (r : A). record { result = r; mark = from_code pen.mark }) w), m.1)

-- by whether the pen marks
pub mark_none : (test : Build Literal) {xs : List ℤ} {from : Cursor} (pen : Pen) {after : Pen} → not pen.marks ≡ true → Moved pen from after → MarkWritten from pen test xs xs after
unfolding mark!
mark_none test {xs} {from} pen e m = (
  moved_writes (mark! pen.marks (from_code pen.mark) test) (λ (l : Literal). l) pen m (emits_same _ _ (ap (λ (t : Bool). mark! t (from_code pen.mark) test from.var) (sym (not-true pen.marks e))) (emits_give from.var (from_code pen.mark) xs from.cur)),
  m.1,
)

pub mark_some : (test : Build Literal) {xs ys zs : List ℤ} {from : Cursor} (pen : Pen) {x : Literal} {c v : ℕ} (after : Pen) → not pen.marks ≡ false → Emits from.var (test from.var) xs ys from.cur x c v
    → Writes (record { cur = c; var = v }) (or! (from_code pen.mark) x) ys zs (from_code after.mark) after.at × (after.marks ≡ true) → MarkWritten from pen test xs zs after
unfolding mark!
mark_some test {from = from} pen after h w (u, k) =
    let e = not-false pen.marks h in
    (emits_same _ _ (ap (λ (t : Bool). mark! t (from_code pen.mark) test from.var) (sym e)) (emits_bind test (or! (from_code pen.mark)) w u), k ∙ sym e)

-- from where the pen was, and from where it was moved to
pub mark_moved : (test : Build Literal) {xs ys : List ℤ} (pen p1 after : Pen) {at : Cursor} → Moved pen at p1 → MarkWritten p1.at p1 test xs ys after → MarkWritten at pen test xs ys after
mark_moved test {xs} {ys} pen p1 after {at} (e, k, m) (w, u) = (
  subst (λ (c : Cursor). Writes c (mark! pen.marks (from_code pen.mark) test) xs ys (from_code after.mark) after.at) e
      (emits_same _ _ (ap₂ (λ (t : Bool) (j : ℕ). mark! t (from_code j) test p1.at.var) k m) w),
  u ∙ k,
)

-- the tests
pub sum_passes_lem : (s : Summed) {n : ℕ} {xs ys : List ℤ} {cur : ℕ} {x : Literal} {c v : ℕ} → Emits n (xor! s.earlier s.carry n) xs ys cur x c v → Emits n (sum_passes! s n) xs ys cur x c v
unfolding sum_passes!
sum_passes_lem s w = w

pub product_passes_lem : (k : ℕ) (x l h : Bits) (lo hi : ℕ) → lo ≡ wrap (least_operand (signed k)) → hi ≡ wrap (largest_operand (signed k)) → l ≡ constant_bits 16 lo → h ≡ constant_bits 16 hi
    → {n : ℕ} {x0 x1 x2 x3 : List ℤ} {cur : ℕ} {a b r : Literal} {c1 v1 c2 v2 c3 v3 : ℕ}
    → Emits n (less! x l n) x0 x1 cur a c1 v1 → Emits v1 (less! h x v1) x1 x2 c1 b c2 v2 → Emits v2 (or! a b v2) x2 x3 c2 r c3 v3 → Emits n (product_passes! k x n) x0 x3 cur r c3 v3
unfolding product_passes!
product_passes_lem k x l h lo hi el eh bl bh {n} {a = a} {v1 = v1} w1 w2 w3 =
    emits_bind (less! x (constant_bits 16 (wrap (least_operand (signed k))))) _ (emits_same _ _ (ap (λ (z : Bits). less! x z n) (bl ∙ ap (constant_bits 16) el)) w1)
    (emits_bind (less! (constant_bits 16 (wrap (largest_operand (signed k)))) x) (or! a) (emits_same _ _ (ap (λ (z : Bits). less! z x v1) (bh ∙ ap (constant_bits 16) eh)) w2) w3)

-- The least and largest operands, by the constant's sign. r is what the code has for the negation of q, modulo 65,536.
wrap_neg : (q r : ℕ) → q ≤ 32768 → r < 65536 → (r + q) % 65536 ≡ 0 → r ≡ wrap (neg_ℤ (pos q))
unfolding wrap
wrap_neg zero r h l e = omega arith
wrap_neg (suc q) r h l e = omega arith

signed_low : (c : ℕ) → c < 32768 → signed c ≡ pos c
unfolding signed
signed_low c h = ap (λ (t : Bool). cond t (pos c) (neg_ℤ (pos (65536 - c)))) (lt-ltb c 32768 h)

signed_high : (c n : ℕ) → 32768 ≤ c → 65536 - c ≡ suc n → signed c ≡ negsuc n
unfolding signed
signed_high c n h e = ap (λ (t : Bool). cond t (pos c) (neg_ℤ (pos (65536 - c)))) (le-ltb c 32768 h) ∙ ap (λ (k : ℕ). neg_ℤ (pos k)) e

pub least_none : (c : ℕ) → c ≡ 0 → ◌≡◌ {A = ℕ} 32768 (wrap (least_operand (signed c)))
unfolding wrap signed
least_none c e = ap {B = ℕ} (λ (k : ℕ). wrap (least_operand (signed k))) (sym e)

pub least_low : (c q r : ℕ) → (c ≡ 0 → ⊥) → c < 32768 → q ≡ 32768 / c → r < 65536 → (r + q) % 65536 ≡ 0 → r ≡ wrap (least_operand (signed c))
least_low zero q r z h e l s = absurd (z refl)
least_low (suc n) q r z h e l s =
    wrap_neg (32768 / suc n) r (div-le_self 32768 (suc n)) l (ap (λ (k : ℕ). (r + k) % 65536) (sym e) ∙ s) ∙ ap (λ (k : ℤ). wrap (least_operand k)) (sym (signed_low (suc n) h))

pub least_high : (c m q r : ℕ) → 32768 ≤ c → c < 65536 → m < 65536 → (m + c) % 65536 ≡ 0 → q ≡ 32767 / m → r < 65536 → (r + q) % 65536 ≡ 0 → r ≡ wrap (least_operand (signed c))
least_high c zero q r h k i w e l s = absurd (omega arith)
least_high c (suc n) q r h k i w e l s =
    wrap_neg (32767 / suc n) r (let d = div-le_self 32767 (suc n) in omega arith) l (ap (λ (j : ℕ). (r + j) % 65536) (sym e) ∙ s)
    ∙ ap (λ (j : ℤ). wrap (least_operand j)) (sym (signed_high c n h (omega arith)))

pub largest_none : (c : ℕ) → c ≡ 0 → ◌≡◌ {A = ℕ} 32767 (wrap (largest_operand (signed c)))
unfolding wrap signed
largest_none c e = ap {B = ℕ} (λ (k : ℕ). wrap (largest_operand (signed k))) (sym e)

pub largest_low : (c r : ℕ) → (c ≡ 0 → ⊥) → c < 32768 → r ≡ 32767 / c → r ≡ wrap (largest_operand (signed c))
unfolding wrap
largest_low zero r z h e = absurd (z refl)
largest_low (suc n) r z h e =
    (let q : r ≡ 32767 / suc n % 65536 = (let d = div-le_self 32767 (suc n) in omega arith) in q) ∙ ap (λ (k : ℤ). wrap (largest_operand k)) (sym (signed_low (suc n) h))

pub largest_one : (c : ℕ) → c ≡ 65535 → ◌≡◌ {A = ℕ} 32767 (wrap (largest_operand (signed c)))
unfolding wrap signed
largest_one c e = ap {B = ℕ} (λ (k : ℕ). wrap (largest_operand (signed k))) (sym e)

pub largest_high : (c m r : ℕ) → 32768 ≤ c → c < 65536 → (c ≡ 65535 → ⊥) → m < 65536 → (m + c) % 65536 ≡ 0 → r ≡ 32768 / m → r ≡ wrap (largest_operand (signed c))
unfolding wrap
largest_high c zero r h k z i w e = absurd (omega arith)
largest_high c (suc zero) r h k z i w e = absurd (z (omega arith))
largest_high c (suc (suc n)) r h k z i w e =
    (let q : r ≡ 32768 / suc (suc n) % 65536 = (let d = div-le_self 32768 (suc (suc n)) in omega arith) in q)
    ∙ ap (λ (t : Bool). cond t 32767 (32768 / suc (suc n)) % 65536) (sym (le-ltb (suc n) 1 (omega arith))) ∙ ap (λ (j : ℤ). wrap (largest_operand j)) (sym (signed_high c (suc n) h (omega arith)))
