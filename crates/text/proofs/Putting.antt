-- Laws of text that is put into a buffer. Assumes nothing.
use mathlib.Core.Path.{◌≡◌, refl, sym, ap, subst, ◌∙◌}
use mathlib.Core.Bool.{Bool, true, false, cond}
use mathlib.Core.List.{List, [], ◌∷◌, ◌++◌, map}
use Prim.Native.Nat.{ℕ, zero, suc, ◌+◌, ◌*◌, ◌-◌, ◌/◌, ◌%◌, ◌<◌, ◌≤◌}
use native.Mathlib.Omega.{arith}
use lib.Dec.{ltb}
use native.Mathlib.Numerals.{add-one}
use lib.ListN.{length, get_or, set, take, drop, drop_of_length-le, length-append, length-map, length-drop, get_or-map}
use lib.Seq.{drop-cons, length-take-le, get_or-take, get_or-drop}
use borrow.Author.Tests.{lt-ltb, le-ltb}
use lib.IntN.{ℤ, pos, negsuc, neg_ℤ, nat_abs}
use Rattle.step.specs.Pattern.{signed}
use Rattle.search.specs.Memory.{sign_of}
use Rattle.clauses.specs.Writing.{put}
use Rattle.clauses.proofs.EmitWords.{put_length, put_append}
use Rattle.text.specs.Text.{digits, decimal, signed_text, TextWritten}
use Rattle.text.specs.Line.{spaced, mover_text, flag_text}
use Rattle.design.specs.Tree.{bit}

pub written_length : {ws xs ys : List ℕ} {at r : ℕ} → TextWritten ws xs ys at r → length ys ≡ length xs
written_length {ws} {xs} {ys} {at} h = ap length h.written ∙ put_length at ws xs

-- nothing, one byte, one text after another
pub written_none : (xs : List ℕ) (at : ℕ) → TextWritten [] xs xs at at
unfolding put
written_none xs at = record { written = refl; cursor = omega arith }

pub written_byte : (b : ℕ) (xs : List ℕ) (at r : ℕ) → r ≡ at + 1 → TextWritten (b ∷ []) xs (set xs at b) at r
unfolding put
written_byte b xs at r e = record { written = refl; cursor = e }

pub written_then : {us vs xs ys zs : List ℕ} {at m r : ℕ} → TextWritten us xs ys at m → TextWritten vs ys zs m r → TextWritten (us ++ vs) xs zs at r
written_then {us} {vs} {xs} {ys} {zs} {at} {m} {r} g h = record {
  written = h.written ∙ ap (put m vs) g.written ∙ ap (λ (k : ℕ). put k vs (put at us xs)) g.cursor ∙ sym (put_append at us vs xs);
  cursor = let a = g.cursor in let b = h.cursor in omega (arith, length-append us vs);
}

pub digits_length : (k n : ℕ) → length (digits k n) ≤ k
unfolding digits
digits_length zero n = omega arith
digits_length (suc k) n = go (ltb n 10) (digits_length k (n / 10))
  where
    go : (t : Bool) → length (digits k (n / 10)) ≤ k → length (cond t ((48 + n) ∷ []) (digits k (n / 10) ++ ((48 + n % 10) ∷ []))) ≤ suc k
    go true h = omega arith
    go false h = omega (arith, length-append (digits k (n / 10)) ((48 + n % 10) ∷ []))

-- the cases of digits
pub digits_none : (k n : ℕ) (xs : List ℕ) (at : ℕ) → k ≡ 0 → TextWritten (digits k n) xs xs at at
unfolding digits
digits_none zero n xs at e = written_none xs at
digits_none (suc k) n xs at e = absurd (omega arith)

pub digits_last : (k n : ℕ) {xs ys : List ℕ} {at r : ℕ} → (k ≡ 0 → ⊥) → n < 10 → TextWritten ((48 + n) ∷ []) xs ys at r → TextWritten (digits k n) xs ys at r
unfolding digits
digits_last zero n z h w = absurd (z refl)
digits_last (suc k) n z h w = rw (lt-ltb n 10 h) w

pub digits_more : (k n : ℕ) {xs ys zs : List ℕ} {at m r : ℕ} → (k ≡ 0 → ⊥) → 10 ≤ n → TextWritten (digits (k - 1) (n / 10)) xs ys at m → TextWritten ((48 + n % 10) ∷ []) ys zs m r → TextWritten (digits k n) xs zs at r
unfolding digits
digits_more zero n z h g w = absurd (z refl)
digits_more (suc k) n {xs} {ys} {zs} {at} {m} {r} z h g w =
    rw (le-ltb n 10 h) (written_then (subst (λ (j : ℕ). TextWritten (digits j (n / 10)) xs ys at m) (let q : suc k - 1 ≡ k = omega arith in q) g) w)

pub decimal_past : (n : ℕ) {xs ys : List ℕ} {at r : ℕ} → TextWritten (decimal n) xs ys at r → r ≤ at + 20
decimal_past n h = omega (arith, h.cursor, digits_length 20 n)

-- the two cases of an integer's text; `sign_of` is 1 of a number that is not negative, else 0
pub signed_plain : (z : ℤ) (n : ℕ) {xs ys : List ℕ} {at r : ℕ} → n ≡ nat_abs z → sign_of z ≡ 1 → TextWritten (decimal n) xs ys at r → TextWritten (signed_text z) xs ys at r
signed_plain (pos m) n {xs} {ys} {at} {r} q e h = subst (λ (k : ℕ). TextWritten (decimal k) xs ys at r) q h
signed_plain (negsuc m) n q e h = absurd (omega arith)

pub signed_minus : (z : ℤ) (n : ℕ) {xs ys zs : List ℕ} {at m r : ℕ} → n ≡ nat_abs z → (sign_of z ≡ 1 → ⊥) → TextWritten (45 ∷ []) xs ys at m → TextWritten (decimal n) ys zs m r → TextWritten (signed_text z) xs zs at r
signed_minus (pos k) n q e g h = absurd (e refl)
signed_minus (negsuc k) n {xs} {ys} {zs} {at} {m} {r} q e g h = written_then g (subst (λ (j : ℕ). TextWritten (decimal j) ys zs m r) q h)

signed_length : (z : ℤ) → length (signed_text z) ≤ 21
signed_length (pos n) = omega (arith, digits_length 20 n)
signed_length (negsuc n) = omega (arith, digits_length 20 (suc n))

pub signed_past : (z : ℤ) {xs ys : List ℕ} {at r : ℕ} → TextWritten (signed_text z) xs ys at r → r ≤ at + 21
signed_past z h = omega (arith, h.cursor, signed_length z)

-- what is left of a text, put now, is the whole put at the start
pub record Rest (left whole xs ys : List ℕ) (at p : ℕ) : Type 0 where
  pub bytes : put p left ys ≡ put at whole xs
  pub past : p + length left ≡ at + length whole
  pub size : length ys ≡ length xs

pub rest_start : (whole xs : List ℕ) (at : ℕ) → Rest whole whole xs xs at at
rest_start whole xs at = record { bytes = refl; past = refl; size = refl }

pub rest_next : (ws left : List ℕ) {here whole xs ys zs : List ℕ} {at p r : ℕ} → here ≡ ws ++ left → Rest here whole xs ys at p → TextWritten ws ys zs p r → Rest left whole xs zs at r
rest_next ws left {here} {whole} {xs} {ys} {zs} {at} {p} {r} e l w = record {
  bytes = ap (put r left) w.written ∙ ap (λ (k : ℕ). put k left (put p ws ys)) w.cursor ∙ sym (put_append p ws left ys) ∙ ap (λ (us : List ℕ). put p us ys) (sym e) ∙ l.bytes;
  past = omega (arith, w.cursor, l.past, ap length e, length-append ws left);
  size = written_length w ∙ l.size;
}

pub rest_end : {left whole xs ys : List ℕ} {at p : ℕ} → left ≡ [] → Rest left whole xs ys at p → TextWritten whole xs ys at p
unfolding put
rest_end {left} {whole} {xs} {ys} {at} {p} e l = record { written = rw e at l.bytes; cursor = omega (arith, rw e at l.past) }

-- of bytes, one at a time
pub bytes_next : (bs : List ℕ) (i : ℕ) {xs ys zs : List ℕ} {at p r : ℕ} → i < length bs → Rest (drop i bs) bs xs ys at p → TextWritten (get_or bs i 0 ∷ []) ys zs p r → Rest (drop (i + 1) bs) bs xs zs at r
bytes_next bs i h l w = rw (add-one i) (rest_next (get_or bs i 0 ∷ []) (drop (suc i) bs) (drop-cons bs i 0 h) l w)

pub bytes_end : (bs : List ℕ) (i : ℕ) {xs ys : List ℕ} {at p : ℕ} → length bs ≤ i → Rest (drop i bs) bs xs ys at p → TextWritten bs xs ys at p
bytes_end bs i h l = rest_end (drop_of_length-le bs h) l

-- of a list of numbers
pub record Left (zs : List ℤ) (i : ℕ) (xs ys : List ℕ) (at p : ℕ) : Type 0 where
  pub rest : Rest (spaced (drop i zs)) (spaced zs) xs ys at p
  pub near : p ≤ at + 22 * i

pub left_start : (zs : List ℤ) (xs : List ℕ) (at : ℕ) → Left zs 0 xs xs at at
left_start zs xs at = record { rest = rest_start (spaced zs) xs at; near = omega arith }

spaced_next : (zs : List ℤ) (i : ℕ) → i < length zs → spaced (drop i zs) ≡ (32 ∷ signed_text (get_or zs i (pos 0))) ++ spaced (drop (suc i) zs)
unfolding spaced
spaced_next zs i h = rw (drop-cons zs i (pos 0) h)

left_next : (zs : List ℤ) (i : ℕ) {xs ys us vs : List ℕ} {at p m r : ℕ} → i < length zs → Left zs i xs ys at p → TextWritten (32 ∷ []) ys us p m → TextWritten (signed_text (get_or zs i (pos 0))) us vs m r → Left zs (i + 1) xs vs at r
left_next zs i {xs} {ys} {us} {vs} {at} {p} {m} {r} h l g w =
    let b : TextWritten (32 ∷ signed_text (get_or zs i (pos 0))) ys vs p r = written_then g w in
    rw (add-one i) (record {
      rest = rest_next (32 ∷ signed_text (get_or zs i (pos 0))) (spaced (drop (suc i) zs)) (spaced_next zs i h) l.rest b;
      near = omega (arith, b.cursor, l.near, signed_length (get_or zs i (pos 0)));
    })

left_end : (zs : List ℤ) (i : ℕ) {xs ys : List ℕ} {at p : ℕ} → length zs ≤ i → Left zs i xs ys at p → TextWritten (spaced zs) xs ys at p
unfolding spaced
left_end zs i h l = rest_end (ap spaced (drop_of_length-le zs h)) l.rest

-- the values of the first n slots
module _ (n : ℕ) (slots : List ℕ) (h : n ≤ length slots) where
  values_length : length (take n (map signed slots)) ≡ n
  values_length = length-take-le n (map signed slots) (let e = length-map slots signed in omega arith)

  value_at_lem : (i : ℕ) → i < n → get_or (take n (map signed slots)) i (pos 0) ≡ signed (get_or slots i 0)
  unfolding signed
  value_at_lem i l = get_or-take n (map signed slots) i (pos 0) l ∙ get_or-map signed slots i 0

  pub values_next : (i : ℕ) {xs ys us vs : List ℕ} {at p m r : ℕ} → i < n → Left (take n (map signed slots)) i xs ys at p → TextWritten (32 ∷ []) ys us p m → TextWritten (signed_text (signed (get_or slots i 0))) us vs m r → Left (take n (map signed slots)) (i + 1) xs vs at r
  values_next i {xs} {ys} {us} {vs} {at} {p} {m} {r} l g a b =
      left_next (take n (map signed slots)) i (omega (arith, values_length)) g a (subst (λ (z : ℤ). TextWritten (signed_text z) us vs m r) (sym (value_at_lem i l)) b)

  pub values_end : (i : ℕ) {xs ys : List ℕ} {at p : ℕ} → n ≤ i → Left (take n (map signed slots)) i xs ys at p → TextWritten (spaced (take n (map signed slots))) xs ys at p
  values_end i l g = left_end (take n (map signed slots)) i (omega (arith, values_length)) g

-- the k statuses after them
module _ (n k : ℕ) (slots : List ℕ) (h : n + k ≤ length slots) where
  abbrev statuses : List ℤ
  statuses = map pos (take k (drop n slots))

  statuses_length : length statuses ≡ k
  statuses_length = length-map (take k (drop n slots)) pos ∙ length-take-le k (drop n slots) (omega (arith, length-drop n slots))

  status_at : (i : ℕ) → i < k → get_or statuses i (pos 0) ≡ pos (get_or slots (n + i) 0)
  status_at i l = get_or-map pos (take k (drop n slots)) i 0 ∙ ap pos (get_or-take k (drop n slots) i 0 l ∙ get_or-drop n slots i 0)

  pub statuses_next : (i : ℕ) {xs ys us vs : List ℕ} {at p m r : ℕ} → i < k → Left statuses i xs ys at p → TextWritten (32 ∷ []) ys us p m → TextWritten (decimal (get_or slots (n + i) 0)) us vs m r
      → Left statuses (i + 1) xs vs at r
  statuses_next i {xs} {ys} {us} {vs} {at} {p} {m} {r} l g a b =
      left_next statuses i (omega (arith, statuses_length)) g a (subst (λ (z : ℤ). TextWritten (signed_text z) us vs m r) (sym (status_at i l)) b)

  pub statuses_end : (i : ℕ) {xs ys : List ℕ} {at p : ℕ} → k ≤ i → Left statuses i xs ys at p → TextWritten (spaced statuses) xs ys at p
  statuses_end i l g = left_end statuses i (omega (arith, statuses_length)) g

-- the two cases of a pattern
pub pattern_plain : (p : ℕ) {xs ys : List ℕ} {at r : ℕ} → p < 32768 → TextWritten (decimal p) xs ys at r → TextWritten (signed_text (signed p)) xs ys at r
unfolding signed
pattern_plain p {xs} {ys} {at} {r} h w = subst (λ (t : Bool). TextWritten (signed_text (cond t (pos p) (neg_ℤ (pos (65536 - p))))) xs ys at r) (sym (lt-ltb p 32768 h)) w

pub pattern_minus : (p : ℕ) {xs ys zs : List ℕ} {at m r : ℕ} → 32768 ≤ p → p < 65536 → TextWritten (45 ∷ []) xs ys at m → TextWritten (decimal (65536 - p)) ys zs m r → TextWritten (signed_text (signed p)) xs zs at r
unfolding signed
pattern_minus p {xs} {ys} {zs} {at} {m} {r} h l g w =
    let q : 65536 - p ≡ suc (65535 - p) = omega arith in
    subst (λ (t : Bool). TextWritten (signed_text (cond t (pos p) (neg_ℤ (pos (65536 - p))))) xs zs at r) (sym (le-ltb p 32768 h))
    (subst (λ (n : ℕ). TextWritten (signed_text (neg_ℤ (pos n))) xs zs at r) (sym q) (written_then g (subst (λ (n : ℕ). TextWritten (decimal n) ys zs m r) q w)))

-- the mover's two cases, and a flag's
pub mover_none : (step mover : ℕ) {xs ys : List ℕ} {at r : ℕ} → step ≡ 0 → TextWritten (45 ∷ []) xs ys at r → TextWritten (mover_text step mover) xs ys at r
mover_none zero mover e h = h
mover_none (suc step) mover e h = absurd (omega arith)

pub mover_some : (step mover : ℕ) {xs ys : List ℕ} {at r : ℕ} → (step ≡ 0 → ⊥) → TextWritten (decimal mover) xs ys at r → TextWritten (mover_text step mover) xs ys at r
mover_some zero mover e h = absurd (e refl)
mover_some (suc step) mover e h = h

pub flag_written : (b : Bool) (n : ℕ) {xs ys zs : List ℕ} {at m r : ℕ} → n ≡ 48 + bit b → TextWritten (32 ∷ []) xs ys at m → TextWritten (n ∷ []) ys zs m r → TextWritten (flag_text b) xs zs at r
flag_written b n {xs} {ys} {zs} {at} {m} {r} e g h = written_then g (subst (λ (k : ℕ). TextWritten (k ∷ []) ys zs m r) e h)

pub written_past : {ws xs ys : List ℕ} {at r : ℕ} → TextWritten ws xs ys at r → (k : ℕ) → length ws ≤ k → r ≤ at + k
written_past h k l = omega (arith, h.cursor)
