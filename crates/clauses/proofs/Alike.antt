-- Two circuits alike: the same gates in the same places, over operands that are related one by one. Whatever relation negation keeps passes from the
-- operands to every gate and to the result. The circuit of property 2 reads the next frame's variables, which are greater than its gates'; it is alike to
-- one over a mover's result, whose variables are smaller.
use Rattle.std.proofs.Common.{◌≡◌, ℕ, zero, suc, ◌/◌, ◌%◌, Bool, true, false, not, ◌&&◌, ◌↔◌, List, [], ◌∷◌, ◌++◌, map, length, get_or, sym, refl, ap, ◌∙◌, subst, ap₂, arith}
use mathlib.Core.List.{map-append}
use lib.ListN.{length-map}
use Rattle.design.specs.Tree.{IntExpr, BoolExpr, constant, variable, status, sum, difference, product, constant_b, variable_b, not_b, and_b, or_b, equal, less, truth, Design}
use Rattle.design.specs.State.{Layout, layout, status_slot}
use Rattle.step.specs.Pattern.{signed, wrap}
use Rattle.step.specs.Property.{Property, invariant, no_invalid_cell, constraint}
use Rattle.clauses.specs.Literal.{Literal, positive, negative, negate, true_literal, false_literal, literal_of}
use Rattle.clauses.specs.Meaning.{Assignment, literal_true}
use Rattle.clauses.specs.Gate.{Gate, and, xor}
use Rattle.clauses.specs.Circuit.{Built, Build, give, ◌>>=◌, and!, xor!, or!, Bits, Summed, earlier_of, sum!, difference!, shift, addend, product!, negate_top, less!, xors!, chain!, equal!, WithMark, mark! }
use Rattle.clauses.specs.Expression.{Slots, constant_bits, pad, lowest, sum_passes!, least_operand, largest_operand, product_passes!, int!, bool!, test! }
use Rattle.clauses.specs.Formula.{flat, unmarked!, step_property! }
use Rattle.clauses.proofs.Gates.{differ, negate_true, Facts}
use Rattle.clauses.proofs.Correct.{LiteralBelow}
use Rattle.clauses.proofs.Arithmetic.{BitsBelow}
use Rattle.clauses.proofs.Expressions.{SlotsBelow}
use Rattle.clauses.proofs.StateBits.{bits_of, append_left, append_right}

-- lists related one by one
pub data Each {A : Type 0} (R : A → A → Type 0) : List A → List A → Type 0 where
  none : Each R [] []
  more : {x y : A} {xs ys : List A} → R x y → Each R xs ys → Each R (x ∷ xs) (y ∷ ys)

module _ {A : Type 0} {R : A → A → Type 0} where
  each_same : ((a : A) → R a a) → (xs : List A) → Each R xs xs
  each_same r [] = none
  each_same r (x ∷ xs) = more (r x) (each_same r xs)

  each_append : {xs ys us vs : List A} → Each R xs ys → Each R us vs → Each R (xs ++ us) (ys ++ vs)
  each_append none q = q
  each_append (more h p) q = more h (each_append p q)

  each_at : {xs ys : List A} → Each R xs ys → {d : A} → R d d → (i : ℕ) → R (get_or xs i d) (get_or ys i d)
  each_at none r i = r
  each_at (more h p) r zero = h
  each_at (more h p) r (suc i) = each_at p r i

-- a relation that every literal has to itself, and that negation keeps
pub record Kept (T : Literal → Literal → Type 0) : Type 0 where
  pub same : (l : Literal) → T l l
  pub negated : (l m : Literal) → T l m → T (negate l) (negate m)

module _ (T : Literal → Literal → Type 0) where
  pub data GatesAlike : List Gate → List Gate → Type 0 where
    no_gates_lem : GatesAlike [] []
    and_alike : {g : ℕ} {a b c d : Literal} {gs hs : List Gate} → T a c → T b d → GatesAlike gs hs → GatesAlike (and g a b ∷ gs) (and g c d ∷ hs)
    xor_alike : {g : ℕ} {a b c d : Literal} {gs hs : List Gate} → T a c → T b d → GatesAlike gs hs → GatesAlike (xor g a b ∷ gs) (xor g c d ∷ hs)

  pub record Alike {A : Type 0} (R : A → A → Type 0) (x y : Built A) : Type 0 where
    pub next : x.next ≡ y.next
    pub gates : GatesAlike x.gates y.gates
    pub out : R x.out y.out

  -- bits, and states in literals
  abbrev pub BitsAlike : Bits → Bits → Type 0
  BitsAlike xs ys = Each T xs ys

  abbrev pub SlotsAlike : Slots → Slots → Type 0
  SlotsAlike s u = Each BitsAlike s u

  gates_append : {gs hs is js : List Gate} → GatesAlike gs hs → GatesAlike is js → GatesAlike (gs ++ is) (hs ++ js)
  gates_append no_gates_lem q = q
  gates_append (and_alike a b p) q = and_alike a b (gates_append p q)
  gates_append (xor_alike a b p) q = xor_alike a b (gates_append p q)

  alike_give : {A : Type 0} {R : A → A → Type 0} (n : ℕ) (a b : A) → R a b → Alike R (give a n) (give b n)
  unfolding give
  alike_give n a b r = record { next = refl; gates = no_gates_lem; out = r }

  alike_bind : {A B : Type 0} {R : A → A → Type 0} {Q : B → B → Type 0} (n : ℕ) (m l : Build A) (f g : A → Build B) → Alike R (m n) (l n)
      → ((a b : A) (k : ℕ) → R a b → Alike Q (f a k) (g b k)) → Alike Q ((m >>= f) n) ((l >>= g) n)
  unfolding ◌>>=◌
  alike_bind {Q = Q} n m l f g p h =
      let x = m n in
      let y = l n in
      let r = subst (λ k. Alike Q (f x.out x.next) (g y.out k)) p.next (h x.out y.out x.next p.out) in
      record { next = r.next; gates = gates_append p.gates r.gates; out = r.out }

  module _ (t : Kept T) where
    and!-alike : {a b c d : Literal} (n : ℕ) → T a c → T b d → Alike T (and! a b n) (and! c d n)
    unfolding and!
    and!-alike n p q = record { next = refl; gates = and_alike p q no_gates_lem; out = t.same (positive n) }

    xor!-alike : {a b c d : Literal} (n : ℕ) → T a c → T b d → Alike T (xor! a b n) (xor! c d n)
    unfolding xor!
    xor!-alike n p q = record { next = refl; gates = xor_alike p q no_gates_lem; out = t.same (positive n) }

    or!-alike : {a b c d : Literal} (n : ℕ) → T a c → T b d → Alike T (or! a b n) (or! c d n)
    unfolding or!
    or!-alike n p q = alike_bind _ _ _ _ _ (and!-alike n (t.negated _ _ p) (t.negated _ _ q)) λ x y k h. alike_give _ _ _ (t.negated x y h)

    negate_alike : {xs ys : Bits} → BitsAlike xs ys → BitsAlike (map negate xs) (map negate ys)
    negate_alike none = none
    negate_alike (more h p) = more (t.negated _ _ h) (negate_alike p)

    negate_top_alike : {xs ys : Bits} → BitsAlike xs ys → BitsAlike (negate_top xs) (negate_top ys)
    negate_top_alike none = none
    negate_top_alike (more h none) = more (t.negated _ _ h) none
    negate_top_alike (more h (more k p)) = more h (negate_top_alike (more k p))

    record SummedAlike (x y : Summed) : Type 0 where
      bits : BitsAlike x.bits y.bits
      carry : T x.carry y.carry
      earlier : T x.earlier y.earlier

    earlier_alike : {c d e f : Literal} {xs ys : Bits} → T c d → BitsAlike xs ys → T e f → T (earlier_of c xs e) (earlier_of d ys f)
    earlier_alike p none q = p
    earlier_alike p (more h r) q = q

    sum!-alike : {xs ys us vs : Bits} {c d : Literal} (n : ℕ) → BitsAlike xs us → BitsAlike ys vs → T c d → Alike SummedAlike (sum! xs ys c n) (sum! us vs d n)
    unfolding sum!
    sum!-alike n none q r = alike_give _ _ _ (record { bits = none; carry = r; earlier = r })
    sum!-alike n (more h p) none r = alike_give _ _ _ (record { bits = none; carry = r; earlier = r })
    sum!-alike n (more h p) (more i q) r =
        alike_bind _ _ _ _ _ (xor!-alike n h i) λ p₁ p₂ k₁ hp.
        alike_bind _ _ _ _ _ (xor!-alike k₁ hp r) λ s₁ s₂ k₂ hs.
        alike_bind _ _ _ _ _ (and!-alike k₂ h i) λ u₁ u₂ k₃ hu.
        alike_bind _ _ _ _ _ (and!-alike k₃ hp r) λ t₁ t₂ k₄ ht.
        alike_bind _ _ _ _ _ (or!-alike k₄ hu ht) λ c₁ c₂ k₅ hc.
        alike_bind _ _ _ _ _ (sum!-alike k₅ p q hc) λ r₁ r₂ k₆ hr.
        alike_give _ _ _ (record { bits = more hs hr.bits; carry = hr.carry; earlier = earlier_alike r hr.bits hr.earlier })

    difference!-alike : {xs ys us vs : Bits} (n : ℕ) → BitsAlike xs us → BitsAlike ys vs → Alike SummedAlike (difference! xs ys n) (difference! us vs n)
    unfolding difference!
    difference!-alike n p q = sum!-alike n p (negate_alike q) (t.same true_literal)

    shift_alike : {x y : Literal} {xs ys : Bits} → T x y → BitsAlike xs ys → BitsAlike (shift x xs) (shift y ys)
    shift_alike r none = none
    shift_alike r (more h p) = more r (shift_alike h p)

    addend_alike : (b : Bool) {xs ys : Bits} → BitsAlike xs ys → BitsAlike (addend b xs) (addend b ys)
    addend_alike true p = p
    addend_alike false none = none
    addend_alike false (more h p) = more (t.same false_literal) (addend_alike false p)

    product!-alike : (left c : ℕ) {xs ys us vs : Bits} (n : ℕ) → BitsAlike xs us → BitsAlike ys vs → Alike BitsAlike (product! left c xs ys n) (product! left c us vs n)
    unfolding product!
    product!-alike zero c n p q = alike_give _ _ _ q
    product!-alike (suc left) c n p q =
        alike_bind _ _ _ _ _ (sum!-alike n q (addend_alike (truth (c % 2)) p) (t.same false_literal)) λ x y k h.
        product!-alike left (c / 2) k (shift_alike (t.same false_literal) p) h.bits

    less!-alike : {xs ys us vs : Bits} (n : ℕ) → BitsAlike xs us → BitsAlike ys vs → Alike T (less! xs ys n) (less! us vs n)
    unfolding less!
    less!-alike n p q = alike_bind _ _ _ _ _ (difference!-alike n (negate_top_alike p) (negate_top_alike q)) λ x y k h. alike_give _ _ _ (t.negated _ _ h.carry)

    xors!-alike : {xs ys us vs : Bits} (n : ℕ) → BitsAlike xs us → BitsAlike ys vs → Alike BitsAlike (xors! xs ys n) (xors! us vs n)
    unfolding xors!
    xors!-alike n none q = alike_give _ _ _ none
    xors!-alike n (more h p) none = alike_give _ _ _ none
    xors!-alike n (more h p) (more i q) =
        alike_bind _ _ _ _ _ (xor!-alike n h i) λ x y k hx. alike_bind _ _ _ _ _ (xors!-alike k p q) λ xs ys k' hr. alike_give _ _ _ (more hx hr)

    chain!-alike : {xs ys : Bits} {c d : Literal} (n : ℕ) → T c d → BitsAlike xs ys → Alike T (chain! c xs n) (chain! d ys n)
    unfolding chain!
    chain!-alike n r none = alike_give _ _ _ r
    chain!-alike n r (more h p) = alike_bind _ _ _ _ _ (and!-alike n r h) λ x y k hx. chain!-alike k hx p

    equal!-alike : {xs ys us vs : Bits} (n : ℕ) → BitsAlike xs us → BitsAlike ys vs → Alike T (equal! xs ys n) (equal! us vs n)
    unfolding equal!
    equal!-alike n p q = alike_bind _ _ _ _ _ (xors!-alike n p q) λ x y k h. chain!-alike k (t.same true_literal) (negate_alike h)

    pad_alike : (w : ℕ) {xs ys : Bits} → BitsAlike xs ys → BitsAlike (pad w xs) (pad w ys)
    pad_alike zero p = none
    pad_alike (suc w) none = more (t.same false_literal) (pad_alike w none)
    pad_alike (suc w) (more h p) = more h (pad_alike w p)

    lowest_alike : {xs ys : Bits} → BitsAlike xs ys → T (lowest xs) (lowest ys)
    lowest_alike none = t.same false_literal
    lowest_alike (more h p) = h

    -- the mark behind a test
    mark!-alike : (marks : Bool) {m k : Literal} (test other : Build Literal) (n : ℕ) → T m k → Alike T (test n) (other n) → Alike T (mark! marks m test n) (mark! marks k other n)
    unfolding mark!
    mark!-alike false test other n p q = alike_give _ _ _ p
    mark!-alike true test other n p q = alike_bind _ _ _ _ _ q λ x y k h. or!-alike k p h

    sum_passes!-alike : {x y : Summed} (n : ℕ) → SummedAlike x y → Alike T (sum_passes! x n) (sum_passes! y n)
    unfolding sum_passes!
    sum_passes!-alike n h = xor!-alike n h.earlier h.carry

    product_passes!-alike : (c : ℕ) {xs us : Bits} (n : ℕ) → BitsAlike xs us → Alike T (product_passes! c xs n) (product_passes! c us n)
    unfolding product_passes!
    product_passes!-alike c n p =
        alike_bind _ _ _ _ _ (less!-alike n p (each_same t.same (constant_bits 16 (wrap (least_operand (signed c)))))) λ a₁ a₂ k₁ ha.
        alike_bind _ _ _ _ _ (less!-alike k₁ (each_same t.same (constant_bits 16 (wrap (largest_operand (signed c))))) p) λ b₁ b₂ k₂ hb.
        or!-alike k₂ ha hb

    record MarkedAlike {A : Type 0} (R : A → A → Type 0) (x y : WithMark A) : Type 0 where
      result : R x.result y.result
      mark : T x.mark y.mark

    module _ (l : Layout) {s u : Slots} (f : SlotsAlike s u) (marks : Bool) where
      int!-alike : (e : IntExpr) {m k : Literal} (n : ℕ) → T m k → Alike (MarkedAlike BitsAlike) (int! marks l s m e n) (int! marks l u k e n)
      unfolding int!
      int!-alike (constant c) n r = alike_give _ _ _ (record { result = each_same t.same (constant_bits 16 c); mark = r })
      int!-alike (variable v) n r = alike_give _ _ _ (record { result = pad_alike 16 (each_at f none v); mark = r })
      int!-alike (status q) n r = alike_give _ _ _ (record { result = pad_alike 16 (each_at f none (status_slot l q)); mark = r })
      int!-alike (sum a b) n r =
          alike_bind _ _ _ _ _ (int!-alike a n r) λ x₁ x₂ k₁ hx.
          alike_bind _ _ _ _ _ (int!-alike b k₁ hx.mark) λ y₁ y₂ k₂ hy.
          alike_bind _ _ _ _ _ (sum!-alike k₂ hx.result hy.result (t.same false_literal)) λ r₁ r₂ k₃ hr.
          alike_bind _ _ _ _ _ (mark!-alike marks _ _ k₃ hy.mark (sum_passes!-alike k₃ hr)) λ m₁ m₂ k₄ hm.
          alike_give _ _ _ (record { result = hr.bits; mark = hm })
      int!-alike (difference a b) n r =
          alike_bind _ _ _ _ _ (int!-alike a n r) λ x₁ x₂ k₁ hx.
          alike_bind _ _ _ _ _ (int!-alike b k₁ hx.mark) λ y₁ y₂ k₂ hy.
          alike_bind _ _ _ _ _ (difference!-alike k₂ hx.result hy.result) λ r₁ r₂ k₃ hr.
          alike_bind _ _ _ _ _ (mark!-alike marks _ _ k₃ hy.mark (sum_passes!-alike k₃ hr)) λ m₁ m₂ k₄ hm.
          alike_give _ _ _ (record { result = hr.bits; mark = hm })
      int!-alike (product c a) n r =
          alike_bind _ _ _ _ _ (int!-alike a n r) λ x₁ x₂ k₁ hx.
          alike_bind _ _ _ _ _ (product!-alike 16 c k₁ hx.result (each_same t.same (constant_bits 16 0))) λ r₁ r₂ k₂ hr.
          alike_bind _ _ _ _ _ (mark!-alike marks _ _ k₂ hx.mark (product_passes!-alike c k₂ hx.result)) λ m₁ m₂ k₃ hm.
          alike_give _ _ _ (record { result = hr; mark = hm })

      bool!-alike : (e : BoolExpr) {m k : Literal} (n : ℕ) → T m k → Alike (MarkedAlike T) (bool! marks l s m e n) (bool! marks l u k e n)
      unfolding bool!
      bool!-alike (constant_b b) n r = alike_give _ _ _ (record { result = t.same (literal_of b); mark = r })
      bool!-alike (variable_b v) n r = alike_give _ _ _ (record { result = lowest_alike (each_at f none v); mark = r })
      bool!-alike (not_b a) n r =
          alike_bind _ _ _ _ _ (bool!-alike a n r) λ x y k h. alike_give _ _ _ (record { result = t.negated _ _ h.result; mark = h.mark })
      bool!-alike (and_b a b) n r =
          alike_bind _ _ _ _ _ (bool!-alike a n r) λ x₁ x₂ k₁ hx.
          alike_bind _ _ _ _ _ (bool!-alike b k₁ hx.mark) λ y₁ y₂ k₂ hy.
          alike_bind _ _ _ _ _ (and!-alike k₂ hx.result hy.result) λ r₁ r₂ k₃ hr. alike_give _ _ _ (record { result = hr; mark = hy.mark })
      bool!-alike (or_b a b) n r =
          alike_bind _ _ _ _ _ (bool!-alike a n r) λ x₁ x₂ k₁ hx.
          alike_bind _ _ _ _ _ (bool!-alike b k₁ hx.mark) λ y₁ y₂ k₂ hy.
          alike_bind _ _ _ _ _ (or!-alike k₂ hx.result hy.result) λ r₁ r₂ k₃ hr. alike_give _ _ _ (record { result = hr; mark = hy.mark })
      bool!-alike (equal a b) n r =
          alike_bind _ _ _ _ _ (int!-alike a n r) λ x₁ x₂ k₁ hx.
          alike_bind _ _ _ _ _ (int!-alike b k₁ hx.mark) λ y₁ y₂ k₂ hy.
          alike_bind _ _ _ _ _ (equal!-alike k₂ hx.result hy.result) λ r₁ r₂ k₃ hr. alike_give _ _ _ (record { result = hr; mark = hy.mark })
      bool!-alike (less a b) n r =
          alike_bind _ _ _ _ _ (int!-alike a n r) λ x₁ x₂ k₁ hx.
          alike_bind _ _ _ _ _ (int!-alike b k₁ hx.mark) λ y₁ y₂ k₂ hy.
          alike_bind _ _ _ _ _ (less!-alike k₂ hx.result hy.result) λ r₁ r₂ k₃ hr. alike_give _ _ _ (record { result = hr; mark = hy.mark })

    test!-alike : (l : Layout) {s u : Slots} → SlotsAlike s u → (e : BoolExpr) (n : ℕ) → Alike T (test! l s e n) (test! l u e n)
    unfolding test!
    test!-alike l f e n = alike_bind _ _ _ _ _ (bool!-alike l f false e n (t.same false_literal)) λ x y k h. alike_give _ _ _ h.result

    -- property 2 over a state and another next state
    pub step_property_alike : (d : Design) (p : Property) (s : Slots) {u v : Slots} (n : ℕ) → SlotsAlike u v → Alike T (step_property! d p s u n) (step_property! d p s v n)
    unfolding step_property! unmarked!
    step_property_alike d (invariant e) s n f = alike_give _ _ _ (t.same true_literal)
    step_property_alike d no_invalid_cell s n f = alike_give _ _ _ (t.same true_literal)
    step_property_alike d (constraint e) s n f =
        alike_bind _ _ _ _ _ (test!-alike (layout d) (each_append (each_same (each_same t.same) s) f) e n) λ x y k h.
        and!-alike k h (t.negated _ _ (lowest_alike (each_at f none (layout d).mark)))

-- literals of one truth under an assignment
module _ (ρ : Assignment) where
  abbrev pub SameTruth : Literal → Literal → Type 0
  SameTruth l m = literal_true ρ l ≡ literal_true ρ m

  pub truth_kept : Kept SameTruth
  truth_kept = record { same = λ l. refl; negated = λ l m e. negate_true ρ l ∙ ap not e ∙ sym (negate_true ρ m) }

  pub facts_alike : {gs hs : List Gate} → GatesAlike SameTruth gs hs → Facts ρ gs ↔ Facts ρ hs
  facts_alike no_gates_lem = (λ f. f, λ f. f)
  facts_alike (and_alike p q r) =
      let h = facts_alike r in
      (λ f. (f.0 ∙ ap₂ ◌&&◌ p q, h.0 f.1), λ f. (f.0 ∙ sym (ap₂ ◌&&◌ p q), h.1 f.1))
  facts_alike (xor_alike p q r) =
      let h = facts_alike r in
      (λ f. (f.0 ∙ ap₂ differ p q, h.0 f.1), λ f. (f.0 ∙ sym (ap₂ differ p q), h.1 f.1))

  bits_truth : (xs ys : Bits) → bits_of ρ xs ≡ bits_of ρ ys → BitsAlike SameTruth xs ys
  bits_truth [] [] e = none
  bits_truth [] (y ∷ ys) e = absurd (omega (arith, ap length e))
  bits_truth (x ∷ xs) [] e = absurd (omega (arith, ap length e))
  bits_truth (x ∷ xs) (y ∷ ys) e =
      let h : literal_true ρ x ≡ literal_true ρ y = cc in
      let r : bits_of ρ xs ≡ bits_of ρ ys = cc in
      more h (bits_truth xs ys r)

  -- states of the same bits
  pub slots_truth : (s u : Slots) → map length s ≡ map length u → bits_of ρ (flat s) ≡ bits_of ρ (flat u) → SlotsAlike SameTruth s u
  slots_truth [] [] l e = none
  slots_truth [] (y ∷ ys) l e = absurd (omega (arith, ap length l))
  slots_truth (x ∷ xs) [] l e = absurd (omega (arith, ap length l))
  slots_truth (x ∷ xs) (y ∷ ys) l e =
      let e' = sym (map-append (literal_true ρ) x (flat xs)) ∙ e ∙ map-append (literal_true ρ) y (flat ys) in
      let lx : length x ≡ length y = cc in
      let ls : map length xs ≡ map length ys = cc in
      let lb : length (bits_of ρ x) ≡ length (bits_of ρ y) = length-map x (literal_true ρ) ∙ lx ∙ sym (length-map y (literal_true ρ)) in
      more (bits_truth x y (append_left (bits_of ρ x) (bits_of ρ (flat xs)) (bits_of ρ y) (bits_of ρ (flat ys)) lb e'))
      (slots_truth xs ys ls (append_right (bits_of ρ x) (bits_of ρ (flat xs)) (bits_of ρ y) (bits_of ρ (flat ys)) lb e'))

-- literals of which the second is below k if the first is
module _ (k : ℕ) where
  abbrev pub BelowToo : Literal → Literal → Type 0
  BelowToo l m = LiteralBelow k l → LiteralBelow k m

  pub below_kept : Kept BelowToo
  below_kept = record { same = λ l h. h; negated = turn }
    where
      turn : (l m : Literal) → BelowToo l m → BelowToo (negate l) (negate m)
      turn (positive v) (positive w) f = f
      turn (positive v) (negative w) f = f
      turn (negative v) (positive w) f = f
      turn (negative v) (negative w) f = f

  bits_below : (xs ys : Bits) → length xs ≡ length ys → BitsBelow k ys → BitsAlike BelowToo xs ys
  bits_below [] [] e b = none
  bits_below [] (y ∷ ys) e b = absurd (omega arith)
  bits_below (x ∷ xs) [] e b = absurd (omega arith)
  bits_below (x ∷ xs) (y ∷ ys) e b = more (λ h. b.0) (bits_below xs ys (omega arith) b.1)

  -- of states of the same widths, the second below k
  pub slots_below_too : (s u : Slots) → map length s ≡ map length u → SlotsBelow k u → SlotsAlike BelowToo s u
  slots_below_too [] [] e b = none
  slots_below_too [] (y ∷ ys) e b = absurd (omega (arith, ap length e))
  slots_below_too (x ∷ xs) [] e b = absurd (omega (arith, ap length e))
  slots_below_too (x ∷ xs) (y ∷ ys) e b =
      let l : length x ≡ length y = cc in
      let ls : map length xs ≡ map length ys = cc in
      more (bits_below x y l b.0) (slots_below_too xs ys ls b.1)
