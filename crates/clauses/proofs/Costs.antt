-- Every circuit has the gates of its cost, wherever its variables start.
use Rattle.std.proofs.Common.{◌≡◌, ℕ, zero, suc, ◌+◌, ◌*◌, ◌/◌, ◌%◌, Bool, true, false, List, [], ◌∷◌, ◌++◌, map, length, get_or, set, sym, refl, ap, ◌∙◌, ap₂, arith}
use lib.Seq.{set-get_or}
use Rattle.design.specs.Tree.{IntExpr, BoolExpr, Stmt, Stmts, constant, variable, status, sum, difference, product, constant_b, variable_b, not_b, and_b, or_b, equal, less, truth, assign, assign_b, if_else, done, then, InvalidCell, Design, Mover, cell, raise, movers}
use Rattle.design.specs.State.{Layout, layout, status_slot, status_width, widths}
use Rattle.design.specs.WellFormed.{HasMark, StmtOk, StmtsOk, MoverOk, MoversOk, WellFormed}
use Rattle.step.specs.Property.{Property, invariant, no_invalid_cell, constraint}
use Rattle.step.specs.Pattern.{signed, wrap}
use Rattle.clauses.specs.Literal.{Literal, negate, true_literal, false_literal}
use Rattle.clauses.specs.Words.{words}
use Rattle.clauses.specs.Gate.{Gate, and, xor, mux, gates_clauses}
use Rattle.clauses.specs.Circuit.{Built, Build, give, ◌>>=◌, and!, xor!, mux!, or!, Bits, Summed, sum!, difference!, shift, addend, product!, negate_top, less!, xors!, chain!, equal!, WithMark, mark! }
use Rattle.clauses.specs.Expression.{Slots, constant_bits, integer_at, sum_passes!, least_operand, largest_operand, product_passes!, int!, bool!, test!, mark_at, with_mark}
use Rattle.clauses.specs.Action.{mux_bits!, muxes!, statement!, statements!, status_and_event!, enable!, effect!, mover!, movers!, no_invalid! }
use Rattle.clauses.specs.Formula.{total, unmarked!, property!, step_property!, step!, S}
use Rattle.clauses.specs.Cost.{Cost, cost, add_costs, gates_in, clauses_in, words_in, sum_mark_cost, product_mark_cost, int_cost, bool_cost, statement_cost, statements_cost, status_and_event_cost, enable_cost, effect_cost, mover_cost, movers_cost, invalid_cost, property_cost, step_property_cost}
use Rattle.clauses.proofs.Arithmetic.{length_negate, length_shift, length_addend, length_negate_top}
use Rattle.clauses.proofs.Expressions.{length_pad, length_constant}
use Rattle.clauses.proofs.Actions.{map_set, head_eq, tail_eq}

-- the gates of a list by kind
abbrev gate_cost : Gate → Cost
gate_cost (and g a b) = cost 1 0
gate_cost (xor g a b) = cost 0 1
gate_cost (mux g c a b) = cost 0 1

abbrev pub cost_of : List Gate → Cost
cost_of [] = cost 0 0
cost_of (g ∷ gs) = add_costs (gate_cost g) (cost_of gs)

ands_append : (xs ys : List Gate) → (cost_of (xs ++ ys)).ands ≡ (cost_of xs).ands + (cost_of ys).ands
ands_append [] ys = omega arith
ands_append (x ∷ xs) ys = let h = ands_append xs ys in omega arith

wides_append : (xs ys : List Gate) → (cost_of (xs ++ ys)).wides ≡ (cost_of xs).wides + (cost_of ys).wides
wides_append [] ys = omega arith
wides_append (x ∷ xs) ys = let h = wides_append xs ys in omega arith

-- what is built from variable n on has these gates, and a result of this shape
pub record Costs {A : Type 0} (n : ℕ) (r : Built A) (c : Cost) (Q : A → Type 0) : Type 0 where
  pub next : r.next ≡ n + gates_in c
  pub ands : (cost_of r.gates).ands ≡ c.ands
  pub wides : (cost_of r.gates).wides ≡ c.wides
  pub shape : Q r.out

abbrev pub Any : {A : Type 0} → A → Type 0
Any a = Unit {0}

pub costs_give : {A : Type 0} {n : ℕ} (a : A) {Q : A → Type 0} → Q a → Costs n (give a n) (cost 0 0) Q
unfolding give
costs_give a q = record { next = omega arith; ands = refl; wides = refl; shape = q }

pub costs_bind : {A B : Type 0} {n : ℕ} (m : Build A) (f : A → Build B) {x y : Cost} {Q : A → Type 0} {Q' : B → Type 0}
    → Costs n (m n) x Q → ((a : A) (k : ℕ) → Q a → Costs k (f a k) y Q') → Costs n ((m >>= f) n) (add_costs x y) Q'
unfolding ◌>>=◌
costs_bind {n = n} m f p h =
    let r = m n in
    let s = f r.out r.next in
    let q = h r.out r.next p.shape in
    record {
      next = omega (arith, p.next, q.next);
      ands = omega (arith, p.ands, q.ands, ands_append r.gates s.gates);
      wides = omega (arith, p.wides, q.wides, wides_append r.gates s.gates);
      shape = q.shape;
    }

-- the same cost, written otherwise
pub costs_same : {A : Type 0} {n : ℕ} {r : Built A} {x y : Cost} {Q : A → Type 0} → x.ands ≡ y.ands → x.wides ≡ y.wides → Costs n r x Q → Costs n r y Q
costs_same p q c = record { next = omega (arith, c.next); ands = c.ands ∙ p; wides = c.wides ∙ q; shape = c.shape }

pub and_costs : (a b : Literal) (n : ℕ) → Costs n (and! a b n) (cost 1 0) Any
unfolding and!
and_costs a b n = record { next = omega arith; ands = refl; wides = refl; shape = tt }

pub xor_costs : (a b : Literal) (n : ℕ) → Costs n (xor! a b n) (cost 0 1) Any
unfolding xor!
xor_costs a b n = record { next = omega arith; ands = refl; wides = refl; shape = tt }

pub mux_costs : (c a b : Literal) (n : ℕ) → Costs n (mux! c a b n) (cost 0 1) Any
unfolding mux!
mux_costs c a b n = record { next = omega arith; ands = refl; wides = refl; shape = tt }

pub or_costs : (a b : Literal) (n : ℕ) → Costs n (or! a b n) (cost 1 0) Any
unfolding or!
or_costs a b n = costs_bind _ _ (and_costs (negate a) (negate b) n) λ x k h. costs_give _ tt

pub sum_costs : (w : ℕ) (xs ys : Bits) (c : Literal) (n : ℕ) → length xs ≡ w → length ys ≡ w
    → Costs n (sum! xs ys c n) (cost (3 * w) (2 * w)) (λ r. length r.bits ≡ w)
unfolding sum!
sum_costs zero [] ys c n p q = costs_give _ refl
sum_costs zero (x ∷ xs) ys c n p q = absurd (omega arith)
sum_costs (suc w) [] ys c n p q = absurd (omega arith)
sum_costs (suc w) (x ∷ xs) [] c n p q = absurd (omega arith)
sum_costs (suc w) (x ∷ xs) (y ∷ ys) c n hx hy =
    costs_same (omega arith) (omega arith) (
    costs_bind _ _ (xor_costs x y n) λ p k₁ h₁.
    costs_bind _ _ (xor_costs p c k₁) λ s k₂ h₂.
    costs_bind _ _ (and_costs x y k₂) λ u k₃ h₃.
    costs_bind _ _ (and_costs p c k₃) λ t k₄ h₄.
    costs_bind _ _ (or_costs u t k₄) λ c' k₅ h₅.
    costs_bind _ _ (sum_costs w xs ys c' k₅ (omega arith) (omega arith)) λ r k₆ h₆.
    costs_give _ (ap suc h₆))

pub difference_costs : (w : ℕ) (xs ys : Bits) (n : ℕ) → length xs ≡ w → length ys ≡ w
    → Costs n (difference! xs ys n) (cost (3 * w) (2 * w)) (λ r. length r.bits ≡ w)
unfolding difference!
difference_costs w xs ys n p q = sum_costs w xs (map negate ys) true_literal n p (length_negate ys ∙ q)

-- whatever the constant, so many sums
pub product_costs : (w left c : ℕ) (xs partial : Bits) (n : ℕ) → length xs ≡ w → length partial ≡ w
    → Costs n (product! left c xs partial n) (cost (left * (3 * w)) (left * (2 * w))) (λ r. length r ≡ w)
unfolding product!
product_costs w zero c xs partial n p q = costs_same (omega arith) (omega arith) (costs_give _ q)
product_costs w (suc left) c xs partial n p q =
    let b = truth (c % 2) in
    costs_same (omega arith) (omega arith) (
    costs_bind _ _ (sum_costs w partial (addend b xs) false_literal n q (length_addend b xs ∙ p)) λ r k h.
    product_costs w left (c / 2) (shift false_literal xs) r.bits k (length_shift false_literal xs ∙ p) h)

pub less_costs : (w : ℕ) (xs ys : Bits) (n : ℕ) → length xs ≡ w → length ys ≡ w → Costs n (less! xs ys n) (cost (3 * w) (2 * w)) Any
unfolding less!
less_costs w xs ys n p q =
    costs_same (omega arith) (omega arith) (
    costs_bind _ _ (difference_costs w (negate_top xs) (negate_top ys) n (length_negate_top xs ∙ p) (length_negate_top ys ∙ q)) λ r k h. costs_give _ tt)

pub xors_costs : (w : ℕ) (xs ys : Bits) (n : ℕ) → length xs ≡ w → length ys ≡ w → Costs n (xors! xs ys n) (cost 0 w) (λ r. length r ≡ w)
unfolding xors!
xors_costs zero [] ys n p q = costs_give _ refl
xors_costs zero (x ∷ xs) ys n p q = absurd (omega arith)
xors_costs (suc w) [] ys n p q = absurd (omega arith)
xors_costs (suc w) (x ∷ xs) [] n p q = absurd (omega arith)
xors_costs (suc w) (x ∷ xs) (y ∷ ys) n p q =
    costs_same (omega arith) (omega arith) (
    costs_bind _ _ (xor_costs x y n) λ z k₁ h₁.
    costs_bind _ _ (xors_costs w xs ys k₁ (omega arith) (omega arith)) λ r k₂ h₂.
    costs_give _ (ap suc h₂))

pub chain_costs : (w : ℕ) (c : Literal) (xs : Bits) (n : ℕ) → length xs ≡ w → Costs n (chain! c xs n) (cost w 0) Any
unfolding chain!
chain_costs zero c [] n p = costs_give _ tt
chain_costs zero c (x ∷ xs) n p = absurd (omega arith)
chain_costs (suc w) c [] n p = absurd (omega arith)
chain_costs (suc w) c (x ∷ xs) n p =
    costs_same (omega arith) (omega arith) (costs_bind _ _ (and_costs c x n) λ y k h. chain_costs w y xs k (omega arith))

pub equal_costs : (w : ℕ) (xs ys : Bits) (n : ℕ) → length xs ≡ w → length ys ≡ w → Costs n (equal! xs ys n) (cost w w) Any
unfolding equal!
equal_costs w xs ys n p q =
    costs_same (omega arith) (omega arith) (
    costs_bind _ _ (xors_costs w xs ys n p q) λ r k h. chain_costs w true_literal (map negate r) k (length_negate r ∙ h))

abbrev pub Wide16 : Bits → Type 0
Wide16 r = length r ≡ 16

abbrev pub MarkedWide16 : WithMark Bits → Type 0
MarkedWide16 r = Wide16 r.result

-- where an expression marks: that a sum or difference passes the end, that a product does, and what each adds
pub sum_passes_costs : (r : Summed) (n : ℕ) → Costs n (sum_passes! r n) (cost 0 1) Any
unfolding sum_passes!
sum_passes_costs r n = xor_costs r.earlier r.carry n

pub product_passes_costs : (c : ℕ) (x : Bits) (n : ℕ) → Wide16 x → Costs n (product_passes! c x n) (cost (2 * 48 + 1) (2 * 32)) Any
unfolding product_passes!
product_passes_costs c x n h =
    let least = wrap (least_operand (signed c)) in
    let largest = wrap (largest_operand (signed c)) in
    costs_same (omega arith) (omega arith) (
    costs_bind _ _ (less_costs 16 x (constant_bits 16 least) n h (length_constant 16 least)) λ a k₁ h₁.
    costs_bind _ _ (less_costs 16 (constant_bits 16 largest) x k₁ (length_constant 16 largest) h) λ b k₂ h₂.
    or_costs a b k₂)

pub sum_mark_costs : (marks : Bool) (m : Literal) (r : Summed) (n : ℕ) → Costs n (mark! marks m (sum_passes! r) n) (sum_mark_cost marks) Any
unfolding mark!
sum_mark_costs false m r n = costs_give _ tt
sum_mark_costs true m r n = costs_bind _ _ (sum_passes_costs r n) λ x k h. or_costs m x k

pub product_mark_costs : (marks : Bool) (m : Literal) (c : ℕ) (x : Bits) (n : ℕ) → Wide16 x → Costs n (mark! marks m (product_passes! c x) n) (product_mark_cost marks) Any
unfolding mark!
product_mark_costs false m c x n h = costs_give _ tt
product_mark_costs true m c x n h = costs_bind _ _ (product_passes_costs c x n h) λ y k q. or_costs m y k

module _ (l : Layout) (s : Slots) where
  pub int_costs : (marks : Bool) (m : Literal) (e : IntExpr) (n : ℕ) → Costs n (int! marks l s m e n) (int_cost marks e) MarkedWide16
  unfolding int! int_cost
  int_costs marks m (constant c) n = costs_give _ (length_constant 16 c)
  int_costs marks m (variable v) n = costs_give _ (length_pad 16 (get_or s v []))
  int_costs marks m (status j) n = costs_give _ (length_pad 16 (get_or s (status_slot l j) []))
  int_costs marks m (sum a b) n =
      costs_same (omega arith) (omega arith) (
      costs_bind _ _ (int_costs marks m a n) λ x k₁ h₁.
      costs_bind _ _ (int_costs marks x.mark b k₁) λ y k₂ h₂.
      costs_bind _ _ (sum_costs 16 x.result y.result false_literal k₂ h₁ h₂) λ r k₃ h₃.
      costs_bind _ _ (sum_mark_costs marks y.mark r k₃) λ after k₄ h₄.
      costs_give _ h₃)
  int_costs marks m (difference a b) n =
      costs_same (omega arith) (omega arith) (
      costs_bind _ _ (int_costs marks m a n) λ x k₁ h₁.
      costs_bind _ _ (int_costs marks x.mark b k₁) λ y k₂ h₂.
      costs_bind _ _ (difference_costs 16 x.result y.result k₂ h₁ h₂) λ r k₃ h₃.
      costs_bind _ _ (sum_mark_costs marks y.mark r k₃) λ after k₄ h₄.
      costs_give _ h₃)
  int_costs marks m (product c a) n =
      costs_same (omega arith) (omega arith) (
      costs_bind _ _ (int_costs marks m a n) λ x k₁ h₁.
      costs_bind _ _ (product_costs 16 16 c x.result (constant_bits 16 0) k₁ h₁ (length_constant 16 0)) λ r k₂ h₂.
      costs_bind _ _ (product_mark_costs marks x.mark c x.result k₂ h₁) λ after k₃ h₃.
      costs_give _ h₂)

  pub bool_costs : (marks : Bool) (m : Literal) (e : BoolExpr) (n : ℕ) → Costs n (bool! marks l s m e n) (bool_cost marks e) Any
  unfolding bool! bool_cost
  bool_costs marks m (constant_b b) n = costs_give _ tt
  bool_costs marks m (variable_b v) n = costs_give _ tt
  bool_costs marks m (not_b a) n = costs_same (omega arith) (omega arith) (costs_bind _ _ (bool_costs marks m a n) λ x k h. costs_give _ tt)
  bool_costs marks m (and_b a b) n =
      costs_same (omega arith) (omega arith) (
      costs_bind _ _ (bool_costs marks m a n) λ x k₁ h₁.
      costs_bind _ _ (bool_costs marks x.mark b k₁) λ y k₂ h₂.
      costs_bind _ _ (and_costs x.result y.result k₂) λ r k₃ h₃.
      costs_give _ tt)
  bool_costs marks m (or_b a b) n =
      costs_same (omega arith) (omega arith) (
      costs_bind _ _ (bool_costs marks m a n) λ x k₁ h₁.
      costs_bind _ _ (bool_costs marks x.mark b k₁) λ y k₂ h₂.
      costs_bind _ _ (or_costs x.result y.result k₂) λ r k₃ h₃.
      costs_give _ tt)
  bool_costs marks m (equal a b) n =
      costs_same (omega arith) (omega arith) (
      costs_bind _ _ (int_costs marks m a n) λ x k₁ h₁.
      costs_bind _ _ (int_costs marks x.mark b k₁) λ y k₂ h₂.
      costs_bind _ _ (equal_costs 16 x.result y.result k₂ h₁ h₂) λ r k₃ h₃.
      costs_give _ tt)
  bool_costs marks m (less a b) n =
      costs_same (omega arith) (omega arith) (
      costs_bind _ _ (int_costs marks m a n) λ x k₁ h₁.
      costs_bind _ _ (int_costs marks x.mark b k₁) λ y k₂ h₂.
      costs_bind _ _ (less_costs 16 x.result y.result k₂ h₁ h₂) λ r k₃ h₃.
      costs_give _ tt)

  pub test_costs : (e : BoolExpr) (n : ℕ) → Costs n (test! l s e n) (bool_cost false e) Any
  unfolding test!
  test_costs e n = costs_same (omega arith) (omega arith) (costs_bind _ _ (bool_costs false false_literal e n) λ x k h. costs_give _ tt)

  pub status_and_event_costs : (m st : ℕ) (event : BoolExpr) (n : ℕ) → Costs n (status_and_event! l s m st event n) (status_and_event_cost event) Any
  unfolding status_and_event!
  status_and_event_costs m st event n =
      costs_same (omega arith) (omega arith) (
      costs_bind _ _ (equal_costs 16 (integer_at s (status_slot l m)) (constant_bits 16 st) n (length_pad 16 (get_or s (status_slot l m) [])) (length_constant 16 st)) λ x k₁ h₁.
      costs_bind _ _ (test_costs event k₁) λ y k₂ h₂.
      and_costs x y k₂)

  pub no_invalid_costs : (ps : List InvalidCell) (c : Literal) (n : ℕ) → Costs n (no_invalid! l s c ps n) (invalid_cost ps) Any
  unfolding no_invalid! invalid_cost
  no_invalid_costs [] c n = costs_give _ tt
  no_invalid_costs (p ∷ ps) c n =
      costs_same (omega arith) (omega arith) (
      costs_bind _ _ (status_and_event_costs p.matrix p.status p.event n) λ x k₁ h₁.
      costs_bind _ _ (and_costs c (negate x) k₁) λ y k₂ h₂.
      no_invalid_costs ps y k₂)

pub mux_bits_costs : (w : ℕ) (c : Literal) (xs ys : Bits) (n : ℕ) → length xs ≡ w → length ys ≡ w → Costs n (mux_bits! c xs ys n) (cost 0 w) (λ r. length r ≡ w)
unfolding mux_bits!
mux_bits_costs zero c [] ys n p q = costs_give _ refl
mux_bits_costs zero c (x ∷ xs) ys n p q = absurd (omega arith)
mux_bits_costs (suc w) c [] ys n p q = absurd (omega arith)
mux_bits_costs (suc w) c (x ∷ xs) [] n p q = absurd (omega arith)
mux_bits_costs (suc w) c (x ∷ xs) (y ∷ ys) n p q =
    costs_same (omega arith) (omega arith) (
    costs_bind _ _ (mux_costs c x y n) λ z k₁ h₁.
    costs_bind _ _ (mux_bits_costs w c xs ys k₁ (omega arith) (omega arith)) λ r k₂ h₂.
    costs_give _ (ap suc h₂))

pub muxes_costs : (ws : List ℕ) (c : Literal) (s u : Slots) (n : ℕ) → map length s ≡ ws → map length u ≡ ws
    → Costs n (muxes! c s u n) (cost 0 (total ws)) (λ r. map length r ≡ ws)
unfolding muxes!
muxes_costs [] c [] u n p q = costs_give _ refl
muxes_costs [] c (x ∷ xs) u n p q = absurd (omega (arith, ap length p))
muxes_costs (w ∷ ws) c [] u n p q = absurd (omega (arith, ap length p))
muxes_costs (w ∷ ws) c (x ∷ xs) [] n p q = absurd (omega (arith, ap length q))
muxes_costs (w ∷ ws) c (x ∷ xs) (y ∷ ys) n p q =
    costs_same (omega arith) (omega arith) (
    costs_bind _ _ (mux_bits_costs w c x y n (head_eq p) (head_eq q)) λ z k₁ h₁.
    costs_bind _ _ (muxes_costs ws c xs ys k₁ (tail_eq p) (tail_eq q)) λ r k₂ h₂.
    costs_give _ (ap₂ ◌∷◌ h₁ h₂))

module _ (ws : List ℕ) (l : Layout) where
  -- a state in literals has the slots' widths
  abbrev pub Wide : Slots → Type 0
  Wide s = map length s ≡ ws

  pub set_wide : (s : Slots) (v : ℕ) (x : Bits) → Wide s → length x ≡ get_or ws v 0 → Wide (set s v x)
  set_wide s v x f e = map_set length s v x ∙ ap₂ (λ l y. set l v y) f e ∙ set-get_or ws v 0

  pub with_mark_wide : HasMark ws l → (s : Slots) (m : Literal) → Wide s → Wide (with_mark l m s)
  with_mark_wide mark s m f = set_wide s l.mark (m ∷ []) f (sym mark.width)

  module _ (mark : HasMark ws l) where
    mutual
      unfolding statement! statement_cost

      pub statement_costs : (x : Stmt) (s : Slots) (n : ℕ) → Wide s → StmtOk ws l x → Costs n (statement! x l s n) (statement_cost x (total ws)) Wide
      statement_costs (assign v e) s n f k =
          costs_same (omega arith) (omega arith) (
          costs_bind _ _ (int_costs l s true (mark_at l s) e n) λ x k₁ h₁.
          costs_give _ (set_wide (with_mark l x.mark s) v x.result (with_mark_wide mark s x.mark f) (h₁ ∙ sym k.0.width)))
      statement_costs (assign_b v e) s n f k =
          costs_same (omega arith) (omega arith) (
          costs_bind _ _ (bool_costs l s true (mark_at l s) e n) λ x k₁ h₁.
          costs_give _ (set_wide (with_mark l x.mark s) v (x.result ∷ []) (with_mark_wide mark s x.mark f) (sym k.0.width)))
      statement_costs (if_else c a b) s n f k =
          costs_same (omega arith) (omega arith) (
          costs_bind _ _ (bool_costs l s true (mark_at l s) c n) λ x k₁ h₁.
          let g = with_mark_wide mark s x.mark f in
          costs_bind _ _ (statements_costs a (with_mark l x.mark s) k₁ g k.1) λ y k₂ h₂.
          costs_bind _ _ (statements_costs b (with_mark l x.mark s) k₂ g k.2) λ z k₃ h₃.
          muxes_costs ws x.result y z k₃ h₂ h₃)

      pub statements_costs : (xs : Stmts) (s : Slots) (n : ℕ) → Wide s → StmtsOk ws l xs → Costs n (statements! xs l s n) (statements_cost xs (total ws)) Wide
      statements_costs done s n f k = costs_give _ f
      statements_costs (then x xs) s n f k = costs_bind _ _ (statement_costs x s n f k.0) λ s' k₁ h₁. statements_costs xs s' k₁ h₁ k.1

  module _ (s : Slots) where
    pub enable_costs : (m : Mover) (n : ℕ) → Costs n (enable! l s m n) (enable_cost m) Any
    unfolding enable! enable_cost
    enable_costs (cell c) n =
        costs_same (omega arith) (omega arith) (
        costs_bind _ _ (status_and_event_costs l s c.matrix c.status c.event n) λ x k₁ h₁.
        costs_bind _ _ (test_costs l s c.guard k₁) λ y k₂ h₂.
        and_costs x y k₂)
    enable_costs (raise v) n = costs_give _ tt

  module _ (mark : HasMark ws l) (s : Slots) (f : Wide s) where
    pub effect_costs : (m : Mover) (n : ℕ) → MoverOk ws l m → Costs n (effect! l s m n) (effect_cost (total ws) m) Wide
    unfolding effect! effect_cost
    effect_costs (cell c) n k =
        costs_same (omega arith) (omega arith) (
        costs_bind _ _ (statements_costs mark c.action s n f k.action) λ r k₁ h₁.
        costs_give _ (set_wide r (status_slot l c.matrix) (constant_bits status_width c.target) h₁ (length_constant status_width c.target ∙ sym k.matrix.width)))
    effect_costs (raise v) n k = costs_give _ (set_wide s v (true_literal ∷ []) f (sym k.width))

    pub mover_costs : (m : Mover) (n : ℕ) → MoverOk ws l m → Costs n (mover! l s m n) (mover_cost (total ws) m) Wide
    unfolding mover! mover_cost
    mover_costs m n k =
        costs_same (omega arith) (omega arith) (
        costs_bind _ _ (enable_costs s m n) λ e k₁ h₁.
        costs_bind _ _ (effect_costs m k₁ k) λ r k₂ h₂.
        muxes_costs ws e r s k₂ h₂ f)

    pub movers_costs : (ms : List Mover) (n : ℕ) → MoversOk ws l ms → Costs n (movers! l s ms n) (movers_cost (total ws) ms) (λ rs. length rs ≡ length ms)
    unfolding movers! movers_cost
    movers_costs [] n k = costs_give _ refl
    movers_costs (m ∷ ms) n k =
        costs_same (omega arith) (omega arith) (
        costs_bind _ _ (mover_costs m n k.0) λ r k₁ h₁.
        costs_bind _ _ (movers_costs ms k₁ k.1) λ rs k₂ h₂.
        costs_give _ (ap suc h₂))

-- a property ends in an and with the mark's negation
pub unmarked_costs : (d : Design) (s : Slots) (property : Build Literal) (n : ℕ) {c : Cost} → Costs n (property n) c Any → Costs n (unmarked! d s property n) (add_costs c (cost 1 0)) Any
unfolding unmarked!
unmarked_costs d s property n h = costs_bind _ _ h λ x k q. and_costs x (negate (mark_at (layout d) s)) k

pub property_costs : (d : Design) (p : Property) (s : Slots) (n : ℕ) → Costs n (property! d p s n) (property_cost d p) Any
unfolding property! property_cost
property_costs d (invariant e) s n = unmarked_costs d s _ n (test_costs (layout d) s e n)
property_costs d no_invalid_cell s n = unmarked_costs d s _ n (no_invalid_costs (layout d) s d.invalid true_literal n)
property_costs d (constraint e) s n = costs_give _ tt

pub step_property_costs : (d : Design) (p : Property) (s next : Slots) (n : ℕ) → Costs n (step_property! d p s next n) (step_property_cost p) Any
unfolding step_property! step_property_cost
step_property_costs d (invariant e) s next n = costs_give _ tt
step_property_costs d no_invalid_cell s next n = costs_give _ tt
step_property_costs d (constraint e) s next n = unmarked_costs d next _ n (test_costs (layout d) (s ++ next) e n)

pub step_costs : (d : Design) → WellFormed d → (s : Slots) (n : ℕ) → map length s ≡ widths d → Costs n (step! d s n) (movers_cost (S d) (movers d)) (λ rs. length rs ≡ length (movers d))
unfolding step! S
step_costs d wf s n f = movers_costs (widths d) (layout d) wf.mark s f (movers d) n wf.movers

-- gates, clauses and words of gates, by their cost
pub gates_counted : (gs : List Gate) → length gs ≡ gates_in (cost_of gs)
gates_counted [] = refl
gates_counted (and g a b ∷ gs) = let h = gates_counted gs in omega arith
gates_counted (xor g a b ∷ gs) = let h = gates_counted gs in omega arith
gates_counted (mux g c a b ∷ gs) = let h = gates_counted gs in omega arith

pub clauses_counted : (gs : List Gate) → length (gates_clauses gs) ≡ clauses_in (cost_of gs)
clauses_counted [] = refl
clauses_counted (and g a b ∷ gs) = let h = clauses_counted gs in omega arith
clauses_counted (xor g a b ∷ gs) = let h = clauses_counted gs in omega arith
clauses_counted (mux g c a b ∷ gs) = let h = clauses_counted gs in omega arith

pub words_counted : (gs : List Gate) → length (words (gates_clauses gs)) ≡ words_in (cost_of gs)
words_counted [] = refl
words_counted (and g a b ∷ gs) = let h = words_counted gs in omega arith
words_counted (xor g a b ∷ gs) = let h = words_counted gs in omega arith
words_counted (mux g c a b ∷ gs) = let h = words_counted gs in omega arith
