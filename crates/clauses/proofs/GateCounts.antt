-- Gates over the bytes: the answers of the operands make the answer of the whole.
use Rattle.std.proofs.Common.{◌≡◌, ℕ, ◌+◌, ◌-◌, ◌<◌, ◌≤◌, Bool, true, false, cond, eqb, ◌⊎◌, List, get_or, sym, refl, ap, ◌∙◌, ap₂, inl, inr, ⊎_elim, eq-or-lt_of_le, arith, eq-eqb, ne_eqb}
use mathlib.Core.Bool.{false≢true}
use Rattle.design.specs.Tree.{IntExpr, BoolExpr, sum, difference, product, not_b, and_b, or_b, equal, less}
use Rattle.design.specs.Reading.{Read, got, bad, bind}
use Rattle.design.specs.DesignFile.{at16}
use Rattle.design.specs.Expression.{Names, int_expr, bool_expr}
use Rattle.step.specs.Accepted.{is_read, past}
use Rattle.step.proofs.Accepted.{two, three}
use Rattle.step.proofs.Values.{arithmetic_of, logic_of, compare_of, integer_byte, status_byte, boolean_byte, int_forward, bool_forward, i_two, i_product, product_first, b_one, b_logic, b_compare, int_constant, int_variable, int_status, bool_constant, bool_variable, int_second, logic_second, compare_second}
use Rattle.clauses.specs.Cost.{Cost, cost, add_costs, sum_cost, product_cost, equal_cost, sum_mark_cost, product_mark_cost, int_cost, bool_cost}
use Rattle.clauses.specs.FrameSizes.{gates_at, both, more, both_with, more_with}
use Rattle.clauses.specs.declared.cost.GatesAt.{GatesAt}

abbrev pub gates : ℕ → ℕ → ℕ → GatesAt
gates x y n = record { ands = x; wides = y; next = n }

pub gates_past : {A : Type 0} (f : A → Cost) (x : Read A) (r : GatesAt) → r ≡ gates_at f x → r.next ≡ past x
gates_past f (got a n) r e = ap (λ (z : GatesAt). z.next) e
gates_past f bad r e = ap (λ (z : GatesAt). z.next) e

-- what has no gates
pub no_gates_lem : {A : Type 0} (f : A → Cost) (x : Read A) (a : A) (n m : ℕ) → x ≡ got a n → f a ≡ cost 0 0 → m ≡ n → gates 0 0 m ≡ gates_at f x
no_gates_lem f x a n m e p q = ap₂ (λ (c : Cost) (j : ℕ). gates c.ands c.wides j) (sym p) q ∙ sym (ap (gates_at f) e)

-- one operand, which has all the gates
module _ {A C : Type 0} (f : A → C) (c_a : A → Cost) (c_c : C → Cost) (law : (a : A) → c_c (f a) ≡ c_a a) where
  pub one_gates : (x : Read A) → gates_at c_a x ≡ gates_at c_c (bind x (λ a n. got (f a) n))
  one_gates (got a n) = ap (λ (c : Cost). gates c.ands c.wides n) (sym (law a))
  one_gates bad = refl

-- one operand, and so many gates more
module _ {A C : Type 0} (f : A → C) (c_a : A → Cost) (c_c : C → Cost) (u v : ℕ) (law : (a : A) → c_c (f a) ≡ add_costs (c_a a) (cost u v)) where
  pub more_gates : (x : Read A) → is_read (bind x (λ a n. got (f a) n)) ≡ true → (r : GatesAt) → r ≡ gates_at c_a x → more r u v ≡ gates_at c_c (bind x (λ a n. got (f a) n))
  more_gates (got a n) h r e = ap (λ (y : GatesAt). more y u v) e ∙ ap (λ (c : Cost). gates c.ands c.wides n) (sym (law a))
  more_gates bad h r e = absurd (false≢true h)

-- two operands, and so many gates more
module _ {A B C : Type 0} (f : A → B → C) (c_a : A → Cost) (c_b : B → Cost) (c_c : C → Cost) (u v : ℕ) (law : (a : A) (b : B) → c_c (f a b) ≡ add_costs (add_costs (c_a a) (c_b b)) (cost u v)) where
  join_second : (a : A) (m : ℕ) (y : Read B) → is_read (bind y (λ b n. got (f a b) n)) ≡ true → both (gates_at c_a (got a m)) (gates_at c_b y) u v ≡ gates_at c_c (bind y (λ b n. got (f a b) n))
  join_second a m (got b n) h = ap (λ (c : Cost). gates c.ands c.wides n) (sym (law a b))
  join_second a m bad h = absurd (false≢true h)

  join_both : (x : Read A) (q : ℕ → Read B) → is_read (two f x q) ≡ true → both (gates_at c_a x) (gates_at c_b (q (gates_at c_a x).next)) u v ≡ gates_at c_c (two f x q)
  join_both (got a m) q h = join_second a m (q m) h
  join_both bad q h = absurd (false≢true h)

  pub two_gates : (x : Read A) (q : ℕ → Read B) → is_read (two f x q) ≡ true → (r s : GatesAt) → r ≡ gates_at c_a x → s ≡ gates_at c_b (q r.next) → both r s u v ≡ gates_at c_c (two f x q)
  two_gates x q h r s e k =
      ap₂ (λ (y z : GatesAt). both y z u v) e (k ∙ ap (λ (y : GatesAt). gates_at c_b (q y.next)) e) ∙ join_both x q h

-- three operands, and so many gates more
module _ {A B C : Type 0} (f : A → B → B → C) (c_a : A → Cost) (c_b : B → Cost) (c_c : C → Cost) (u v : ℕ) (law : (a : A) (b c : B) → c_c (f a b c) ≡ add_costs (add_costs (add_costs (c_a a) (c_b b)) (c_b c)) (cost u v)) where
  join_third : (a : A) (b : B) (m n : ℕ) (z : Read B) → is_read (bind z (λ c j. got (f a b c) j)) ≡ true
      → both (both (gates_at c_a (got a m)) (gates_at c_b (got b n)) 0 0) (gates_at c_b z) u v ≡ gates_at c_c (bind z (λ c j. got (f a b c) j))
  join_third a b m n (got c j) h =
      let p : (c_a a).ands + (c_b b).ands + 0 + (c_b c).ands + u ≡ (c_a a).ands + (c_b b).ands + (c_b c).ands + u = omega arith in
      let q : (c_a a).wides + (c_b b).wides + 0 + (c_b c).wides + v ≡ (c_a a).wides + (c_b b).wides + (c_b c).wides + v = omega arith in
      ap₂ (λ (x y : ℕ). gates x y j) p q ∙ ap (λ (k : Cost). gates k.ands k.wides j) (sym (law a b c))
  join_third a b m n bad h = absurd (false≢true h)

  join_rest : (a : A) (m : ℕ) (y : Read B) (q : ℕ → Read B) → is_read (two (f a) y q) ≡ true
      → both (both (gates_at c_a (got a m)) (gates_at c_b y) 0 0) (gates_at c_b (q (gates_at c_b y).next)) u v ≡ gates_at c_c (two (f a) y q)
  join_rest a m (got b n) q h = join_third a b m n (q n) h
  join_rest a m bad q h = absurd (false≢true h)

  join_all : (x : Read A) (q : ℕ → Read B) → is_read (three f x q) ≡ true
      → both (both (gates_at c_a x) (gates_at c_b (q (gates_at c_a x).next)) 0 0) (gates_at c_b (q (gates_at c_b (q (gates_at c_a x).next)).next)) u v ≡ gates_at c_c (three f x q)
  join_all (got a m) q h = join_rest a m (q m) q h
  join_all bad q h = absurd (false≢true h)

  pub three_gates : (x : Read A) (q : ℕ → Read B) → is_read (three f x q) ≡ true → (r s t : GatesAt) → r ≡ gates_at c_a x → s ≡ gates_at c_b (q r.next) → t ≡ gates_at c_b (q s.next)
      → both (both r s 0 0) t u v ≡ gates_at c_c (three f x q)
  three_gates x q h r s t e k w =
      let k' : s ≡ gates_at c_b (q (gates_at c_a x).next) = k ∙ ap (λ (y : GatesAt). gates_at c_b (q y.next)) e in
      let w' : t ≡ gates_at c_b (q (gates_at c_b (q (gates_at c_a x).next)).next) = w ∙ ap (λ (y : GatesAt). gates_at c_b (q y.next)) k' in
      ap₂ (λ (y z : GatesAt). both y z u v) (ap₂ (λ (y z : GatesAt). both y z 0 0) e k') w' ∙ join_all x q h

-- the costs of the operators; `marks` says whether the expression marks
module _ (marks : Bool) where
  arithmetic_cost : (t : Bool) (a b : IntExpr) → int_cost marks (cond t sum difference a b) ≡ add_costs (add_costs (int_cost marks a) (int_cost marks b)) (add_costs sum_cost (sum_mark_cost marks))
  unfolding int_cost
  arithmetic_cost true a b = refl
  arithmetic_cost false a b = refl

  product_cost_lem : (c : ℕ) (a : IntExpr) → int_cost marks (product c a) ≡ add_costs (int_cost marks a) (add_costs product_cost (product_mark_cost marks))
  unfolding int_cost
  product_cost_lem c a = refl

  logic_cost : (t : Bool) (a b : BoolExpr) → bool_cost marks (cond t and_b or_b a b) ≡ add_costs (add_costs (bool_cost marks a) (bool_cost marks b)) (cost 1 0)
  unfolding bool_cost
  logic_cost true a b = refl
  logic_cost false a b = refl

  compare_cost : (t : Bool) (u v : ℕ) → cost u v ≡ cond t equal_cost sum_cost → (a b : IntExpr)
      → bool_cost marks (cond t equal less a b) ≡ add_costs (add_costs (int_cost marks a) (int_cost marks b)) (cost u v)
  unfolding bool_cost
  compare_cost true u v e a b = ap (add_costs (add_costs (int_cost marks a) (int_cost marks b))) (sym e)
  compare_cost false u v e a b = ap (add_costs (add_costs (int_cost marks a) (int_cost marks b))) (sym e)

one_of_two : (b k : ℕ) → k ≤ b → b < k + 2 → (b ≡ k) ⊎ (b ≡ k + 1)
one_of_two b k p q = ⊎_elim (λ e. inl (sym e)) (λ l. inr (omega arith)) (eq-or-lt_of_le p)

status_byte_lem : (next : Bool) → integer_byte next + 1 ≡ status_byte next
status_byte_lem true = refl
status_byte_lem false = refl

module _ (text : List ℕ) (N : Names) (end d at : ℕ) where
  abbrev I : ℕ → ℕ → Read IntExpr
  I k p = int_expr text N end k p

  abbrev B : ℕ → ℕ → Read BoolExpr
  B k p = bool_expr text N end k p

  abbrev op : ℕ
  op = get_or text at 0

  -- a leaf that ends at n; it has no gates, whether the expression marks or not
  abbrev IntLeaf : ℕ → Type 0
  IntLeaf n = (n ≤ end) × ((marks : Bool) → gates 0 0 n ≡ gates_at (int_cost marks) (I d at))

  abbrev BoolLeaf : ℕ → Type 0
  BoolLeaf n = (n ≤ end) × ((marks : Bool) → gates 0 0 n ≡ gates_at (bool_cost marks) (B d at))

  module _ (h : is_read (I d at) ≡ true) where
    pub int_next : (marks : Bool) (r : GatesAt) → r ≡ gates_at (int_cost marks) (I d at) → at ≤ r.next
    int_next marks r e = int_forward text N end d at r.next h (gates_past (int_cost marks) (I d at) r e)

    pub int_number : op ≡ 0x01 → IntLeaf (at + 3)
    unfolding int_cost
    int_number e = let k = int_constant text N end d at h e in (omega (arith, k.0), λ marks. no_gates_lem (int_cost marks) (I d at) _ _ (at + 3) k.1 refl (omega arith))

    -- an integer or a status, of the state or of the next one
    pub int_name : (next : Bool) → integer_byte next ≤ op → op < integer_byte next + 2 → IntLeaf (at + 2)
    unfolding int_cost
    int_name next p q =
        ⊎_elim
        (λ e. let k = int_variable text N end d at h next e in (omega (arith, k.0), λ marks. no_gates_lem (int_cost marks) (I d at) _ _ (at + 2) k.2 refl (omega arith)))
        (λ e. let k = int_status text N end d at h next (e ∙ status_byte_lem next) in (omega (arith, k.0), λ marks. no_gates_lem (int_cost marks) (I d at) _ _ (at + 2) k.2 refl (omega arith)))
        (one_of_two op (integer_byte next) p q)

    -- a product: its operand, and its own gates
    module _ (e : op ≡ 0x08) where
      pub product_inside : at + 3 ≤ end
      product_inside = omega (arith, (i_product text N end d at h e).0)

      behind : at + 1 + 2 ≡ at + 3
      behind = omega arith

      pub product_operand : is_read (I (d - 1) (at + 3)) ≡ true
      product_operand = ap (λ (j : ℕ). is_read (I (d - 1) j)) (sym behind) ∙ product_first text N end d at h e

      pub product_joined : (marks : Bool) (r : GatesAt) → r ≡ gates_at (int_cost marks) (I (d - 1) (at + 3)) → more_with r (add_costs product_cost (product_mark_cost marks)) ≡ gates_at (int_cost marks) (I d at)
      product_joined marks r l =
          let q = (i_product text N end d at h e).1 in
          let p : r ≡ gates_at (int_cost marks) (I (d - 1) (at + 1 + 2)) = l ∙ ap (λ (j : ℕ). gates_at (int_cost marks) (I (d - 1) j)) (sym behind) in
          more_gates (product (at16 text (at + 1))) (int_cost marks) (int_cost marks) _ _ (product_cost_lem marks (at16 text (at + 1))) (I (d - 1) (at + 1 + 2)) (sym (ap is_read q) ∙ h) r p ∙ sym (ap (gates_at (int_cost marks)) q)

    pub int_then : (marks : Bool) (lo : 0x04 ≤ op) (hi : op < 0x06) (r : GatesAt) → r ≡ gates_at (int_cost marks) (I (d - 1) (at + 1)) → is_read (I (d - 1) r.next) ≡ true
    int_then marks lo hi r e = int_second text N end d at h lo hi r.next (gates_past (int_cost marks) (I (d - 1) (at + 1)) r e)

    pub int_joined : (marks : Bool) (lo : 0x04 ≤ op) (hi : op < 0x06) (r s : GatesAt) → r ≡ gates_at (int_cost marks) (I (d - 1) (at + 1)) → s ≡ gates_at (int_cost marks) (I (d - 1) r.next) → both_with r s (add_costs sum_cost (sum_mark_cost marks)) ≡ gates_at (int_cost marks) (I d at)
    int_joined marks lo hi r s e k =
        let q = i_two text N end d at h lo hi in
        two_gates (arithmetic_of op) (int_cost marks) (int_cost marks) (int_cost marks) _ _ (arithmetic_cost marks (eqb op 0x04)) (I (d - 1) (at + 1)) (I (d - 1)) (sym (ap is_read q) ∙ h) r s e k ∙ sym (ap (gates_at (int_cost marks)) q)

  module _ (h : is_read (B d at) ≡ true) where
    pub bool_next : (marks : Bool) (r : GatesAt) → r ≡ gates_at (bool_cost marks) (B d at) → at ≤ r.next
    bool_next marks r e = bool_forward text N end d at r.next h (gates_past (bool_cost marks) (B d at) r e)

    -- a Boolean, of the state or of the next one
    pub bool_slot : (next : Bool) → op ≡ boolean_byte next → BoolLeaf (at + 2)
    unfolding bool_cost
    bool_slot next e = let k = bool_variable text N end d at h next e in (omega (arith, k.0), λ marks. no_gates_lem (bool_cost marks) (B d at) _ _ (at + 2) k.2 refl (omega arith))

    pub bool_name : 0x10 ≤ op → op < 0x12 → BoolLeaf (at + 2)
    unfolding bool_cost
    bool_name p q =
        ⊎_elim
        (λ e. let k = bool_constant text N end d at h e in (omega (arith, k.0), λ marks. no_gates_lem (bool_cost marks) (B d at) _ _ (at + 2) k.1 refl (omega arith)))
        (bool_slot false)
        (one_of_two op 0x10 p q)

    pub bool_negated : (marks : Bool) → op ≡ 0x12 → (r : GatesAt) → r ≡ gates_at (bool_cost marks) (B (d - 1) (at + 1)) → r ≡ gates_at (bool_cost marks) (B d at)
    unfolding bool_cost
    bool_negated marks e r k = k ∙ one_gates not_b (bool_cost marks) (bool_cost marks) (λ a. refl) (B (d - 1) (at + 1)) ∙ sym (ap (gates_at (bool_cost marks)) (b_one text N end d at h e))

    pub bool_then : (marks : Bool) (lo : 0x13 ≤ op) (hi : op < 0x15) (r : GatesAt) → r ≡ gates_at (bool_cost marks) (B (d - 1) (at + 1)) → is_read (B (d - 1) r.next) ≡ true
    bool_then marks lo hi r e = logic_second text N end d at h lo hi r.next (gates_past (bool_cost marks) (B (d - 1) (at + 1)) r e)

    pub bool_joined : (marks : Bool) (lo : 0x13 ≤ op) (hi : op < 0x15) (r s : GatesAt) → r ≡ gates_at (bool_cost marks) (B (d - 1) (at + 1)) → s ≡ gates_at (bool_cost marks) (B (d - 1) r.next) → both r s 1 0 ≡ gates_at (bool_cost marks) (B d at)
    bool_joined marks lo hi r s e k =
        let q = b_logic text N end d at h lo hi in
        two_gates (logic_of op) (bool_cost marks) (bool_cost marks) (bool_cost marks) 1 0 (logic_cost marks (eqb op 0x13)) (B (d - 1) (at + 1)) (B (d - 1)) (sym (ap is_read q) ∙ h) r s e k ∙ sym (ap (gates_at (bool_cost marks)) q)

    pub compare_then : (marks : Bool) (lo : 0x15 ≤ op) (hi : op < 0x17) (r : GatesAt) → r ≡ gates_at (int_cost marks) (I (d - 1) (at + 1)) → is_read (I (d - 1) r.next) ≡ true
    compare_then marks lo hi r e = compare_second text N end d at h lo hi r.next (gates_past (int_cost marks) (I (d - 1) (at + 1)) r e)

    module _ (marks : Bool) (lo : 0x15 ≤ op) (hi : op < 0x17) (r s : GatesAt) (e : r ≡ gates_at (int_cost marks) (I (d - 1) (at + 1))) (k : s ≡ gates_at (int_cost marks) (I (d - 1) r.next)) where
      compared : (u v : ℕ) → cost u v ≡ cond (eqb op 0x15) equal_cost sum_cost → both r s u v ≡ gates_at (bool_cost marks) (B d at)
      compared u v c =
          let q = b_compare text N end d at h lo hi in
          two_gates (compare_of op) (int_cost marks) (int_cost marks) (bool_cost marks) u v (compare_cost marks (eqb op 0x15) u v c) (I (d - 1) (at + 1)) (I (d - 1)) (sym (ap is_read q) ∙ h) r s e k ∙ sym (ap (gates_at (bool_cost marks)) q)

      pub equal_joined : op ≡ 0x15 → both r s 16 16 ≡ gates_at (bool_cost marks) (B d at)
      equal_joined q = compared 16 16 (rw (eq-eqb op 0x15 q))

      pub less_joined : (op ≡ 0x15 → ⊥) → both r s 48 32 ≡ gates_at (bool_cost marks) (B d at)
      less_joined q = compared 48 32 (rw (ne_eqb op 0x15 q))
