-- What an accepted expression is by its operator byte, and its value by those of its operands. Assumes nothing.
use Rattle.std.proofs.Common.{◌≡◌, ℕ, zero, suc, ◌+◌, ◌-◌, ◌*◌, ◌<◌, ◌≤◌, Bool, true, false, cond, not, ◌&&◌, ◌||◌, eqb, ltb, leb, ◌⊎◌, List, get_or, ◌+ℤ◌, ◌-ℤ◌, ◌*ℤ◌, sym, refl, ap, ◌∙◌, subst, ap₂, inl, inr, ⊎_elim, eq-or-lt_of_le, arith, ltb-true, lt-ltb, leb-true}
use mathlib.Core.Bool.{false≢true}
use Rattle.design.specs.Tree.{IntExpr, BoolExpr, constant, variable, status, sum, difference, product, constant_b, variable_b, not_b, and_b, or_b, equal, less, truth}
use Rattle.design.specs.State.{State, Layout, slot_count}
use Rattle.design.specs.Reading.{Read, got, bad, bind}
use Rattle.design.specs.DesignFile.{at16}
use Rattle.design.specs.Check.{names_of}
use Rattle.design.specs.Expression.{Names, with_later, IntOp, BoolOp, int_op, bool_op, legal, numbered, int_of, bool_of, int_expr, bool_expr}
use Rattle.design.specs.declared.shape.Shape.{Shape}
use Rattle.design.proofs.Forward.{int_on, bool_on}
use Rattle.design.proofs.Readers.{int_step, int_none, bool_step, bool_none}
use Rattle.step.specs.Pattern.{plus, minus, times, below, signed, outside}
use Rattle.step.specs.Evaluation.{eval_int, eval_bool, passes_int, passes_bool}
use Rattle.step.specs.Accepted.{slots_needed, is_read, past, value_of, int_value, bool_value, int_passes, bool_passes}
use Rattle.step.proofs.Accepted.{read_found, provided_read, bind_read, one_first, one_past, one_value, two, two_first, two_second, two_past, two_value, both_value}

one_of_two : (b k : ℕ) → k ≤ b → b < k + 2 → (b ≡ k) ⊎ (b ≡ k + 1)
one_of_two b k p q = ⊎_elim (λ e. inl (sym e)) (λ l. inr (omega arith)) (eq-or-lt_of_le p)

-- a number read as a Boolean
pub truth_test : (n : ℕ) → ltb 0 n ≡ truth n
truth_test zero = refl
truth_test (suc n) = lt-ltb 0 (suc n) (omega arith)

-- the operators that name a slot, of the state or of the next one: an integer, a status, a Boolean
abbrev pub integer_byte : Bool → ℕ
integer_byte next = cond next 0x06 0x02

abbrev pub status_byte : Bool → ℕ
status_byte next = cond next 0x07 0x03

abbrev pub boolean_byte : Bool → ℕ
boolean_byte next = cond next 0x17 0x11

op_integer : (next : Bool) → int_op (integer_byte next) ≡ IntOp.op_variable next
unfolding int_op
op_integer true = refl
op_integer false = refl

op_status : (next : Bool) → int_op (status_byte next) ≡ IntOp.op_status next
unfolding int_op
op_status true = refl
op_status false = refl

op_boolean : (next : Bool) → bool_op (boolean_byte next) ≡ BoolOp.op_variable next
unfolding bool_op
op_boolean true = refl
op_boolean false = refl

-- the operators with two operands, by the byte
abbrev pub arithmetic_of : ℕ → IntExpr → IntExpr → IntExpr
arithmetic_of b = cond (eqb b 0x04) sum difference

abbrev pub logic_of : ℕ → BoolExpr → BoolExpr → BoolExpr
logic_of b = cond (eqb b 0x13) and_b or_b

abbrev pub compare_of : ℕ → IntExpr → IntExpr → BoolExpr
compare_of b = cond (eqb b 0x15) equal less

op_arithmetic : (b : ℕ) → 0x04 ≤ b → b < 0x06 → int_op b ≡ IntOp.op_ints (arithmetic_of b)
unfolding int_op
op_arithmetic b p q = ⊎_elim (λ (e : b ≡ 0x04). subst (λ (j : ℕ). int_op j ≡ IntOp.op_ints (arithmetic_of j)) (sym e) refl) (λ (e : b ≡ 0x05). subst (λ (j : ℕ). int_op j ≡ IntOp.op_ints (arithmetic_of j)) (sym e) refl) (one_of_two b 0x04 p q)

op_logic : (b : ℕ) → 0x13 ≤ b → b < 0x15 → bool_op b ≡ BoolOp.op_bools (logic_of b)
unfolding bool_op
op_logic b p q = ⊎_elim (λ (e : b ≡ 0x13). subst (λ (j : ℕ). bool_op j ≡ BoolOp.op_bools (logic_of j)) (sym e) refl) (λ (e : b ≡ 0x14). subst (λ (j : ℕ). bool_op j ≡ BoolOp.op_bools (logic_of j)) (sym e) refl) (one_of_two b 0x13 p q)

op_compare : (b : ℕ) → 0x15 ≤ b → b < 0x17 → bool_op b ≡ BoolOp.op_ints (compare_of b)
unfolding bool_op
op_compare b p q = ⊎_elim (λ (e : b ≡ 0x15). subst (λ (j : ℕ). bool_op j ≡ BoolOp.op_ints (compare_of j)) (sym e) refl) (λ (e : b ≡ 0x16). subst (λ (j : ℕ). bool_op j ≡ BoolOp.op_ints (compare_of j)) (sym e) refl) (one_of_two b 0x15 p q)

arithmetic_value : (b : ℕ) (l : Layout) (s : State) (x y : IntExpr) → eval_int l s (arithmetic_of b x y) ≡ cond (eqb b 0x04) (plus (eval_int l s x) (eval_int l s y)) (minus (eval_int l s x) (eval_int l s y))
unfolding eval_int
arithmetic_value b l s x y = go (eqb b 0x04)
  where
    go : (t : Bool) → eval_int l s (cond t sum difference x y) ≡ cond t (plus (eval_int l s x) (eval_int l s y)) (minus (eval_int l s x) (eval_int l s y))
    go true = refl
    go false = refl

logic_value : (b : ℕ) (l : Layout) (s : State) (x y : BoolExpr) → eval_bool l s (logic_of b x y) ≡ cond (eqb b 0x13) (eval_bool l s x && eval_bool l s y) (eval_bool l s x || eval_bool l s y)
unfolding eval_bool
logic_value b l s x y = go (eqb b 0x13)
  where
    go : (t : Bool) → eval_bool l s (cond t and_b or_b x y) ≡ cond t (eval_bool l s x && eval_bool l s y) (eval_bool l s x || eval_bool l s y)
    go true = refl
    go false = refl

compare_value : (b : ℕ) (l : Layout) (s : State) (x y : IntExpr) → eval_bool l s (compare_of b x y) ≡ cond (eqb b 0x15) (eqb (eval_int l s x) (eval_int l s y)) (below (eval_int l s x) (eval_int l s y))
unfolding eval_bool
compare_value b l s x y = go (eqb b 0x15)
  where
    go : (t : Bool) → eval_bool l s (cond t equal less x y) ≡ cond t (eqb (eval_int l s x) (eval_int l s y)) (below (eval_int l s x) (eval_int l s y))
    go true = refl
    go false = refl

-- an expression's value, and whether it passes the end
abbrev told : Layout → State → IntExpr → ℕ × Bool
told l s e = (eval_int l s e, passes_int l s e)

-- whether a sum or difference passes the end, by the values of its operands and by whether they do
abbrev arithmetic_passes : ℕ → ℕ × Bool → ℕ × Bool → Bool
arithmetic_passes b x y = (x.1 || y.1) || cond (eqb b 0x04) (outside (signed x.0 +ℤ signed y.0)) (outside (signed x.0 -ℤ signed y.0))

arithmetic_passes_lem : (b : ℕ) (l : Layout) (s : State) (x y : IntExpr) → passes_int l s (arithmetic_of b x y) ≡ arithmetic_passes b (eval_int l s x, passes_int l s x) (eval_int l s y, passes_int l s y)
unfolding passes_int
arithmetic_passes_lem b l s x y = go (eqb b 0x04)
  where
    go : (t : Bool) → passes_int l s (cond t sum difference x y)
        ≡ ((passes_int l s x || passes_int l s y) || cond t (outside (signed (eval_int l s x) +ℤ signed (eval_int l s y))) (outside (signed (eval_int l s x) -ℤ signed (eval_int l s y))))
    go true = refl
    go false = refl

logic_passes : (b : ℕ) (l : Layout) (s : State) (x y : BoolExpr) → passes_bool l s (logic_of b x y) ≡ (passes_bool l s x || passes_bool l s y)
unfolding passes_bool
logic_passes b l s x y = go (eqb b 0x13)
  where
    go : (t : Bool) → passes_bool l s (cond t and_b or_b x y) ≡ (passes_bool l s x || passes_bool l s y)
    go true = refl
    go false = refl

compare_passes : (b : ℕ) (l : Layout) (s : State) (x y : IntExpr) → passes_bool l s (compare_of b x y) ≡ (passes_int l s x || passes_int l s y)
unfolding passes_bool
compare_passes b l s x y = go (eqb b 0x15)
  where
    go : (t : Bool) → passes_bool l s (cond t equal less x y) ≡ (passes_int l s x || passes_int l s y)
    go true = refl
    go false = refl

module _ (text : List ℕ) (N : Names) (end : ℕ) where
  abbrev I : ℕ → ℕ → Read IntExpr
  I d at = int_expr text N end d at

  abbrev B : ℕ → ℕ → Read BoolExpr
  B d at = bool_expr text N end d at

  -- an accepted expression has a depth and a byte
  pub record Live (d at : ℕ) : Type 0 where
    pub deep : d ≡ 0 → ⊥
    pub inside : at < end

  pub int_live : (d at : ℕ) → is_read (I d at) ≡ true → Live d at
  unfolding int_expr
  int_live zero at h = absurd (false≢true h)
  int_live (suc d) at h = record { deep = λ e. omega arith; inside = ltb-true at end (bind_read (ltb at end) _ _ h).0 }

  pub bool_live : (d at : ℕ) → is_read (B d at) ≡ true → Live d at
  unfolding bool_expr
  bool_live zero at h = absurd (false≢true h)
  bool_live (suc d) at h = record { deep = λ e. omega arith; inside = ltb-true at end (bind_read (ltb at end) _ _ h).0 }

  -- reading goes forward
  pub int_forward : (d at m : ℕ) → is_read (I d at) ≡ true → m ≡ past (I d at) → at ≤ m
  int_forward d at m h e = let q = int_on text N end d at (past (I d at)) (read_found (I d at) h) in omega arith

  pub bool_forward : (d at m : ℕ) → is_read (B d at) ≡ true → m ≡ past (B d at) → at ≤ m
  bool_forward d at m h e = let q = bool_on text N end d at (past (B d at)) (read_found (B d at) h) in omega arith

  module _ (d at : ℕ) (h : is_read (I d at) ≡ true) where
    i_step : (o : IntOp) → int_op (get_or text at 0) ≡ o → I d at ≡ int_of text N end (I (d - 1)) o (at + 1)
    i_step o e = int_step text N end d at (int_live d at h).deep (int_live d at h).inside o e

    pub int_constant : get_or text at 0 ≡ 0x01 → (at + 1 + 2 ≤ end) × (I d at ≡ got (constant (get_or text (at + 1) 0 + 256 * get_or text (at + 1 + 1) 0)) (at + 1 + 2))
    unfolding int_op
    int_constant e =
        let q = i_step IntOp.op_constant (ap int_op e) in
        let p = bind_read (leb (at + 1 + 2) end) _ _ (sym (ap is_read q) ∙ h) in
        (leb-true _ _ p.0, q ∙ p.1)

    -- what stands behind an operator that names a slot: its number, of one that is there, and that it may be named here
    pub int_variable : (next : Bool) → get_or text at 0 ≡ integer_byte next
        → (at + 1 < end) × (get_or text (at + 1) 0 < N.variables) × (I d at ≡ got (variable (numbered text N end next (get_or text (at + 1) 0))) (at + 1 + 1)) × (legal text N end next ≡ true)
    int_variable next e =
        let q = i_step (IntOp.op_variable next) (ap int_op e ∙ op_integer next) in
        let p = bind_read (ltb (at + 1) end) _ _ (sym (ap is_read q) ∙ h) in
        let a = sym (ap is_read (q ∙ p.1)) ∙ h in
        let p₀ = provided_read (legal text N end next) _ a in
        let a₀ = sym (ap is_read p₀.1) ∙ a in
        let p₁ = provided_read (ltb (get_or text (at + 1) 0) N.variables) _ a₀ in
        let a₁ = sym (ap is_read p₁.1) ∙ a₀ in
        let p₂ = provided_read (eqb (N.kind_of (get_or text (at + 1) 0)) 1) _ a₁ in
        (ltb-true _ _ p.0, ltb-true _ _ p₁.0, q ∙ p.1 ∙ p₀.1 ∙ p₁.1 ∙ p₂.1, p₀.0)

    pub int_status : (next : Bool) → get_or text at 0 ≡ status_byte next
        → (at + 1 < end) × (get_or text (at + 1) 0 < N.matrices) × (I d at ≡ got (status (numbered text N end next (get_or text (at + 1) 0))) (at + 1 + 1)) × (legal text N end next ≡ true)
    int_status next e =
        let q = i_step (IntOp.op_status next) (ap int_op e ∙ op_status next) in
        let p = bind_read (ltb (at + 1) end) _ _ (sym (ap is_read q) ∙ h) in
        let a = sym (ap is_read (q ∙ p.1)) ∙ h in
        let p₀ = provided_read (legal text N end next) _ a in
        let a₀ = sym (ap is_read p₀.1) ∙ a in
        let p₁ = provided_read (ltb (get_or text (at + 1) 0) N.matrices) _ a₀ in
        (ltb-true _ _ p.0, ltb-true _ _ p₁.0, q ∙ p.1 ∙ p₀.1 ∙ p₁.1, p₀.0)

    pub int_unknown : (get_or text at 0 < 1) ⊎ (9 ≤ get_or text at 0) → ⊥
    int_unknown s = false≢true (sym (ap is_read (i_step IntOp.op_unknown (int_none (get_or text at 0) s))) ∙ h)

    -- a product: its constant stands behind the operator, its operand behind the constant
    module _ (e : get_or text at 0 ≡ 0x08) where
      pub i_product : (at + 1 + 2 ≤ end) × (I d at ≡ bind (I (d - 1) (at + 1 + 2)) (λ a n. got (product (at16 text (at + 1)) a) n))
      unfolding int_op
      i_product =
          let q = i_step IntOp.op_product (ap int_op e) in
          let p = bind_read (leb (at + 1 + 2) end) _ _ (sym (ap is_read q) ∙ h) in
          (leb-true _ _ p.0, q ∙ p.1)

      i_operand : is_read (bind (I (d - 1) (at + 1 + 2)) (λ a n. got (product (at16 text (at + 1)) a) n)) ≡ true
      i_operand = sym (ap is_read i_product.1) ∙ h

      pub product_first : is_read (I (d - 1) (at + 1 + 2)) ≡ true
      product_first = one_first (product (at16 text (at + 1))) (I (d - 1) (at + 1 + 2)) i_operand

      -- the constant that was read and the operand's answers make the answer of the whole
      pub product_value : (l : Layout) (s : State) (c r n : ℕ) (t : Bool) → c ≡ at16 text (at + 1) → r ≡ int_value l s (I (d - 1) (at + 1 + 2)) → n ≡ past (I (d - 1) (at + 1 + 2))
          → t ≡ int_passes l s (I (d - 1) (at + 1 + 2))
          → (times c r ≡ int_value l s (I d at)) × (n ≡ past (I d at)) × ((t || outside (signed c *ℤ signed r)) ≡ int_passes l s (I d at))
      unfolding eval_int passes_int
      product_value l s c r n t o p q u = (
        ap₂ times o p
            ∙ sym (one_value (product (at16 text (at + 1))) (eval_int l s) 0 (eval_int l s) 0 (times (at16 text (at + 1))) (λ a. refl) (I (d - 1) (at + 1 + 2)) i_operand)
            ∙ sym (ap (int_value l s) i_product.1),
        q ∙ sym (one_past (product (at16 text (at + 1))) (I (d - 1) (at + 1 + 2))) ∙ sym (ap past i_product.1),
        ap₂ (λ (x : Bool) (y : ℕ). x || outside (signed y *ℤ signed r)) u o
            ∙ ap (λ (y : ℕ). int_passes l s (I (d - 1) (at + 1 + 2)) || outside (signed (at16 text (at + 1)) *ℤ signed y)) p
            ∙ passed (I (d - 1) (at + 1 + 2)) i_operand ∙ sym (ap (int_passes l s) i_product.1),
      )
        where
          passed : (x : Read IntExpr) → is_read (bind x (λ a n. got (product (at16 text (at + 1)) a) n)) ≡ true
              → (int_passes l s x || outside (signed (at16 text (at + 1)) *ℤ signed (int_value l s x))) ≡ int_passes l s (bind x (λ a n. got (product (at16 text (at + 1)) a) n))
          passed (got a n) h = refl
          passed bad h = absurd (false≢true h)

    module _ (lo : 0x04 ≤ get_or text at 0) (hi : get_or text at 0 < 0x06) where
      pub i_two : I d at ≡ two (arithmetic_of (get_or text at 0)) (I (d - 1) (at + 1)) (I (d - 1))
      i_two = i_step (IntOp.op_ints (arithmetic_of (get_or text at 0))) (op_arithmetic (get_or text at 0) lo hi)

      i_both : is_read (two (arithmetic_of (get_or text at 0)) (I (d - 1) (at + 1)) (I (d - 1))) ≡ true
      i_both = sym (ap is_read i_two) ∙ h

      pub int_first : is_read (I (d - 1) (at + 1)) ≡ true
      int_first = two_first (arithmetic_of (get_or text at 0)) (I (d - 1) (at + 1)) (I (d - 1)) i_both

      pub int_second : (n : ℕ) → n ≡ past (I (d - 1) (at + 1)) → is_read (I (d - 1) n) ≡ true
      int_second n q = subst (λ (j : ℕ). is_read (I (d - 1) j) ≡ true) (sym q) (two_second (arithmetic_of (get_or text at 0)) (I (d - 1) (at + 1)) (I (d - 1)) i_both)

      -- the answers of the operands make the answer of the whole
      pub int_pair : (l : Layout) (s : State) (r₁ n₁ : ℕ) (t₁ : Bool) (r₂ n₂ : ℕ) (t₂ : Bool) → r₁ ≡ int_value l s (I (d - 1) (at + 1)) → n₁ ≡ past (I (d - 1) (at + 1)) → t₁ ≡ int_passes l s (I (d - 1) (at + 1))
          → r₂ ≡ int_value l s (I (d - 1) n₁) → n₂ ≡ past (I (d - 1) n₁) → t₂ ≡ int_passes l s (I (d - 1) n₁)
          → (cond (eqb (get_or text at 0) 0x04) (plus r₁ r₂) (minus r₁ r₂) ≡ int_value l s (I d at)) × (n₂ ≡ past (I d at)) × (arithmetic_passes (get_or text at 0) (r₁, t₁) (r₂, t₂) ≡ int_passes l s (I d at))
      int_pair l s r₁ n₁ t₁ r₂ n₂ t₂ p₁ q₁ u₁ p₂ q₂ u₂ =
          let f = arithmetic_of (get_or text at 0) in
          let second : r₂ ≡ int_value l s (I (d - 1) (past (I (d - 1) (at + 1)))) = p₂ ∙ ap (λ (j : ℕ). int_value l s (I (d - 1) j)) q₁ in
          let second' : t₂ ≡ int_passes l s (I (d - 1) (past (I (d - 1) (at + 1)))) = u₂ ∙ ap (λ (j : ℕ). int_passes l s (I (d - 1) j)) q₁ in (
            ap₂ (λ x y. cond (eqb (get_or text at 0) 0x04) (plus x y) (minus x y)) p₁ second
                ∙ sym (two_value f (eval_int l s) 0 (eval_int l s) 0 (eval_int l s) 0 (λ x y. cond (eqb (get_or text at 0) 0x04) (plus x y) (minus x y)) (arithmetic_value (get_or text at 0) l s) (I (d - 1) (at + 1)) (I (d - 1)) i_both)
                ∙ sym (ap (int_value l s) i_two),
            q₂ ∙ ap (λ (j : ℕ). past (I (d - 1) j)) q₁ ∙ sym (two_past f (I (d - 1) (at + 1)) (I (d - 1)) i_both) ∙ sym (ap past i_two),
            ap₂ (arithmetic_passes (get_or text at 0)) (ap₂ (λ (x : ℕ) (y : Bool). (x, y)) p₁ u₁ ∙ sym (both (I (d - 1) (at + 1)))) (ap₂ (λ (x : ℕ) (y : Bool). (x, y)) second second' ∙ sym (both (I (d - 1) (past (I (d - 1) (at + 1))))))
                ∙ sym (two_value f (passes_int l s) false (told l s) (0, false) (told l s) (0, false) (arithmetic_passes (get_or text at 0)) (arithmetic_passes_lem (get_or text at 0) l s) (I (d - 1) (at + 1)) (I (d - 1)) i_both)
                ∙ sym (ap (int_passes l s) i_two),
          )
        where
          both : (x : Read IntExpr) → value_of (told l s) (0, false) x ≡ (int_value l s x, int_passes l s x)
          both x = both_value (eval_int l s) (passes_int l s) 0 false x

  module _ (d at : ℕ) (h : is_read (B d at) ≡ true) where
    b_step : (o : BoolOp) → bool_op (get_or text at 0) ≡ o → B d at ≡ bool_of text N end (I (d - 1)) (B (d - 1)) o (at + 1)
    b_step o e = bool_step text N end d at (bool_live d at h).deep (bool_live d at h).inside o e

    pub bool_constant : get_or text at 0 ≡ 0x10 → (at + 1 < end) × (B d at ≡ got (constant_b (truth (get_or text (at + 1) 0))) (at + 1 + 1))
    unfolding bool_op
    bool_constant e =
        let q = b_step BoolOp.op_constant (ap bool_op e) in
        let p = bind_read (ltb (at + 1) end) _ _ (sym (ap is_read q) ∙ h) in
        let a = sym (ap is_read (q ∙ p.1)) ∙ h in
        let p₁ = provided_read (leb (get_or text (at + 1) 0) 1) _ a in
        (ltb-true _ _ p.0, q ∙ p.1 ∙ p₁.1)

    pub bool_variable : (next : Bool) → get_or text at 0 ≡ boolean_byte next
        → (at + 1 < end) × (get_or text (at + 1) 0 < N.variables) × (B d at ≡ got (variable_b (numbered text N end next (get_or text (at + 1) 0))) (at + 1 + 1)) × (legal text N end next ≡ true)
    bool_variable next e =
        let q = b_step (BoolOp.op_variable next) (ap bool_op e ∙ op_boolean next) in
        let p = bind_read (ltb (at + 1) end) _ _ (sym (ap is_read q) ∙ h) in
        let a = sym (ap is_read (q ∙ p.1)) ∙ h in
        let p₀ = provided_read (legal text N end next) _ a in
        let a₀ = sym (ap is_read p₀.1) ∙ a in
        let p₁ = provided_read (ltb (get_or text (at + 1) 0) N.variables) _ a₀ in
        let a₁ = sym (ap is_read p₁.1) ∙ a₀ in
        let p₂ = provided_read (not (eqb (N.kind_of (get_or text (at + 1) 0)) 1)) _ a₁ in
        (ltb-true _ _ p.0, ltb-true _ _ p₁.0, q ∙ p.1 ∙ p₀.1 ∙ p₁.1 ∙ p₂.1, p₀.0)

    pub bool_unknown : (get_or text at 0 < 0x10) ⊎ (0x18 ≤ get_or text at 0) → ⊥
    bool_unknown s = false≢true (sym (ap is_read (b_step BoolOp.op_unknown (bool_none (get_or text at 0) s))) ∙ h)

    module _ (e : get_or text at 0 ≡ 0x12) where
      pub b_one : B d at ≡ bind (B (d - 1) (at + 1)) (λ a n. got (not_b a) n)
      unfolding bool_op
      b_one = b_step BoolOp.op_not (ap bool_op e)

      pub not_first : is_read (B (d - 1) (at + 1)) ≡ true
      not_first = one_first not_b (B (d - 1) (at + 1)) (sym (ap is_read b_one) ∙ h)

      pub not_value : (l : Layout) (s : State) (r : Bool) (n : ℕ) (t : Bool) → r ≡ bool_value l s (B (d - 1) (at + 1)) → n ≡ past (B (d - 1) (at + 1)) → t ≡ bool_passes l s (B (d - 1) (at + 1))
          → (not r ≡ bool_value l s (B d at)) × (n ≡ past (B d at)) × (t ≡ bool_passes l s (B d at))
      unfolding eval_bool passes_bool
      not_value l s r n t p q u = (
        ap not p ∙ sym (one_value not_b (eval_bool l s) false (eval_bool l s) false not (λ a. refl) (B (d - 1) (at + 1)) (sym (ap is_read b_one) ∙ h)) ∙ sym (ap (bool_value l s) b_one),
        q ∙ sym (one_past not_b (B (d - 1) (at + 1))) ∙ sym (ap past b_one),
        u ∙ sym (one_value not_b (passes_bool l s) false (passes_bool l s) false (λ (x : Bool). x) (λ a. refl) (B (d - 1) (at + 1)) (sym (ap is_read b_one) ∙ h)) ∙ sym (ap (bool_passes l s) b_one),
      )

    -- two operands, of Booleans or of integers
    module _ {A : Type 0} (X : ℕ → Read A) (f : A → A → BoolExpr) (e : B d at ≡ two f (X (at + 1)) X) where
      b_both : is_read (two f (X (at + 1)) X) ≡ true
      b_both = sym (ap is_read e) ∙ h

      b_second : (n : ℕ) → n ≡ past (X (at + 1)) → is_read (X n) ≡ true
      b_second n q = subst (λ (j : ℕ). is_read (X j) ≡ true) (sym q) (two_second f (X (at + 1)) X b_both)

      module _ {P : Type 0} (l : Layout) (s : State) (ev : A → P) (z : P) (g : P → P → Bool) (law : (a b : A) → eval_bool l s (f a b) ≡ g (ev a) (ev b)) (passes : A → Bool) (law' : (a b : A) → passes_bool l s (f a b) ≡ (passes a || passes b)) where
        b_pair : (r₁ : P) (n₁ : ℕ) (t₁ : Bool) (r₂ : P) (n₂ : ℕ) (t₂ : Bool) → r₁ ≡ value_of ev z (X (at + 1)) → n₁ ≡ past (X (at + 1)) → t₁ ≡ value_of passes false (X (at + 1))
            → r₂ ≡ value_of ev z (X n₁) → n₂ ≡ past (X n₁) → t₂ ≡ value_of passes false (X n₁) → (g r₁ r₂ ≡ bool_value l s (B d at)) × (n₂ ≡ past (B d at)) × ((t₁ || t₂) ≡ bool_passes l s (B d at))
        b_pair r₁ n₁ t₁ r₂ n₂ t₂ p₁ q₁ u₁ p₂ q₂ u₂ = (
          ap₂ g p₁ (p₂ ∙ ap (λ (j : ℕ). value_of ev z (X j)) q₁) ∙ sym (two_value f (eval_bool l s) false ev z ev z g law (X (at + 1)) X b_both) ∙ sym (ap (bool_value l s) e),
          q₂ ∙ ap (λ (j : ℕ). past (X j)) q₁ ∙ sym (two_past f (X (at + 1)) X b_both) ∙ sym (ap past e),
          ap₂ ◌||◌ u₁ (u₂ ∙ ap (λ (j : ℕ). value_of passes false (X j)) q₁) ∙ sym (two_value f (passes_bool l s) false passes false passes false ◌||◌ law' (X (at + 1)) X b_both) ∙ sym (ap (bool_passes l s) e),
        )

    module _ (lo : 0x13 ≤ get_or text at 0) (hi : get_or text at 0 < 0x15) where
      pub b_logic : B d at ≡ two (logic_of (get_or text at 0)) (B (d - 1) (at + 1)) (B (d - 1))
      b_logic = b_step (BoolOp.op_bools (logic_of (get_or text at 0))) (op_logic (get_or text at 0) lo hi)

      pub logic_first : is_read (B (d - 1) (at + 1)) ≡ true
      logic_first = two_first (logic_of (get_or text at 0)) (B (d - 1) (at + 1)) (B (d - 1)) (b_both (B (d - 1)) (logic_of (get_or text at 0)) b_logic)

      pub logic_second : (n : ℕ) → n ≡ past (B (d - 1) (at + 1)) → is_read (B (d - 1) n) ≡ true
      logic_second = b_second (B (d - 1)) (logic_of (get_or text at 0)) b_logic

      pub logic_pair : (l : Layout) (s : State) (r₁ : Bool) (n₁ : ℕ) (t₁ r₂ : Bool) (n₂ : ℕ) (t₂ : Bool) → r₁ ≡ bool_value l s (B (d - 1) (at + 1)) → n₁ ≡ past (B (d - 1) (at + 1)) → t₁ ≡ bool_passes l s (B (d - 1) (at + 1))
          → r₂ ≡ bool_value l s (B (d - 1) n₁) → n₂ ≡ past (B (d - 1) n₁) → t₂ ≡ bool_passes l s (B (d - 1) n₁)
          → (cond (eqb (get_or text at 0) 0x13) (r₁ && r₂) (r₁ || r₂) ≡ bool_value l s (B d at)) × (n₂ ≡ past (B d at)) × ((t₁ || t₂) ≡ bool_passes l s (B d at))
      logic_pair l s =
          b_pair (B (d - 1)) (logic_of (get_or text at 0)) b_logic l s (eval_bool l s) false (λ x y. cond (eqb (get_or text at 0) 0x13) (x && y) (x || y)) (logic_value (get_or text at 0) l s)
          (passes_bool l s) (logic_passes (get_or text at 0) l s)

    module _ (lo : 0x15 ≤ get_or text at 0) (hi : get_or text at 0 < 0x17) where
      pub b_compare : B d at ≡ two (compare_of (get_or text at 0)) (I (d - 1) (at + 1)) (I (d - 1))
      b_compare = b_step (BoolOp.op_ints (compare_of (get_or text at 0))) (op_compare (get_or text at 0) lo hi)

      pub compare_first : is_read (I (d - 1) (at + 1)) ≡ true
      compare_first = two_first (compare_of (get_or text at 0)) (I (d - 1) (at + 1)) (I (d - 1)) (b_both (I (d - 1)) (compare_of (get_or text at 0)) b_compare)

      pub compare_second : (n : ℕ) → n ≡ past (I (d - 1) (at + 1)) → is_read (I (d - 1) n) ≡ true
      compare_second = b_second (I (d - 1)) (compare_of (get_or text at 0)) b_compare

      pub compare_pair : (l : Layout) (s : State) (r₁ n₁ : ℕ) (t₁ : Bool) (r₂ n₂ : ℕ) (t₂ : Bool) → r₁ ≡ int_value l s (I (d - 1) (at + 1)) → n₁ ≡ past (I (d - 1) (at + 1)) → t₁ ≡ int_passes l s (I (d - 1) (at + 1))
          → r₂ ≡ int_value l s (I (d - 1) n₁) → n₂ ≡ past (I (d - 1) n₁) → t₂ ≡ int_passes l s (I (d - 1) n₁)
          → (cond (eqb (get_or text at 0) 0x15) (eqb r₁ r₂) (below r₁ r₂) ≡ bool_value l s (B d at)) × (n₂ ≡ past (B d at)) × ((t₁ || t₂) ≡ bool_passes l s (B d at))
      compare_pair l s =
          b_pair (I (d - 1)) (compare_of (get_or text at 0)) b_compare l s (eval_int l s) 0 (λ x y. cond (eqb (get_or text at 0) 0x15) (eqb x y) (below x y)) (compare_value (get_or text at 0) l s)
          (passes_int l s) (compare_passes (get_or text at 0) l s)

-- what the evaluators are given: names by which the reader accepts, of some file, and a slot for each
abbrev Given : {A : Type 0} → (List ℕ → Names → ℕ → ℕ → ℕ → Read A) → List ℕ → Shape → ℕ → ℕ → ℕ → Type 0
Given reader text h end at n =
    (file : List ℕ) × (d : ℕ) × (later : Bool) × (slots_needed later h ≤ n) × (is_read (reader text (with_later later (names_of file h)) end d at) ≡ true)

-- a slot of the state, or where that is legal of the next one, is there
slot_there : (later next : Bool) (h : Shape) (i n : ℕ) → (not next || later) ≡ true → slots_needed later h ≤ n → i < slot_count h → cond next (slot_count h + i) i < n
slot_there true true h i n e q l = omega arith
slot_there true false h i n e q l = omega arith
slot_there false true h i n e q l = absurd (false≢true e)
slot_there false false h i n e q l = omega arith

module _ (text : List ℕ) (h : Shape) (end at n : ℕ) where
  abbrev v : ℕ
  v = get_or text (at + 1) 0

  pub integer_slot : Given int_expr text h end at n → (next : Bool) → get_or text at 0 ≡ integer_byte next → cond next (slot_count h + v) v < n
  integer_slot (file, d, later, q, r) next e = let k = int_variable text (with_later later (names_of file h)) end d at r next e in slot_there later next h v n k.3 q (omega (arith, k.1))

  pub status_slot_lem : Given int_expr text h end at n → (next : Bool) → get_or text at 0 ≡ status_byte next → cond next (slot_count h + (h.variables + v)) (h.variables + v) < n
  status_slot_lem (file, d, later, q, r) next e = let k = int_status text (with_later later (names_of file h)) end d at r next e in slot_there later next h (h.variables + v) n k.3 q (omega (arith, k.1))

  pub boolean_slot : Given bool_expr text h end at n → (next : Bool) → get_or text at 0 ≡ boolean_byte next → cond next (slot_count h + v) v < n
  boolean_slot (file, d, later, q, r) next e = let k = bool_variable text (with_later later (names_of file h)) end d at r next e in slot_there later next h v n k.3 q (omega (arith, k.1))
