-- What an accepted expression is, by its operator byte. Assumes nothing.
use Rattle.std.proofs.Common.{◌≡◌, ℕ, ◌+◌, ◌-◌, ◌*◌, ◌<◌, ◌≤◌, Bool, true, false, not, eqb, ltb, ◌⊎◌, List, get_or, sym, refl, ap, ◌∙◌, subst, inl, inr, ⊎_elim, eq-or-lt_of_le, arith, ltb-false, ltb-true, le-ltb, lt-ltb, eqb-true}
use borrow.Author.Tests.{eqb-false, not-true}
use Rattle.design.specs.Tree.{IntExpr, BoolExpr, constant, variable, status, product, constant_b, variable_b, not_b, truth}
use Rattle.design.specs.Reading.{Read, got, bad, Reader, bind, provided}
use Rattle.design.specs.DesignFile.{at16}
use Rattle.design.specs.Expression.{Names, IntOp, BoolOp, int_op, bool_op, byte, legal, numbered, int_expr, bool_expr}
use Rattle.design.proofs.Readers.{int_step, bool_step}
use Rattle.step.specs.Accepted.{is_read}
use Rattle.step.proofs.Values.{integer_byte, status_byte, boolean_byte, arithmetic_of, logic_of, compare_of, int_live, bool_live, int_unknown, bool_unknown, int_constant, int_variable, int_status, i_product, bool_constant, bool_variable, i_two, b_one, b_logic, b_compare}

pub provided_got : {A : Type 0} (t : Bool) (r : Read A) (a : A) (n : ℕ) → provided t r ≡ got a n → (t ≡ true) × (r ≡ got a n)
provided_got true r a n e = (refl, e)
provided_got false r a n e = let z : ◌≡◌ {A = ℕ} 0 1 = cc in absurd (omega arith)

pub record Bound {A B : Type 0} (x : Read A) (k : A → ℕ → Read B) (b : B) (n : ℕ) : Type 0 where
  pub tree : A
  pub past : ℕ
  pub reads : x ≡ got tree past
  pub rest : k tree past ≡ got b n

pub bind_got : {A B : Type 0} (x : Read A) (k : A → ℕ → Read B) (b : B) (n : ℕ) → bind x k ≡ got b n → Bound x k b n
bind_got (got a m) k b n e = record { tree = a; past = m; reads = refl; rest = e }
bind_got bad k b n e = let z : ◌≡◌ {A = ℕ} 0 1 = cc in absurd (omega arith)

pub got_same : {A : Type 0} (a b : A) (m n : ℕ) → got a m ≡ got b n → (b ≡ a) × (n ≡ m)
got_same a b m n e = (cc, cc)

-- one operand, and two, and what is made of them
pub record OneRead {A B : Type 0} (one : Reader A) (f : A → B) (at : ℕ) (e : B) (n : ℕ) : Type 0 where
  pub first : A
  pub reads : one at ≡ got first n
  pub tree : e ≡ f first

pub record TwoRead {A B : Type 0} (one : Reader A) (f : A → A → B) (at : ℕ) (e : B) (n : ℕ) : Type 0 where
  pub first : A
  pub second : A
  pub middle : ℕ
  pub reads : one at ≡ got first middle
  pub then : one middle ≡ got second n
  pub tree : e ≡ f first second

pub one_read : {A B : Type 0} (one : Reader A) (f : A → B) (at : ℕ) (e : B) (n : ℕ) → bind (one at) (λ a m. got (f a) m) ≡ got e n → OneRead one f at e n
one_read one f at e n h =
    let p = bind_got (one at) (λ a m. got (f a) m) e n h in
    let s = got_same (f p.tree) e p.past n p.rest in
    record { first = p.tree; reads = p.reads ∙ ap (got p.tree) (sym s.1); tree = s.0 }

pub two_read : {A B : Type 0} (one : Reader A) (f : A → A → B) (at : ℕ) (e : B) (n : ℕ) → bind (one at) (λ a m. bind (one m) (λ b k. got (f a b) k)) ≡ got e n → TwoRead one f at e n
two_read one f at e n h =
    let p = bind_got (one at) (λ a m. bind (one m) (λ b k. got (f a b) k)) e n h in
    let q = one_read one (f p.tree) p.past e n p.rest in
    record { first = p.tree; second = q.first; middle = p.past; reads = p.reads; then = q.reads; tree = q.tree }

test : (a k : ℕ) → (a ≡ k) ⊎ (a ≡ k → ⊥)
test a k = go (eqb a k) refl
  where
    go : (t : Bool) → eqb a k ≡ t → (a ≡ k) ⊎ (a ≡ k → ⊥)
    go true e = inl (eqb-true a k e)
    go false e = inr (eqb-false a k e)

below : (a k : ℕ) → (a < k) ⊎ (k ≤ a)
below a k = go (ltb a k) refl
  where
    go : (t : Bool) → ltb a k ≡ t → (a < k) ⊎ (k ≤ a)
    go true e = inl (ltb-true a k e)
    go false e = inr (ltb-false a k e)

pub above : (a k : ℕ) → (a ≡ k → ⊥) → k ≤ a → k < a
above a k h l = ⊎_elim (λ (e : k ≡ a). absurd (h (sym e))) (λ q. q) (eq-or-lt_of_le l)

integer_op : (next : Bool) → int_op (integer_byte next) ≡ IntOp.op_variable next
unfolding int_op
integer_op true = refl
integer_op false = refl

boolean_op : (next : Bool) → bool_op (boolean_byte next) ≡ BoolOp.op_variable next
unfolding bool_op
boolean_op true = refl
boolean_op false = refl

module _ (text : List ℕ) (names : Names) (end : ℕ) where
  abbrev I : ℕ → Reader IntExpr
  I d = int_expr text names end d

  abbrev B : ℕ → Reader BoolExpr
  B d = bool_expr text names end d

  -- an operator that names a slot, one of `count`, of the state or of the next one
  pub record Named (next : Bool) (count at n : ℕ) : Type 0 where
    pub allowed : legal text names end next ≡ true
    pub inside : at + 2 ≤ end
    pub there : get_or text (at + 1) 0 < count
    pub ends : n ≡ at + 2

  module _ (d at : ℕ) (e : IntExpr) (n : ℕ) (h : I d at ≡ got e n) where
    abbrev int_read : is_read (I d at) ≡ true
    int_read = ap is_read h

    pub int_inside : at < end
    int_inside = (int_live text names end d at int_read).inside

    pub read_constant : get_or text at 0 ≡ 1 → (at + 3 ≤ end) × (e ≡ constant (get_or text (at + 1) 0 + 256 * get_or text (at + 1 + 1) 0)) × (n ≡ at + 3)
    read_constant q =
        let k = int_constant text names end d at int_read q in
        let s = got_same _ _ _ _ (sym k.1 ∙ h) in
        (omega (arith, k.0), s.0, omega (arith, s.1))

    integer_kind : (next : Bool) → get_or text at 0 ≡ integer_byte next → names.kind_of (get_or text (at + 1) 0) ≡ 1
    integer_kind next q =
        let l = int_live text names end d at int_read in
        let o = sym (int_step text names end d at l.deep l.inside (IntOp.op_variable next) (ap int_op q ∙ integer_op next)) ∙ h in
        let p = bind_got (byte text names end (at + 1)) _ e n o in
        let s = got_same _ _ _ _ (provided_got (ltb (at + 1) end) _ _ _ p.reads).1 in
        let x = provided_got (ltb p.tree names.variables) _ _ _ (provided_got (legal text names end next) _ _ _ p.rest).1 in
        subst (λ (v : ℕ). names.kind_of v ≡ 1) s.0 (eqb-true _ _ (provided_got (eqb (names.kind_of p.tree) 1) _ _ _ x.1).0)

    pub read_variable : (next : Bool) → get_or text at 0 ≡ integer_byte next
        → Named next names.variables at n × (names.kind_of (get_or text (at + 1) 0) ≡ 1) × (e ≡ variable (numbered text names end next (get_or text (at + 1) 0)))
    read_variable next q =
        let k = int_variable text names end d at int_read next q in
        let s = got_same _ _ _ _ (sym k.2 ∙ h) in
        (record { allowed = k.3; inside = omega (arith, k.0); there = k.1; ends = omega (arith, s.1) }, integer_kind next q, s.0)

    pub read_status : (next : Bool) → get_or text at 0 ≡ status_byte next → Named next names.matrices at n × (e ≡ status (numbered text names end next (get_or text (at + 1) 0)))
    read_status next q =
        let k = int_status text names end d at int_read next q in
        let s = got_same _ _ _ _ (sym k.2 ∙ h) in
        (record { allowed = k.3; inside = omega (arith, k.0); there = k.1; ends = omega (arith, s.1) }, s.0)

    pub read_arithmetic : 4 ≤ get_or text at 0 → get_or text at 0 < 6 → TwoRead (I (d - 1)) (arithmetic_of (get_or text at 0)) (at + 1) e n
    read_arithmetic lo hi = two_read (I (d - 1)) (arithmetic_of (get_or text at 0)) (at + 1) e n (sym (i_two text names end d at int_read lo hi) ∙ h)

    -- the operand of a product stands behind its constant
    pub read_product : get_or text at 0 ≡ 8 → (at + 3 ≤ end) × OneRead (I (d - 1)) (product (at16 text (at + 1))) (at + 3) e n
    read_product q =
        let k = i_product text names end d at int_read q in
        let p : at + 1 + 2 ≡ at + 3 = omega arith in
        (omega (arith, k.0), subst (λ (j : ℕ). OneRead (I (d - 1)) (product (at16 text (at + 1))) j e n) p (one_read (I (d - 1)) (product (at16 text (at + 1))) (at + 1 + 2) e n (sym k.1 ∙ h)))

    int_range : (0 < get_or text at 0) × (get_or text at 0 < 9)
    int_range = (
      ⊎_elim (λ k. absurd (int_unknown text names end d at int_read (inl k))) (λ g. g) (below (get_or text at 0) 1),
      ⊎_elim (λ k. k) (λ g. absurd (int_unknown text names end d at int_read (inr g))) (below (get_or text at 0) 9),
    )

    -- beside the operators with operands there are the constant, and those that name a slot
    module _ (s : (get_or text at 0 < 4) ⊎ (5 < get_or text at 0)) (h8 : get_or text at 0 ≡ 8 → ⊥) (h1 : get_or text at 0 ≡ 1 → ⊥) where
      no_product : get_or text at 0 < 8
      no_product = ⊎_elim (λ k. k) (λ g. let m = above _ _ h8 g in absurd (omega (arith, int_range.1))) (below (get_or text at 0) 8)

      pub names_slot : (next : Bool) × ((get_or text at 0 ≡ integer_byte next) ⊎ (get_or text at 0 ≡ status_byte next))
      names_slot = ⊎_elim
          (λ l. ⊎_elim (λ (q : get_or text at 0 ≡ 2). (false, inl q)) (λ h2. let g = above _ _ h2 (above _ _ h1 int_range.0) in (false, inr (omega arith))) (test (get_or text at 0) 2))
          (λ l. ⊎_elim (λ (q : get_or text at 0 ≡ 6). (true, inl q)) (λ h6. let g = above _ _ h6 l in (true, inr (omega (arith, no_product)))) (test (get_or text at 0) 6))
          s

      pub is_next_status : (get_or text at 0 ≡ 2 → ⊥) → (get_or text at 0 ≡ 3 → ⊥) → (get_or text at 0 ≡ 6 → ⊥) → get_or text at 0 ≡ 7
      is_next_status h2 h3 h6 = ⊎_elim
          (λ l. let g = above _ _ h3 (above _ _ h2 (above _ _ h1 int_range.0)) in absurd (omega arith))
          (λ l. let g = above _ _ h6 l in omega (arith, no_product))
          s

  module _ (d at : ℕ) (e : BoolExpr) (n : ℕ) (h : B d at ≡ got e n) where
    abbrev bool_read : is_read (B d at) ≡ true
    bool_read = ap is_read h

    pub bool_inside : at < end
    bool_inside = (bool_live text names end d at bool_read).inside

    pub read_truth : get_or text at 0 ≡ 0x10 → (at + 2 ≤ end) × (e ≡ constant_b (truth (get_or text (at + 1) 0))) × (n ≡ at + 2)
    read_truth q =
        let k = bool_constant text names end d at bool_read q in
        let s = got_same _ _ _ _ (sym k.1 ∙ h) in
        (omega (arith, k.0), s.0, omega (arith, s.1))

    boolean_kind : (next : Bool) → get_or text at 0 ≡ boolean_byte next → names.kind_of (get_or text (at + 1) 0) ≡ 1 → ⊥
    boolean_kind next q =
        let l = bool_live text names end d at bool_read in
        let o = sym (bool_step text names end d at l.deep l.inside (BoolOp.op_variable next) (ap bool_op q ∙ boolean_op next)) ∙ h in
        let p = bind_got (byte text names end (at + 1)) _ e n o in
        let s = got_same _ _ _ _ (provided_got (ltb (at + 1) end) _ _ _ p.reads).1 in
        let x = provided_got (ltb p.tree names.variables) _ _ _ (provided_got (legal text names end next) _ _ _ p.rest).1 in
        subst (λ (v : ℕ). names.kind_of v ≡ 1 → ⊥) s.0 (eqb-false _ _ (not-true _ (provided_got (not (eqb (names.kind_of p.tree) 1)) _ _ _ x.1).0))

    pub read_flag : (next : Bool) → get_or text at 0 ≡ boolean_byte next
        → Named next names.variables at n × (names.kind_of (get_or text (at + 1) 0) ≡ 1 → ⊥) × (e ≡ variable_b (numbered text names end next (get_or text (at + 1) 0)))
    read_flag next q =
        let k = bool_variable text names end d at bool_read next q in
        let s = got_same _ _ _ _ (sym k.2 ∙ h) in
        (record { allowed = k.3; inside = omega (arith, k.0); there = k.1; ends = omega (arith, s.1) }, boolean_kind next q, s.0)

    pub read_not : get_or text at 0 ≡ 0x12 → OneRead (B (d - 1)) not_b (at + 1) e n
    read_not q = one_read (B (d - 1)) not_b (at + 1) e n (sym (b_one text names end d at bool_read q) ∙ h)

    pub read_logic : 0x13 ≤ get_or text at 0 → get_or text at 0 < 0x15 → TwoRead (B (d - 1)) (logic_of (get_or text at 0)) (at + 1) e n
    read_logic lo hi = two_read (B (d - 1)) (logic_of (get_or text at 0)) (at + 1) e n (sym (b_logic text names end d at bool_read lo hi) ∙ h)

    pub read_compare : 0x15 ≤ get_or text at 0 → get_or text at 0 < 0x17 → TwoRead (I (d - 1)) (compare_of (get_or text at 0)) (at + 1) e n
    read_compare lo hi = two_read (I (d - 1)) (compare_of (get_or text at 0)) (at + 1) e n (sym (b_compare text names end d at bool_read lo hi) ∙ h)

    bool_range : (0x10 ≤ get_or text at 0) × (get_or text at 0 < 0x18)
    bool_range = (
      ⊎_elim (λ k. absurd (bool_unknown text names end d at bool_read (inl k))) (λ g. g) (below (get_or text at 0) 0x10),
      ⊎_elim (λ k. k) (λ g. absurd (bool_unknown text names end d at bool_read (inr g))) (below (get_or text at 0) 0x18),
    )

    -- beside the other operators and the constant there are the two that name a slot
    pub is_flag : (get_or text at 0 < 0x12) ⊎ (0x16 < get_or text at 0) → (get_or text at 0 ≡ 0x10 → ⊥) → get_or text at 0 ≡ boolean_byte (ltb 0x16 (get_or text at 0))
    is_flag s h0 = ⊎_elim
        (λ l. let g = above _ _ h0 bool_range.0 in let q : get_or text at 0 ≡ 0x11 = omega arith in q ∙ ap boolean_byte (sym (le-ltb 0x16 (get_or text at 0) (omega arith))))
        (λ l. let q : get_or text at 0 ≡ 0x17 = omega (arith, bool_range.1) in q ∙ ap boolean_byte (sym (lt-ltb 0x16 (get_or text at 0) l)))
        s
