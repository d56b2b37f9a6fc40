-- Gates of statements over the bytes: the answers of the parts make the answer of the whole.
use Rattle.std.proofs.Common.{◌≡◌, ℕ, ◌+◌, ◌-◌, ◌<◌, ◌≤◌, true, List, get_or, sym, refl, ap, ◌∙◌, subst, ap₂, arith}
use Rattle.design.specs.Tree.{BoolExpr, Stmt, Stmts, assign, assign_b, if_else, then}
use Rattle.design.specs.Limits.{max_bytes, max_depth, max_bits}
use Rattle.design.specs.Reading.{Read}
use Rattle.design.specs.Expression.{Names, int_expr, bool_expr}
use Rattle.design.specs.Action.{assignment, statements, statement, list}
use Rattle.step.specs.Accepted.{is_read, past}
use Rattle.step.proofs.Accepted.{two, two_second}
use Rattle.step.proofs.Values.{bool_forward}
use Rattle.step.proofs.Runs.{list_in, list_live, seq_none, seq_step, seq_first, stmt_forward, stmt_assign, list_forward, if_test, if_then, if_else_lem, as_if, as_int, as_bool}
use Rattle.clauses.specs.Cost.{cost, add_costs, int_cost, bool_cost, statement_cost, statements_cost}
use Rattle.clauses.specs.FrameSizes.{no_gates, gates_at, both, stmt_gates, list_gates, FewGates}
use Rattle.clauses.specs.Limits.{text_gates}
use Rattle.clauses.specs.declared.cost.GatesAt.{GatesAt}
use Rattle.clauses.proofs.TextGates.{list_few}
use Rattle.clauses.proofs.GateCounts.{gates, gates_past, one_gates, two_gates, three_gates}

if_cost : (bits : ℕ) (c : BoolExpr) (a b : Stmts) → statement_cost (if_else c a b) bits ≡ add_costs (add_costs (add_costs (bool_cost true c) (statements_cost a bits)) (statements_cost b bits)) (cost 0 bits)
unfolding statement_cost
if_cost bits c a b = refl

then_cost : (bits : ℕ) (x : Stmt) (xs : Stmts) → statements_cost (then x xs) bits ≡ add_costs (add_costs (statement_cost x bits) (statements_cost xs bits)) (cost 0 0)
unfolding statements_cost
then_cost bits x xs =
    let p : (statement_cost x bits).ands + (statements_cost xs bits).ands ≡ (statement_cost x bits).ands + (statements_cost xs bits).ands + 0 = omega arith in
    let q : (statement_cost x bits).wides + (statements_cost xs bits).wides ≡ (statement_cost x bits).wides + (statements_cost xs bits).wides + 0 = omega arith in
    ap₂ cost p q

module _ (text : List ℕ) (N : Names) (end : ℕ) where
  abbrev C : ℕ → Read BoolExpr
  C at = bool_expr text N end max_depth at

  abbrev S : ℕ → ℕ → Read Stmt
  S k at = statement text N end k at

  abbrev Q : ℕ → ℕ → ℕ → Read Stmts
  Q k n at = statements text N end (S k) n at

  abbrev L : ℕ → ℕ → Read Stmts
  L k at = list text N end k at

  -- assignments, past the operator byte
  module _ (at : ℕ) (h : is_read (assignment text N end at) ≡ true) (r : GatesAt) (bits : ℕ) where
    pub assigned_int : N.kind_of (get_or text at 0) ≡ 1 → r ≡ gates_at (int_cost true) (int_expr text N end max_depth (at + 1)) → r ≡ stmt_gates bits (assignment text N end at)
    unfolding statement_cost
    assigned_int kind e =
        e ∙ one_gates (assign (get_or text at 0)) (int_cost true) (λ (s : Stmt). statement_cost s bits) (λ a. refl) (int_expr text N end max_depth (at + 1))
        ∙ sym (ap (stmt_gates bits) (as_int text N end at h kind))

    pub assigned_bool : (N.kind_of (get_or text at 0) ≡ 1 → ⊥) → r ≡ gates_at (bool_cost true) (C (at + 1)) → r ≡ stmt_gates bits (assignment text N end at)
    unfolding statement_cost
    assigned_bool kind e =
        e ∙ one_gates (assign_b (get_or text at 0)) (bool_cost true) (λ (s : Stmt). statement_cost s bits) (λ a. refl) (C (at + 1))
        ∙ sym (ap (stmt_gates bits) (as_bool text N end at h kind))

  module _ (k at : ℕ) (h : is_read (S k at) ≡ true) where
    pub stated_assign : (bits : ℕ) → get_or text at 0 ≡ 0x20 → (r : GatesAt) → r ≡ stmt_gates bits (assignment text N end (at + 1)) → r ≡ stmt_gates bits (S k at)
    stated_assign bits e r q = q ∙ sym (ap (stmt_gates bits) (stmt_assign text N end k at h e))

    module _ (ne : get_or text at 0 ≡ 0x20 → ⊥) (c : GatesAt) (e : c ≡ gates_at (bool_cost true) (C (at + 1))) where
      first_past : c.next ≡ past (C (at + 1))
      first_past = gates_past (bool_cost true) (C (at + 1)) c e

      pub if_first : is_read (L (k - 1) c.next) ≡ true
      if_first = if_then text N end k at h ne c.next first_past

      pub first_on : (at < c.next) × (c.next < end)
      first_on =
          let b = bool_forward text N end max_depth (at + 1) c.next (if_test text N end k at h ne) first_past in
          (omega arith, list_live text N end (k - 1) c.next if_first)

      module _ (bits : ℕ) (a : GatesAt) (f : a ≡ list_gates bits (L (k - 1) c.next)) where
        second_past : a.next ≡ past (L (k - 1) c.next)
        second_past = gates_past (λ (s : Stmts). statements_cost s bits) (L (k - 1) c.next) a f

        pub if_second : is_read (L (k - 1) a.next) ≡ true
        if_second = if_else_lem text N end k at h ne c.next first_past a.next second_past

        pub second_on : (at < a.next) × (a.next < end)
        second_on =
            let b = list_forward text N end (k - 1) c.next a.next if_first second_past in
            (omega (arith, first_on.0), list_live text N end (k - 1) a.next if_second)

        pub if_joined : (b x y : GatesAt) → b ≡ list_gates bits (L (k - 1) a.next) → x ≡ both c a 0 0 → y ≡ both x b 0 bits → y ≡ stmt_gates bits (S k at)
        if_joined b x y g u v =
            let q = as_if text N end k at h ne in
            v ∙ ap (λ (z : GatesAt). both z b 0 bits) u
            ∙ three_gates if_else (bool_cost true) (λ (s : Stmts). statements_cost s bits) (λ (s : Stmt). statement_cost s bits) 0 bits (if_cost bits) (C (at + 1)) (L (k - 1)) (sym (ap is_read q) ∙ h) c a b e f g
            ∙ sym (ap (stmt_gates bits) q)

  -- the loop of a list: the gates so far, with those of the n statements that are left, are those of the list
  pub record Counting (bits k at n : ℕ) (g : GatesAt) : Type 0 where
    pub live : is_read (Q k n g.next) ≡ true
    pub ands : g.ands + (list_gates bits (Q k n g.next)).ands ≡ (list_gates bits (L k at)).ands
    pub wides : g.wides + (list_gates bits (Q k n g.next)).wides ≡ (list_gates bits (L k at)).wides
    pub ends : (list_gates bits (Q k n g.next)).next ≡ (list_gates bits (L k at)).next
    pub on : at < g.next

  module _ (bits k at : ℕ) where
    pub counting_start : (n : ℕ) (g : GatesAt) → n ≡ get_or text at 0 → is_read (L k at) ≡ true → g ≡ no_gates (at + 1) → Counting bits k at n g
    counting_start n g q h z =
        subst (Counting bits k at n) (sym z) (
        let e = list_in text N end k at (list_live text N end k at h) ∙ ap (λ (j : ℕ). Q k j (at + 1)) (sym q) in
        let z = ap (list_gates bits) e in
        record {
          live = sym (ap is_read e) ∙ h;
          ands = omega (arith, ap (λ (x : GatesAt). x.ands) z);
          wides = omega (arith, ap (λ (x : GatesAt). x.wides) z);
          ends = sym (ap (λ (x : GatesAt). x.next) z);
          on = omega arith;
        })

    pub counting_on : (n : ℕ) (g s t : GatesAt) → 0 < n → Counting bits k at n g → s ≡ stmt_gates bits (S k g.next) → t ≡ both g s 0 0 → (m : ℕ) → m ≡ n - 1 → Counting bits k at m t
    counting_on n g s t l c e u rest q =
        rw q (subst (Counting bits k at (n - 1)) (sym u) (
        let p = g.next in
        let w = seq_step text N end k n p l in
        let both' : is_read (two then (S k p) (Q k (n - 1))) ≡ true = sym (ap is_read w) ∙ c.live in
        let m : s.next ≡ past (S k p) = gates_past (λ (x : Stmt). statement_cost x bits) (S k p) s e in
        let j : both s (list_gates bits (Q k (n - 1) s.next)) 0 0 ≡ list_gates bits (Q k n p)
        = two_gates then (λ (x : Stmt). statement_cost x bits) (λ (x : Stmts). statements_cost x bits) (λ (x : Stmts). statements_cost x bits) 0 0 (then_cost bits) (S k p) (Q k (n - 1)) both' s _ e refl
        ∙ sym (ap (list_gates bits) w) in
        let f = stmt_forward text N end k p s.next (seq_first text N end k n p c.live l) m in
        record {
          live = subst (λ (i : ℕ). is_read (Q k (n - 1) i) ≡ true) (sym m) (two_second then (S k p) (Q k (n - 1)) both');
          ands = omega (arith, ap (λ (x : GatesAt). x.ands) j, c.ands);
          wides = omega (arith, ap (λ (x : GatesAt). x.wides) j, c.wides);
          ends = ap (λ (x : GatesAt). x.next) j ∙ c.ends;
          on = omega (arith, c.on);
        }))

    pub counting_few : (n : ℕ) (g : GatesAt) → end ≤ max_bytes → bits ≤ max_bits → Counting bits k at n g → FewGates text_gates g
    counting_few n g l few c =
        let f = list_few text N end l bits few k at (list_gates bits (L k at)) refl in
        record { ands = omega (arith, f.ands, c.ands); wides = omega (arith, f.wides, c.wides) }

    pub counting_end : (n : ℕ) (g : GatesAt) → n ≤ 0 → Counting bits k at n g → g ≡ list_gates bits (L k at)
    unfolding statements_cost
    counting_end n g l c =
        let e = ap (list_gates bits) (seq_none text N end k n g.next l) in
        let p : g.ands ≡ (list_gates bits (L k at)).ands = omega (arith, c.ands, ap (λ (x : GatesAt). x.ands) e) in
        let q : g.wides ≡ (list_gates bits (L k at)).wides = omega (arith, c.wides, ap (λ (x : GatesAt). x.wides) e) in
        let m : g.next ≡ (list_gates bits (L k at)).next = sym (ap (λ (x : GatesAt). x.next) e) ∙ c.ends in
        ap₂ (λ (x y : ℕ). gates x y g.next) p q ∙ ap (gates (list_gates bits (L k at)).ands (list_gates bits (L k at)).wides) m
