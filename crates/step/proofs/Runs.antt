-- What an accepted statement or list is, and what running its parts makes of the whole. Assumes nothing.
use Rattle.std.proofs.Common.{◌≡◌, ℕ, zero, suc, ◌+◌, ◌-◌, ◌<◌, ◌≤◌, Bool, true, false, cond, eqb, ltb, ◌⊎◌, List, length, get_or, set, sym, refl, ap, ◌∙◌, subst, sub-one, arith, length-set, ltb-true, lt-ltb, eq-eqb, ne_eqb, eqb-true}
use mathlib.Core.Bool.{false≢true}
use borrow.Author.Tests.{eqb-false}
use Rattle.design.specs.Tree.{IntExpr, BoolExpr, Stmt, Stmts, assign, assign_b, if_else, done, then, bit}
use Rattle.design.specs.Limits.{max_depth}
use Rattle.design.specs.State.{State, Layout}
use Rattle.design.specs.Reading.{Read, got, bad, bind}
use Rattle.design.specs.Expression.{Names, int_expr, bool_expr}
use Rattle.design.specs.Action.{stmt_op, assignment, statements, list_of, statement, list}
use Rattle.design.specs.Answers.{found}
use Rattle.std.specs.Prelude.{None}
use Rattle.std.specs.Option.{unwrap_or}
use Rattle.std.proofs.lemmas.Option.{none-some}
use Rattle.design.proofs.Readers.{stmt_none}
use Rattle.design.proofs.Forward.{list_on, stmt_on}
use Rattle.step.specs.Evaluation.{eval_int, eval_bool, passes_int, passes_bool}
use Rattle.step.specs.OneStep.{marked_if, execute, execute_all}
use Rattle.step.specs.Accepted.{is_read, past, int_value, bool_value, int_passes, bool_passes, after_stmt, after_list}
use Rattle.step.proofs.Accepted.{read_found, provided_read, bind_read, one_first, one_past, two, two_first, two_second, two_past, two_value, three, three_first, three_second, three_third, three_past}

pub found_past : {A : Type 0} (x : Read A) → unwrap_or (found x) 0 ≡ past x
found_past (got a n) = refl
found_past bad = refl

refused : {A : Type 0} {x : Read A} → is_read x ≡ true → x ≡ bad → ⊥
refused h e = false≢true (sym (ap is_read e) ∙ h)

-- statements change no length
length_cond : (t : Bool) (a b : State) (n : ℕ) → length a ≡ n → length b ≡ n → length (cond t a b) ≡ n
length_cond true a b n p q = p
length_cond false a b n p q = q

pub length_marked : (t : Bool) (l : Layout) (s : State) → length (marked_if t l s) ≡ length s
length_marked true l s = length-set s l.mark 1
length_marked false l s = refl

mutual
  unfolding execute execute_all

  pub length_execute : (x : Stmt) (l : Layout) (s : State) → length (execute x l s) ≡ length s
  length_execute (assign v e) l s = length-set (marked_if (passes_int l s e) l s) v (eval_int l s e) ∙ length_marked (passes_int l s e) l s
  length_execute (assign_b v e) l s = length-set (marked_if (passes_bool l s e) l s) v (bit (eval_bool l s e)) ∙ length_marked (passes_bool l s e) l s
  length_execute (if_else c a b) l s =
      let t = marked_if (passes_bool l s c) l s in
      let same = length_marked (passes_bool l s c) l s in
      length_cond (eval_bool l s c) (execute_all a l t) (execute_all b l t) (length s) (length_execute_all a l t ∙ same) (length_execute_all b l t ∙ same)

  pub length_execute_all : (xs : Stmts) (l : Layout) (s : State) → length (execute_all xs l s) ≡ length s
  length_execute_all done l s = refl
  length_execute_all (then x xs) l s = length_execute_all xs l (execute x l s) ∙ length_execute x l s

pub length_stmt : (l : Layout) (x : Read Stmt) (s : State) → length (after_stmt l x s) ≡ length s
length_stmt l (got x n) s = length_execute x l s
length_stmt l bad s = refl

pub length_list : (l : Layout) (x : Read Stmts) (s : State) → length (after_list l x s) ≡ length s
length_list l (got x n) s = length_execute_all x l s
length_list l bad s = refl

if_value : (l : Layout) (s : State) (x : Read BoolExpr) (q : ℕ → Read Stmts) → is_read (three if_else x q) ≡ true → after_stmt l (three if_else x q) s
    ≡ cond (bool_value l s x) (after_list l (q (past x)) (marked_if (bool_passes l s x) l s)) (after_list l (q (past (q (past x)))) (marked_if (bool_passes l s x) l s))
unfolding execute execute_all
if_value l s (got c m) q h =
    ap (λ (r : State → State). r s) (two_value (if_else c) {P = State → State} {Q = State → State} {R = State → State} (λ (t : Stmt) (w : State). execute t
    l w) (λ w. w) (λ (t : Stmts) (w : State). execute_all t l w) (λ w. w) (λ (t : Stmts) (w : State). execute_all t l w) (λ w. w) (λ a b w. cond
    (eval_bool l w c) (a (marked_if (passes_bool l w c) l w)) (b (marked_if (passes_bool l w c) l w))) (λ a b. refl) (q m) q h)
if_value l s bad q h = absurd (false≢true h)

module _ (text : List ℕ) (N : Names) (end : ℕ) where
  abbrev C : ℕ → Read BoolExpr
  C at = bool_expr text N end max_depth at

  abbrev S : ℕ → ℕ → Read Stmt
  S k at = statement text N end k at

  abbrev Q : ℕ → ℕ → ℕ → Read Stmts
  Q k n at = statements text N end (S k) n at

  abbrev L : ℕ → ℕ → Read Stmts
  L k at = list text N end k at

  -- reading goes forward
  pub list_forward : (k at m : ℕ) → is_read (L k at) ≡ true → m ≡ past (L k at) → at ≤ m
  list_forward k at m h e = let q = list_on text N end k at (past (L k at)) (read_found (L k at) h) in omega arith

  pub stmt_forward : (k at m : ℕ) → is_read (S k at) ≡ true → m ≡ past (S k at) → at ≤ m
  stmt_forward k at m h e = let q = stmt_on text N end k at (past (S k at)) (read_found (S k at) h) in omega arith

  -- lists
  pub list_live : (k at : ℕ) → is_read (L k at) ≡ true → at < end
  unfolding list_of
  list_live k at h = ltb-true at end (bind_read (ltb at end) _ _ h).0

  pub list_in : (k at : ℕ) → at < end → L k at ≡ Q k (get_or text at 0) (at + 1)
  unfolding list_of
  list_in k at h = simp (lt-ltb at end h)

  pub seq_none : (k n at : ℕ) → n ≤ 0 → Q k n at ≡ got done at
  unfolding statements
  seq_none k zero at h = refl
  seq_none k (suc n) at h = absurd (omega arith)

  pub seq_step : (k n at : ℕ) → 0 < n → Q k n at ≡ two then (S k at) (Q k (n - 1))
  unfolding statements
  seq_step k zero at h = absurd (omega arith)
  seq_step k (suc n) at h = rw sub-one

  module _ (k n at : ℕ) (h : is_read (Q k n at) ≡ true) (l : 0 < n) where
    both : is_read (two then (S k at) (Q k (n - 1))) ≡ true
    both = sym (ap is_read (seq_step k n at l)) ∙ h

    pub seq_first : is_read (S k at) ≡ true
    seq_first = two_first then (S k at) (Q k (n - 1)) both

    -- after the first statement the rest stands for the whole
    seq_rest : (y : Layout) (s s' : State) (m : ℕ) → s' ≡ after_stmt y (S k at) s → m ≡ past (S k at) → (is_read (Q k (n - 1) m) ≡ true) × (after_list y (Q k (n - 1) m) s' ≡ after_list y (Q k n at) s) × (past (Q k (n - 1) m) ≡ past (Q k n at))
    unfolding execute_all
    seq_rest y s s' m p q = (
      subst (λ (j : ℕ). is_read (Q k (n - 1) j) ≡ true) (sym q) (two_second then (S k at) (Q k (n - 1)) both),
      ap (λ (j : ℕ). after_list y (Q k (n - 1) j) s') q ∙ ap (λ (w : State). after_list y (Q k (n - 1) (past (S k at))) w) p
          ∙ sym (ap (λ (r : State → State). r s) (two_value then {P = State → State} {Q = State → State} {R = State → State} (λ (t : Stmts) (w : State). execute_all t y w) (λ w. w) (λ (t : Stmt) (w : State). execute t y w) (λ w. w) (λ (t : Stmts) (w : State). execute_all t y w) (λ w. w) (λ a b w. b (a w)) (λ a b. refl) (S k at) (Q k (n - 1)) both))
          ∙ sym (ap (λ (x : Read Stmts). after_list y x s) (seq_step k n at l)),
      ap (λ (j : ℕ). past (Q k (n - 1) j)) q ∙ sym (two_past then (S k at) (Q k (n - 1)) both) ∙ sym (ap past (seq_step k n at l)),
    )

  -- the loop of a list: the n statements from p, run on s, are what is left of the list at `at`, run on s₀
  pub record Going (y : Layout) (k at : ℕ) (s₀ : State) (n p : ℕ) (s : State) : Type 0 where
    pub live : is_read (Q k n p) ≡ true
    pub same : after_list y (Q k n p) s ≡ after_list y (L k at) s₀
    pub ends : past (Q k n p) ≡ past (L k at)
    pub size : length s ≡ length s₀
    pub on : at < p

  pub going_start : (y : Layout) (k at : ℕ) (s : State) (n : ℕ) → n ≡ get_or text at 0 → is_read (L k at) ≡ true → Going y k at s n (at + 1) s
  going_start y k at s n q h =
      let e = list_in k at (list_live k at h) ∙ ap (λ (j : ℕ). Q k j (at + 1)) (sym q) in
      record { live = sym (ap is_read e) ∙ h; same = sym (ap (λ (x : Read Stmts). after_list y x s) e); ends = sym (ap past e); size = refl; on = omega arith }

  pub going_on : (y : Layout) (k at : ℕ) (s₀ : State) (n n' p : ℕ) (s s' : State) (m : ℕ) → n ≡ n' + 1 → Going y k at s₀ n p s → (s' ≡ after_stmt y (S k p) s) × (m ≡ past (S k p)) → Going y k at s₀ n' m s'
  going_on y k at s₀ n n' p s s' m e g r =
      let l : 0 < n = omega arith in
      let t = seq_rest k n p g.live l y s s' m r.0 r.1 in
      let f = stmt_forward k p m (seq_first k n p g.live l) r.1 in
      let o = g.on in
      subst (λ (j : ℕ). Going y k at s₀ j m s') (let z : n - 1 ≡ n' = omega arith in z)
      (record { live = t.0; same = t.1 ∙ g.same; ends = t.2 ∙ g.ends; size = ap length r.0 ∙ length_stmt y (S k p) s ∙ g.size; on = omega arith })

  pub going_end : (y : Layout) (k at : ℕ) (s₀ : State) (n p : ℕ) (s : State) → n ≤ 0 → Going y k at s₀ n p s → (s ≡ after_list y (L k at) s₀) × (p ≡ past (L k at))
  unfolding execute_all
  going_end y k at s₀ n p s l g =
      let e = seq_none k n p l in
      (sym (ap (λ (x : Read Stmts). after_list y x s) e) ∙ g.same, sym (ap past e) ∙ g.ends)

  -- statements
  pub stmt_live : (k at : ℕ) → is_read (S k at) ≡ true → at < end
  unfolding statement
  stmt_live zero at h = ltb-true at end (bind_read (ltb at end) _ _ h).0
  stmt_live (suc k) at h = ltb-true at end (bind_read (ltb at end) _ _ h).0

  module _ (k at : ℕ) (h : is_read (S k at) ≡ true) where
    pub stmt_unknown : (get_or text at 0 < 0x20) ⊎ (0x22 ≤ get_or text at 0) → ⊥
    stmt_unknown s = go (S k at) h (stmt_none text N end k at (stmt_live k at h) s)
      where
        go : (x : Read Stmt) → is_read x ≡ true → None ≡ found x → ⊥
        go (got a n) g e = none-some n e
        go bad g e = false≢true g

    module _ (e : get_or text at 0 ≡ 0x20) where
      pub stmt_assign : S k at ≡ assignment text N end (at + 1)
      unfolding statement stmt_op
      stmt_assign = go k h
        where
          go : (k : ℕ) → is_read (S k at) ≡ true → S k at ≡ assignment text N end (at + 1)
          go zero g = simp (lt-ltb at end (stmt_live zero at g), e)
          go (suc k) g = simp (lt-ltb at end (stmt_live (suc k) at g), e)

      pub assign_live : is_read (assignment text N end (at + 1)) ≡ true
      assign_live = sym (ap is_read stmt_assign) ∙ h

      pub assign_runs : (y : Layout) (s s' : State) (m : ℕ) → (s' ≡ after_stmt y (assignment text N end (at + 1)) s) × (m ≡ past (assignment text N end (at + 1))) → (s' ≡ after_stmt y (S k at) s) × (m ≡ past (S k at))
      assign_runs y s s' m r = subst (λ (x : Read Stmt). (s' ≡ after_stmt y x s) × (m ≡ past x)) (sym stmt_assign) r

    module _ (ne : get_or text at 0 ≡ 0x20 → ⊥) where
      is_if : get_or text at 0 ≡ 0x21
      unfolding statement stmt_op
      is_if = go (eqb (get_or text at 0) 0x21) refl
        where
          none : (k : ℕ) → (get_or text at 0 ≡ 0x21 → ⊥) → is_read (S k at) ≡ true → S k at ≡ bad
          none zero e g = simp (lt-ltb at end (stmt_live zero at g), ne_eqb _ _ ne, ne_eqb _ _ e)
          none (suc k) e g = simp (lt-ltb at end (stmt_live (suc k) at g), ne_eqb _ _ ne, ne_eqb _ _ e)

          go : (t : Bool) → eqb (get_or text at 0) 0x21 ≡ t → get_or text at 0 ≡ 0x21
          go true e = eqb-true (get_or text at 0) 0x21 e
          go false e = absurd (refused h (none k (eqb-false (get_or text at 0) 0x21 e) h))

      pub if_deep : k ≡ 0 → ⊥
      unfolding statement stmt_op
      if_deep z = refused h (go k z h)
        where
          go : (k : ℕ) → k ≡ 0 → is_read (S k at) ≡ true → S k at ≡ bad
          go zero z g = simp (lt-ltb at end (stmt_live zero at g), is_if)
          go (suc k) z g = absurd (omega arith)

      pub as_if : S k at ≡ three if_else (C (at + 1)) (L (k - 1))
      unfolding statement stmt_op
      as_if = go k if_deep h
        where
          go : (k : ℕ) → (k ≡ 0 → ⊥) → is_read (S k at) ≡ true → S k at ≡ three if_else (C (at + 1)) (L (k - 1))
          go zero z g = absurd (z refl)
          go (suc k) z g = rw (sub-one, lt-ltb at end (stmt_live (suc k) at g), is_if)

      all : is_read (three if_else (C (at + 1)) (L (k - 1))) ≡ true
      all = sym (ap is_read as_if) ∙ h

      pub if_test : is_read (C (at + 1)) ≡ true
      if_test = three_first if_else (C (at + 1)) (L (k - 1)) all

      module _ (m : ℕ) (q : m ≡ past (C (at + 1))) where
        pub if_then : is_read (L (k - 1) m) ≡ true
        if_then = subst (λ (j : ℕ). is_read (L (k - 1) j) ≡ true) (sym q) (three_second if_else (C (at + 1)) (L (k - 1)) all)

        pub if_else_lem : (p : ℕ) → p ≡ past (L (k - 1) m) → is_read (L (k - 1) p) ≡ true
        if_else_lem p w = subst (λ (j : ℕ). is_read (L (k - 1) j) ≡ true) (sym (w ∙ ap (λ (j : ℕ). past (L (k - 1) j)) q)) (three_third if_else (C (at + 1)) (L (k - 1)) all)

        -- what the list that is taken makes of the state that the condition left is what the whole makes
        module _ (y : Layout) (s s₁ : State) (b u : Bool) (e : b ≡ bool_value y s (C (at + 1))) (f : u ≡ bool_passes y s (C (at + 1))) (g : s₁ ≡ marked_if u y s) where
          left : s₁ ≡ marked_if (bool_passes y s (C (at + 1))) y s
          left = g ∙ ap (λ (t : Bool). marked_if t y s) f

          if_runs : (p : ℕ) → p ≡ past (L (k - 1) m) → (cond b (after_list y (L (k - 1) m) s₁) (after_list y (L (k - 1) p) s₁) ≡ after_stmt y (S k at) s) × (past (L (k - 1) p) ≡ past (S k at))
          if_runs p w =
              let w' : p ≡ past (L (k - 1) (past (C (at + 1)))) = w ∙ ap (λ (j : ℕ). past (L (k - 1) j)) q in (
                ap (λ (t : Bool). cond t (after_list y (L (k - 1) m) s₁) (after_list y (L (k - 1) p) s₁)) e
                    ∙ ap (λ (j : ℕ). cond (bool_value y s (C (at + 1))) (after_list y (L (k - 1) j) s₁) (after_list y (L (k - 1) p) s₁)) q
                    ∙ ap (λ (j : ℕ). cond (bool_value y s (C (at + 1))) (after_list y (L (k - 1) (past (C (at + 1)))) s₁) (after_list y (L (k - 1) j) s₁)) w'
                    ∙ ap (λ (z : State). cond (bool_value y s (C (at + 1))) (after_list y (L (k - 1) (past (C (at + 1)))) z) (after_list y (L (k - 1) (past (L (k - 1) (past (C (at + 1)))))) z)) left
                    ∙ sym (if_value y s (C (at + 1)) (L (k - 1)) all) ∙ sym (ap (λ (x : Read Stmt). after_stmt y x s) as_if),
                ap (λ (j : ℕ). past (L (k - 1) j)) w' ∙ sym (three_past if_else (C (at + 1)) (L (k - 1)) all) ∙ sym (ap past as_if),
              )

        pub runs_then : (y : Layout) (s s₁ s' : State) (b u : Bool) (p n : ℕ) → b ≡ bool_value y s (C (at + 1)) → u ≡ bool_passes y s (C (at + 1)) → s₁ ≡ marked_if u y s → b ≡ true
            → (s' ≡ after_list y (L (k - 1) m) s₁) × (p ≡ past (L (k - 1) m)) → n ≡ past (L (k - 1) p) → (s' ≡ after_stmt y (S k at) s) × (n ≡ past (S k at))
        runs_then y s s₁ s' b u p n e f g t r w = let z = if_runs y s s₁ true u (sym t ∙ e) f g p r.1 in (r.0 ∙ z.0, w ∙ z.1)

        pub runs_else : (y : Layout) (s s₁ s' : State) (b u : Bool) (p n : ℕ) → b ≡ bool_value y s (C (at + 1)) → u ≡ bool_passes y s (C (at + 1)) → s₁ ≡ marked_if u y s → b ≡ false
            → p ≡ past (L (k - 1) m) → (s' ≡ after_list y (L (k - 1) p) s₁) × (n ≡ past (L (k - 1) p)) → (s' ≡ after_stmt y (S k at) s) × (n ≡ past (S k at))
        runs_else y s s₁ s' b u p n e f g t w r = let z = if_runs y s s₁ false u (sym t ∙ e) f g p w in (r.0 ∙ z.0, r.1 ∙ z.1)

  -- assignments, past the operator byte
  module _ (at : ℕ) (h : is_read (assignment text N end at) ≡ true) where
    abbrev target : ℕ
    target = get_or text at 0

    pub assign_inside : (at < end) × (target < N.variables)
    unfolding assignment
    assign_inside =
        let p = bind_read (ltb at end) _ _ h in
        let a = sym (ap is_read p.1) ∙ h in
        (ltb-true _ _ p.0, ltb-true _ _ (provided_read (ltb target N.variables) _ a).0)

    module _ (kind : N.kind_of target ≡ 1) where
      pub as_int : assignment text N end at ≡ bind (int_expr text N end max_depth (at + 1)) (λ e n. got (assign target e) n)
      unfolding assignment
      as_int = simp (lt-ltb _ _ assign_inside.0, lt-ltb _ _ assign_inside.1, eq-eqb _ _ kind)

      pub assign_int : is_read (int_expr text N end max_depth (at + 1)) ≡ true
      assign_int = one_first (assign target) (int_expr text N end max_depth (at + 1)) (sym (ap is_read as_int) ∙ h)

      pub runs_int : (y : Layout) (s s₁ : State) (v r n : ℕ) (u : Bool) → v ≡ target → r ≡ int_value y s (int_expr text N end max_depth (at + 1)) → n ≡ past (int_expr text N end max_depth (at + 1))
          → u ≡ int_passes y s (int_expr text N end max_depth (at + 1)) → s₁ ≡ marked_if u y s → (set s₁ v r ≡ after_stmt y (assignment text N end at) s) × (n ≡ past (assignment text N end at))
      unfolding execute
      runs_int y s s₁ v r n u f p q w g = (
        ap (λ (j : ℕ). set s₁ j r) f ∙ ap (set s₁ target) p
            ∙ ap (λ (z : State). set z target (int_value y s (int_expr text N end max_depth (at + 1)))) (g ∙ ap (λ (t : Bool). marked_if t y s) w)
            ∙ go (int_expr text N end max_depth (at + 1)) assign_int ∙ sym (ap (λ (x : Read Stmt). after_stmt y x s) as_int),
        q ∙ sym (one_past (assign target) (int_expr text N end max_depth (at + 1))) ∙ sym (ap past as_int),
      )
        where
          go : (x : Read IntExpr) → is_read x ≡ true → set (marked_if (int_passes y s x) y s) target (int_value y s x) ≡ after_stmt y (bind x (λ e j. got (assign target e) j)) s
          go (got e j) k = refl
          go bad k = absurd (false≢true k)

    module _ (kind : N.kind_of target ≡ 1 → ⊥) where
      pub as_bool : assignment text N end at ≡ bind (C (at + 1)) (λ e n. got (assign_b target e) n)
      unfolding assignment
      as_bool = simp (lt-ltb _ _ assign_inside.0, lt-ltb _ _ assign_inside.1, ne_eqb _ _ kind)

      pub assign_bool : is_read (C (at + 1)) ≡ true
      assign_bool = one_first (assign_b target) (C (at + 1)) (sym (ap is_read as_bool) ∙ h)

      pub runs_bool : (y : Layout) (s s₁ : State) (b u : Bool) (v r n : ℕ) → v ≡ target → b ≡ bool_value y s (C (at + 1)) → r ≡ bit b → n ≡ past (C (at + 1))
          → u ≡ bool_passes y s (C (at + 1)) → s₁ ≡ marked_if u y s → (set s₁ v r ≡ after_stmt y (assignment text N end at) s) × (n ≡ past (assignment text N end at))
      unfolding execute
      runs_bool y s s₁ b u v r n f p w q t g = (
        ap (λ (j : ℕ). set s₁ j r) f ∙ ap (set s₁ target) (w ∙ ap bit p)
            ∙ ap (λ (z : State). set z target (bit (bool_value y s (C (at + 1))))) (g ∙ ap (λ (x : Bool). marked_if x y s) t)
            ∙ go (C (at + 1)) assign_bool ∙ sym (ap (λ (x : Read Stmt). after_stmt y x s) as_bool),
        q ∙ sym (one_past (assign_b target) (C (at + 1))) ∙ sym (ap past as_bool),
      )
        where
          go : (x : Read BoolExpr) → is_read x ≡ true → set (marked_if (bool_passes y s x) y s) target (bit (bool_value y s x)) ≡ after_stmt y (bind x (λ e j. got (assign_b target e) j)) s
          go (got e j) k = refl
          go bad k = absurd (false≢true k)
