-- Gates of statements and lists of them, over the bytes. Assumes nothing.
use Rattle.std.proofs.Common.{◌≡◌, ℕ, zero, suc, ◌+◌, ◌-◌, ◌*◌, ◌<◌, ◌≤◌, Bool, true, false, eqb, ltb, List, [], ◌∷◌, length, get_or, set, ℤ, sym, refl, ap, ◌∙◌, subst, ap₂, sub-one, arith, ltb-true, lt-ltb, eq-eqb, ne_eqb}
use Rattle.design.specs.Tree.{IntExpr, BoolExpr, Stmt, Stmts, assign, assign_b, if_else, done}
use Rattle.design.specs.Limits.{max_depth}
use Rattle.design.specs.Reading.{got, bad, Reader, provided}
use Rattle.design.specs.Expression.{Names, byte, int_expr, bool_expr}
use Rattle.design.specs.Action.{stmt_op, value, assignment, statements, list_of, conditional, statement, list}
use Rattle.design.specs.State.{Layout}
use Rattle.design.specs.Check.{names_of}
use Rattle.design.specs.declared.shape.Shape.{Shape}
use Rattle.design.specs.Answers.{found}
use Rattle.design.proofs.Forward.{bool_on, list_on, stmt_on}
use Rattle.clauses.specs.Literal.{Literal}
use Rattle.clauses.specs.Circuit.{Build, give, ◌>>=◌, Bits, WithMark}
use Rattle.clauses.specs.Expression.{Slots, int!, bool!, mark_at, with_mark}
use Rattle.clauses.specs.Action.{muxes!, statement!, statements! }
use Rattle.clauses.specs.Formula.{total}
use Rattle.clauses.specs.Writing.{from_code, from_codes, Emits}
use Rattle.clauses.specs.FlatState.{widths_from, slots_of, layout_of, Slotted}
use Rattle.clauses.specs.Encoders.{Writes, Here, Encodes, EncodesMarked, ints_at, bools_at, int_gates, bool_gates, assigns_at, stmts_at, lists_at, IntHere, BoolHere}
use Rattle.clauses.specs.declared.gate.Cursor.{Cursor}
use Rattle.clauses.specs.declared.gate.Pen.{Pen}
use Rattle.clauses.proofs.EmitBuilds.{emits_same, emits_bind, Left, left_start, left_on, left_same, left_end}
use Rattle.clauses.proofs.EmitReads.{provided_got, Bound, bind_got, got_same, OneRead, one_read}
use Rattle.clauses.proofs.EmitStates.{integer_room, boolean_room}
use Rattle.clauses.proofs.EmitExpressions.{Wrote, one_reads, one_emits}

bad_got : {A : Type 0} {a : A} {n : ℕ} → bad ≡ got a n → ⊥
bad_got e = let z : ◌≡◌ {A = ℕ} 0 1 = cc in omega arith

-- an if: its condition and its two lists
pub record IfRead (cond : Reader BoolExpr) (list : Reader Stmts) (at : ℕ) (t : Stmt) (n : ℕ) : Type 0 where
  pub test : BoolExpr
  pub yes : Stmts
  pub no : Stmts
  pub first : ℕ
  pub second : ℕ
  pub reads : cond at ≡ got test first
  pub then : list first ≡ got yes second
  pub else : list second ≡ got no n
  pub tree : t ≡ if_else test yes no

-- a statement and the statements after it
pub record MoreRead (one : Reader Stmt) (rest : Reader Stmts) (at : ℕ) (ts : Stmts) (n : ℕ) : Type 0 where
  pub head : Stmt
  pub tail : Stmts
  pub middle : ℕ
  pub reads : one at ≡ got head middle
  pub then : rest middle ≡ got tail n
  pub tree : ts ≡ Stmts.then head tail

module _ (text : List ℕ) (names : Names) (end : ℕ) where
  abbrev S : ℕ → Reader Stmt
  S k = statement text names end k

  abbrev Q : ℕ → ℕ → Reader Stmts
  Q k n = statements text names end (S k) n

  abbrev L : ℕ → Reader Stmts
  L k = list text names end k

  -- assignments
  module _ (at : ℕ) (t : Stmt) (n : ℕ) (h : assignment text names end at ≡ got t n) where
    found_in : Bound (byte text names end at) (λ (v m : ℕ). provided (ltb v names.variables) (value text names end v (eqb (names.kind_of v) 1) m)) t n
    unfolding assignment
    found_in = bind_got (byte text names end at) _ t n h

    byte_in : (at < end) × (found_in.tree ≡ get_or text at 0) × (found_in.past ≡ at + 1)
    byte_in =
        let w = provided_got (ltb at end) _ _ _ found_in.reads in
        let s = got_same _ _ _ _ w.1 in
        (ltb-true at end w.0, s.0, s.1)

    value_in : (get_or text at 0 < names.variables) × (value text names end (get_or text at 0) (eqb (names.kind_of (get_or text at 0)) 1) (at + 1) ≡ got t n)
    value_in =
        let x = provided_got (ltb found_in.tree names.variables) _ _ _ found_in.rest in (
          subst (λ (v : ℕ). v < names.variables) byte_in.1 (ltb-true _ _ x.0),
          sym (ap₂ (λ (v m : ℕ). value text names end v (eqb (names.kind_of v) 1) m) byte_in.1 byte_in.2) ∙ x.1,
        )

    pub assign_live : (at < end) × (get_or text at 0 < names.variables)
    assign_live = (byte_in.0, value_in.0)

    pub assign_int : names.kind_of (get_or text at 0) ≡ 1 → OneRead (int_expr text names end max_depth) (assign (get_or text at 0)) (at + 1) t n
    assign_int k = one_read (int_expr text names end max_depth) (assign (get_or text at 0)) (at + 1) t n (sym (ap (λ (b : Bool). value text names end (get_or text at 0) b (at + 1)) (eq-eqb _ _ k)) ∙ value_in.1)

    pub assign_flag : (names.kind_of (get_or text at 0) ≡ 1 → ⊥) → OneRead (bool_expr text names end max_depth) (assign_b (get_or text at 0)) (at + 1) t n
    assign_flag k = one_read (bool_expr text names end max_depth) (assign_b (get_or text at 0)) (at + 1) t n (sym (ap (λ (b : Bool). value text names end (get_or text at 0) b (at + 1)) (ne_eqb _ _ k)) ∙ value_in.1)

  -- statements
  module _ (k at : ℕ) (t : Stmt) (n : ℕ) (h : S k at ≡ got t n) where
    pub stmt_live : at < end
    unfolding statement
    stmt_live = go k h
      where
        go : (k : ℕ) → S k at ≡ got t n → at < end
        go zero q = ltb-true at end (provided_got (ltb at end) _ _ _ (bind_got (byte text names end at) _ t n q).reads).0
        go (suc k) q = ltb-true at end (provided_got (ltb at end) _ _ _ (bind_got (byte text names end at) _ t n q).reads).0

    pub stmt_assign : get_or text at 0 ≡ 0x20 → assignment text names end (at + 1) ≡ got t n
    unfolding statement stmt_op
    stmt_assign e = go k h
      where
        go : (k : ℕ) → S k at ≡ got t n → assignment text names end (at + 1) ≡ got t n
        go zero q = simp (lt-ltb at end stmt_live, e) at q
        go (suc k) q = simp (lt-ltb at end stmt_live, e) at q

    pub stmt_if : (get_or text at 0 ≡ 0x20 → ⊥) → (0 < k) × IfRead (bool_expr text names end max_depth) (L (k - 1)) (at + 1) t n
    unfolding statement stmt_op
    stmt_if ne = go k h (eqb (get_or text at 0) 0x21) refl
      where
        inner : (k : ℕ) → conditional text names end (L k) (at + 1) ≡ got t n → IfRead (bool_expr text names end max_depth) (L k) (at + 1) t n
        inner k q =
            let a = bind_got (bool_expr text names end max_depth (at + 1)) _ t n q in
            let b = bind_got (L k a.past) _ t n a.rest in
            let c = one_read (L k) (if_else a.tree b.tree) b.past t n b.rest in
            record { test = a.tree; yes = b.tree; no = c.first; first = a.past; second = b.past; reads = a.reads; then = b.reads; else = c.reads; tree = c.tree }

        go : (k : ℕ) → S k at ≡ got t n → (b : Bool) → eqb (get_or text at 0) 0x21 ≡ b → (0 < k) × IfRead (bool_expr text names end max_depth) (L (k - 1)) (at + 1) t n
        go zero q true e = absurd (bad_got (simp (lt-ltb at end stmt_live, ne_eqb (get_or text at 0) 0x20 ne, e) at q))
        go zero q false e = absurd (bad_got (simp (lt-ltb at end stmt_live, ne_eqb (get_or text at 0) 0x20 ne, e) at q))
        go (suc k) q true e = (omega arith, subst (λ (j : ℕ). IfRead (bool_expr text names end max_depth) (L j) (at + 1) t n) (sym (sub-one (suc k))) (inner k (simp (lt-ltb at end stmt_live, ne_eqb (get_or text at 0) 0x20 ne, e) at q)))
        go (suc k) q false e = absurd (bad_got (simp (lt-ltb at end stmt_live, ne_eqb (get_or text at 0) 0x20 ne, e) at q))

  -- lists
  pub list_in : (k at : ℕ) (ts : Stmts) (n : ℕ) → L k at ≡ got ts n → (at < end) × (Q k (get_or text at 0) (at + 1) ≡ got ts n)
  unfolding list_of
  list_in k at ts n h =
      let p = bind_got (byte text names end at) _ ts n h in
      let w = provided_got (ltb at end) _ _ _ p.reads in
      let s = got_same _ _ _ _ w.1 in
      (ltb-true at end w.0, sym (ap₂ (λ (j m : ℕ). Q k j m) s.0 s.1) ∙ p.rest)

  pub more_in : (k left at : ℕ) (ts : Stmts) (n : ℕ) → 0 < left → Q k left at ≡ got ts n → MoreRead (S k) (Q k (left - 1)) at ts n
  unfolding statements
  more_in k zero at ts n l h = absurd (omega arith)
  more_in k (suc left) at ts n l h =
      let a = bind_got (S k at) _ ts n h in
      let b = one_read (Q k left) (Stmts.then a.tree) a.past ts n a.rest in
      record { head = a.tree; tail = b.first; middle = a.past; reads = a.reads; then = ap (λ (j : ℕ). Q k j a.past) (sub-one (suc left)) ∙ b.reads; tree = b.tree }

  pub none_in : (k left at : ℕ) (ts : Stmts) (n : ℕ) → left ≤ 0 → Q k left at ≡ got ts n → (ts ≡ done) × (n ≡ at)
  unfolding statements
  none_in k zero at ts n l h = got_same _ _ _ _ h
  none_in k (suc left) at ts n l h = absurd (omega arith)

  -- forward
  pub ahead_bool : (d at : ℕ) (e : BoolExpr) (n : ℕ) → bool_expr text names end d at ≡ got e n → at ≤ n
  ahead_bool d at e n h = bool_on text names end d at n (sym (ap found h))

  pub ahead_list : (k at : ℕ) (e : Stmts) (n : ℕ) → L k at ≡ got e n → at ≤ n
  ahead_list k at e n h = list_on text names end k at n (sym (ap found h))

  pub ahead_stmt : (k at : ℕ) (e : Stmt) (n : ℕ) → S k at ≡ got e n → at ≤ n
  ahead_stmt k at e n h = stmt_on text names end k at n (sym (ap found h))

-- what statements build
module _ (l : Layout) (s : Slots) where
  pub assign_tree : (v : ℕ) (e : IntExpr) → statement! (assign v e) l s ≡ (int! true l s (mark_at l s) e >>= (λ (x : WithMark Bits). give (set (with_mark l x.mark s) v x.result)))
  unfolding statement!
  assign_tree v e = refl

  pub flag_tree : (v : ℕ) (e : BoolExpr) → statement! (assign_b v e) l s ≡ (bool! true l s (mark_at l s) e >>= (λ (x : WithMark Literal). give (set (with_mark l x.mark s) v (x.result ∷ []))))
  unfolding statement!
  flag_tree v e = refl

  if_tree : (c : BoolExpr) (a b : Stmts) → statement! (if_else c a b) l s
      ≡ (bool! true l s (mark_at l s) c >>= (λ (x : WithMark Literal). statements! a l (with_mark l x.mark s) >>= (λ (y : Slots). statements! b l (with_mark l x.mark s) >>= muxes! x.result y)))
  unfolding statement!
  if_tree c a b = refl

  then_tree : (x : Stmt) (xs : Stmts) → statements! (Stmts.then x xs) l s ≡ (statement! x l s >>= (λ (r : Slots). statements! xs l r))
  unfolding statements!
  then_tree x xs = refl

  done_tree : (n : ℕ) → statements! done l s n ≡ give s n
  unfolding statements!
  done_tree n = refl

  -- an if, from its four parts; `from` is the state with the condition's mark
  pub if_emits : {one : Reader BoolExpr} {lists : Reader Stmts} {at : ℕ} {t : Stmt} {k : ℕ} → IfRead one lists at t k
      → {n : ℕ} {x0 x1 x2 x3 x4 : List ℤ} {cur : ℕ} (x : WithMark Literal) (from : Slots) {y z r : Slots} {c1 v1 m1 c2 v2 m2 c3 v3 m3 c4 v4 : ℕ} → from ≡ with_mark l x.mark s
      → Wrote one (bool! true l s (mark_at l s)) at n x0 x1 cur x c1 v1 m1 → Wrote lists (λ (ts : Stmts). statements! ts l from) m1 v1 x1 x2 c1 y c2 v2 m2 → Wrote lists (λ (ts : Stmts). statements! ts l from) m2 v2 x2 x3 c2 z c3 v3 m3
      → Emits v3 (muxes! x.result y z v3) x3 x4 c3 r c4 v4 → Emits n (statement! t l s n) x0 x4 cur r c4 v4 × (m3 ≡ k)
  if_emits {lists = lists} {k = k} p {n = n} x from {y = y} {v1 = v1} {v2 = v2} e w1 w2 w3 u =
      let h1 = w1 p.test p.first p.reads in
      let h2 = w2 p.yes p.second (ap lists h1.1 ∙ p.then) in
      let h3 = w3 p.no k (ap lists h2.1 ∙ p.else) in
      let same : (ts : Stmts) (j : ℕ) → statements! ts l from j ≡ statements! ts l (with_mark l x.mark s) j = (λ ts j. ap (λ (z : Slots). statements! ts l z j) e) in (
        emits_same _ _ (ap (λ (b : Build Slots). b n) (sym (ap (λ (t : Stmt). statement! t l s) p.tree ∙ if_tree p.test p.yes p.no)))
            (emits_bind (bool! true l s (mark_at l s) p.test) _ h1.0 (emits_bind (statements! p.yes l (with_mark l x.mark s)) _ (emits_same _ _ (same p.yes v1) h2.0)
            (emits_bind (statements! p.no l (with_mark l x.mark s)) (muxes! x.result y) (emits_same _ _ (same p.no v2) h3.0) u))),
        h3.1,
      )

-- What stands where a statement is read, for every end and number of levels with which it is read.
module _ (file : List ℕ) (shape : Shape) where
  abbrev N : Names
  N = names_of file shape

  abbrev SL : List ℕ → Slots
  SL codes = slots_of file shape codes

  abbrev SG : List ℕ → Stmt → Build Slots
  SG codes t = statement! t (layout_of shape) (SL codes)

  abbrev LG : List ℕ → Stmts → Build Slots
  LG codes ts = statements! ts (layout_of shape) (SL codes)

  module _ {at : ℕ} (h : Here file (assigns_at file file shape) at) where
    reads_here : assignment file N h.end at ≡ got h.read.tree h.read.past
    reads_here = h.read.reads

    pub assign_here : (at < length file) × (get_or file at 0 < shape.variables)
    assign_here = let k = assign_live file N h.end at _ _ reads_here in (omega (arith, k.0, h.inside), k.1)

    pub assign_int_here : get_or file (3 * get_or file at 0) 0 ≡ 1 → IntHere file file shape false (at + 1)
    assign_int_here k = record { end = h.end; levels = max_depth; inside = h.inside; read = one_reads (assign_int file N h.end at _ _ reads_here k) }

    pub assign_flag_here : (get_or file (3 * get_or file at 0) 0 ≡ 1 → ⊥) → BoolHere file file shape false (at + 1)
    assign_flag_here k = record { end = h.end; levels = max_depth; inside = h.inside; read = one_reads (assign_flag file N h.end at _ _ reads_here k) }

    -- its variable's literals; v is what the code read
    module _ {codes : List ℕ} (s : Slotted false file shape codes) (v o : ℕ) (e : v ≡ get_or file at 0) (q : o ≡ total (widths_from file 0 v)) where
      pub assign_int_room : get_or file (3 * v) 0 ≡ 1 → o + 16 ≤ length codes
      assign_int_room k = integer_room file shape (get_or file at 0) v o codes e assign_here.1 q s.bits (subst (λ (j : ℕ). get_or file (3 * j) 0 ≡ 1) e k)

      pub assign_flag_room : (get_or file (3 * v) 0 ≡ 1 → ⊥) → o < length codes
      assign_flag_room k = boolean_room file shape (get_or file at 0) v o codes e assign_here.1 q s.bits (subst (λ (j : ℕ). get_or file (3 * j) 0 ≡ 1 → ⊥) e k)

  abbrev IG : List ℕ → Bool → Literal → IntExpr → Build (WithMark Bits)
  IG codes = int_gates file file shape false codes

  abbrev BG : List ℕ → Bool → Literal → BoolExpr → Build (WithMark Literal)
  BG codes = bool_gates file file shape false codes

  -- an assignment's value; k is the code of the state's mark
  module _ {at : ℕ} (codes codes' : List ℕ) (pen : Cursor) (k : ℕ) (e : from_code k ≡ mark_at (layout_of shape) (SL codes)) (p1 : Pen) {xs ys : List ℤ} {m : ℕ} where
    pub assign_int_node : (x : List ℕ) → get_or file (3 * get_or file at 0) 0 ≡ 1 → EncodesMarked file (ints_at file file shape false) (IG codes) (at + 1) (record { at = pen; marks = true; mark = k }) xs ys (from_codes x) p1 m
        → SL codes' ≡ set (with_mark (layout_of shape) (from_code p1.mark) (SL codes)) (get_or file at 0) (from_codes x) → Encodes file (assigns_at file file shape) (SG codes) at pen xs ys (SL codes') p1.at m
    assign_int_node x j w q = record {
      encodes = λ end levels t n i h.
          one_emits (int_expr file N end max_depth) (assign (get_or file at 0)) (int! true (layout_of shape) (SL codes) (mark_at (layout_of shape) (SL codes))) (SG codes) (λ (b : WithMark Bits). set (with_mark (layout_of shape) b.mark (SL codes)) (get_or file at 0) b.result)
          (assign_tree (layout_of shape) (SL codes) (get_or file at 0)) (assign_int file N end at t n h j) (SL codes')
          (λ a d z. let r = w.gates.encodes end max_depth a d i z in (emits_same _ _ (ap (λ (l : Literal). int! true (layout_of shape) (SL codes) l a pen.var) e) r.0, r.1)) q;
    }

    pub assign_flag_node : (x : ℕ) → (get_or file (3 * get_or file at 0) 0 ≡ 1 → ⊥) → EncodesMarked file (bools_at file file shape false) (BG codes) (at + 1) (record { at = pen; marks = true; mark = k }) xs ys (from_code x) p1 m
        → SL codes' ≡ set (with_mark (layout_of shape) (from_code p1.mark) (SL codes)) (get_or file at 0) (from_code x ∷ []) → Encodes file (assigns_at file file shape) (SG codes) at pen xs ys (SL codes') p1.at m
    assign_flag_node x j w q = record {
      encodes = λ end levels t n i h.
          one_emits (bool_expr file N end max_depth) (assign_b (get_or file at 0)) (bool! true (layout_of shape) (SL codes) (mark_at (layout_of shape) (SL codes))) (SG codes) (λ (b : WithMark Literal). set (with_mark (layout_of shape) b.mark (SL codes)) (get_or file at 0) (b.result ∷ []))
          (flag_tree (layout_of shape) (SL codes) (get_or file at 0)) (assign_flag file N end at t n h j) (SL codes')
          (λ a d z. let r = w.gates.encodes end max_depth a d i z in (emits_same _ _ (ap (λ (l : Literal). bool! true (layout_of shape) (SL codes) l a pen.var) e) r.0, r.1)) q;
    }

  module _ {at : ℕ} (codes codes' : List ℕ) {pen p1 : Cursor} {xs ys : List ℤ} {m : ℕ} where
    -- a statement that is an assignment
    pub stmt_assign_node : get_or file at 0 ≡ 0x20 → Encodes file (assigns_at file file shape) (SG codes) (at + 1) pen xs ys (SL codes') p1 m → Encodes file (stmts_at file file shape) (SG codes) at pen xs ys (SL codes') p1 m
    stmt_assign_node e w = record { encodes = λ end levels t n i h. w.encodes end levels t n i (stmt_assign file N end levels at t n h e) }

  module _ {at : ℕ} (h : Here file (stmts_at file file shape) at) where
    stmt_reads : statement file N h.end h.levels at ≡ got h.read.tree h.read.past
    stmt_reads = h.read.reads

    pub stmt_here : at < length file
    stmt_here = omega (arith, stmt_live file N h.end h.levels at _ _ stmt_reads, h.inside)

    pub stmt_assign_here : get_or file at 0 ≡ 0x20 → Here file (assigns_at file file shape) (at + 1)
    stmt_assign_here e = record { end = h.end; levels = h.levels; inside = h.inside; read = record { tree = h.read.tree; past = h.read.past; reads = stmt_assign file N h.end h.levels at _ _ stmt_reads e } }

    module _ (z : get_or file at 0 ≡ 0x20 → ⊥) where
      parts : IfRead (bool_expr file N h.end max_depth) (list file N h.end (h.levels - 1)) (at + 1) h.read.tree h.read.past
      parts = (stmt_if file N h.end h.levels at _ _ stmt_reads z).1

      pub if_test_here : BoolHere file file shape false (at + 1)
      if_test_here = record { end = h.end; levels = max_depth; inside = h.inside; read = record { tree = parts.test; past = parts.first; reads = parts.reads } }

      module _ (codes : List ℕ) {pen p1 : Pen} {xs ys : List ℤ} {out : Literal} {m : ℕ} (w : EncodesMarked file (bools_at file file shape false) (BG codes) (at + 1) pen xs ys out p1 m) where
        first_at : m ≡ parts.first
        first_at = (w.gates.encodes h.end max_depth _ _ h.inside parts.reads).1

        pub if_first_here : Here file (lists_at file file shape) m
        if_first_here = record { end = h.end; levels = h.levels - 1; inside = h.inside; read = record { tree = parts.yes; past = parts.second; reads = ap (list file N h.end (h.levels - 1)) first_at ∙ parts.then } }

        pub if_first_on : at < m
        if_first_on = omega (arith, first_at, ahead_bool file N h.end max_depth (at + 1) parts.test parts.first parts.reads)

        module _ (marked : List ℕ) {q0 q1 : Cursor} {us zs : List ℤ} {slots : Slots} {m2 : ℕ} (u : Encodes file (lists_at file file shape) (LG marked) m q0 us zs slots q1 m2) where
          second_at : m2 ≡ parts.second
          second_at = (u.encodes h.end (h.levels - 1) _ _ h.inside (ap (list file N h.end (h.levels - 1)) first_at ∙ parts.then)).1

          pub if_second_here : Here file (lists_at file file shape) m2
          if_second_here = record { end = h.end; levels = h.levels - 1; inside = h.inside; read = record { tree = parts.no; past = h.read.past; reads = ap (list file N h.end (h.levels - 1)) second_at ∙ parts.else } }

          pub if_second_on : at < m2
          if_second_on = omega (arith, if_first_on, second_at, first_at, ahead_list file N h.end (h.levels - 1) parts.first parts.yes parts.second parts.then)

  -- `marked` is the state with the mark that the condition left
  pub if_node : {at : ℕ} (codes marked : List ℕ) (y z r : List ℕ) (x : ℕ) (pen : Cursor) (k : ℕ) (p1 : Pen) {p2 p3 p4 : Cursor} {x0 x1 x2 x3 x4 : List ℤ} {m1 m2 m3 : ℕ} → (get_or file at 0 ≡ 0x20 → ⊥)
      → from_code k ≡ mark_at (layout_of shape) (SL codes) → SL marked ≡ with_mark (layout_of shape) (from_code p1.mark) (SL codes)
      → EncodesMarked file (bools_at file file shape false) (BG codes) (at + 1) (record { at = pen; marks = true; mark = k }) x0 x1 (from_code x) p1 m1 → Encodes file (lists_at file file shape) (LG marked) m1 p1.at x1 x2 (SL y) p2 m2
      → Encodes file (lists_at file file shape) (LG marked) m2 p2 x2 x3 (SL z) p3 m3 → Writes p3 (muxes! (from_code x) (SL y) (SL z)) x3 x4 (SL r) p4 → Encodes file (stmts_at file file shape) (SG codes) at pen x0 x4 (SL r) p4 m3
  if_node codes marked y z r x pen k p1 ne e q w1 w2 w3 u = record {
    encodes = λ end levels t n i h.
        if_emits (layout_of shape) (SL codes) (stmt_if file N end levels _ t n h ne).1 (record { result = from_code x; mark = from_code p1.mark }) (SL marked) q
        (λ a j g. let d = w1.gates.encodes end max_depth a j i g in (emits_same _ _ (ap (λ (l : Literal). bool! true (layout_of shape) (SL codes) l a pen.var) e) d.0, d.1)) (λ a j g. w2.encodes end (levels - 1) a j i g) (λ a j g. w3.encodes end (levels - 1) a j i g) u;
  }

  -- the walk of a list
  pub record Listing (at : ℕ) (codes₀ : List ℕ) (n₀ : ℕ) (xs₀ : List ℤ) (cur₀ : ℕ) (count p : ℕ) (codes : List ℕ) (xs : List ℤ) (cur v : ℕ) : Type 0 where
    pub ahead : at < p
    pub here : Here file (λ (end k : ℕ). Q file N end k count) p
    pub left : (end k : ℕ) (ts rs : Stmts) (n : ℕ) → end ≤ length file → L file N end k at ≡ got ts n → Q file N end k count p ≡ got rs n → Left n₀ (LG codes₀ ts n₀) xs₀ cur₀ v (LG codes rs v) xs cur (λ (x : Slots). x)
    pub past : (end k : ℕ) (ts : Stmts) (n : ℕ) → end ≤ length file → L file N end k at ≡ got ts n → (rs : Stmts) × (Q file N end k count p ≡ got rs n)

  pub list_here : {at : ℕ} → Here file (lists_at file file shape) at → at < length file
  list_here {at} h = omega (arith, (list_in file N h.end h.levels at _ _ h.read.reads).0, h.inside)

  pub listing_start : (at : ℕ) (codes : List ℕ) (n : ℕ) (xs : List ℤ) (cur count : ℕ) → count ≡ get_or file at 0 → Here file (lists_at file file shape) at → Listing at codes n xs cur count (at + 1) codes xs cur n
  listing_start at codes n xs cur count e r =
      let q : (end k : ℕ) (ts : Stmts) (m : ℕ) → L file N end k at ≡ got ts m → Q file N end k count (at + 1) ≡ got ts m = (λ end k ts m w. ap (λ (j : ℕ). Q file N end k j (at + 1)) e ∙ (list_in file N end k at ts m w).1) in
      record {
        ahead = omega arith;
        here = record { end = r.end; levels = r.levels; inside = r.inside; read = record { tree = r.read.tree; past = r.read.past; reads = q r.end r.levels r.read.tree r.read.past r.read.reads } };
        left = λ end k ts rs m i w u. left_same _ _ (ap (λ (x : Stmts). LG codes x n) (sym (got_same _ _ _ _ (sym (q end k ts m w) ∙ u)).0)) (left_start n (LG codes ts n) xs cur);
        past = λ end k ts m i w. (ts, q end k ts m w);
      }

  module _ {at : ℕ} {codes₀ : List ℕ} {n₀ : ℕ} {xs₀ : List ℤ} {cur₀ count p : ℕ} {codes : List ℕ} {xs : List ℤ} {cur v : ℕ} (l : Listing at codes₀ n₀ xs₀ cur₀ count p codes xs cur v) where
    pub listing_here : 0 < count → Here file (stmts_at file file shape) p
    listing_here h =
        let r = l.here in
        let m = more_in file N r.end r.levels count p _ _ h r.read.reads in
        record { end = r.end; levels = r.levels; inside = r.inside; read = record { tree = m.head; past = m.middle; reads = m.reads } }

    pub listing_on : 0 < count → {ys : List ℤ} (codes' : List ℕ) {p1 : Cursor} {q : ℕ}
        → Encodes file (stmts_at file file shape) (SG codes) p (record { cur = cur; var = v }) xs ys (SL codes') p1 q → Listing at codes₀ n₀ xs₀ cur₀ (count - 1) q codes' ys p1.cur p1.var
    listing_on h codes' {p1 = p1} {q = q} w =
        let r = l.here in
        let step : (end k : ℕ) (rs : Stmts) (n : ℕ) → Q file N end k count p ≡ got rs n → MoreRead (S file N end k) (Q file N end k (count - 1)) p rs n = (λ end k rs n u. more_in file N end k count p rs n h u) in
        let on : (end k : ℕ) (rs : Stmts) (n : ℕ) → end ≤ length file → (u : Q file N end k count p ≡ got rs n) → q ≡ (step end k rs n u).middle = (λ end k rs n i u. (w.encodes end k _ _ i (step end k rs n u).reads).1) in
        let m = step r.end r.levels _ _ r.read.reads in
        record {
          ahead = omega (arith, l.ahead, ahead_stmt file N r.end r.levels p _ _ m.reads, on r.end r.levels _ _ r.inside r.read.reads);
          here = record { end = r.end; levels = r.levels; inside = r.inside; read = record { tree = m.tail; past = r.read.past; reads = ap (Q file N r.end r.levels (count - 1)) (on r.end r.levels _ _ r.inside r.read.reads) ∙ m.then } };
          left = λ end k ts rs n i a u.
              let b = l.past end k ts n i a in
              let d = step end k b.0 n b.1 in
              let same : d.tail ≡ rs = sym (got_same _ _ _ _ (sym (ap (Q file N end k (count - 1)) (on end k _ _ i b.1) ∙ d.then) ∙ u)).0 in
              left_same _ _ (ap (λ (x : Stmts). LG codes' x p1.var) same)
              (left_on (SG codes d.head) (λ (r : Slots). statements! d.tail (layout_of shape) r)
              (left_same _ _ (ap (λ (x : Stmts). LG codes x v) d.tree ∙ ap (λ (x : Build Slots). x v) (then_tree (layout_of shape) (SL codes) d.head d.tail)) (l.left end k ts b.0 n i a b.1))
              (w.encodes end k _ _ i d.reads).0);
          past = λ end k ts n i a. let b = l.past end k ts n i a in let d = step end k b.0 n b.1 in (d.tail, ap (Q file N end k (count - 1)) (on end k _ _ i b.1) ∙ d.then);
        }

    pub listing_next : {rest : ℕ} → 0 < count → rest ≡ count - 1 → {ys : List ℤ} (codes' : List ℕ) {p1 : Cursor} {q : ℕ}
        → Encodes file (stmts_at file file shape) (SG codes) p (record { cur = cur; var = v }) xs ys (SL codes') p1 q → Listing at codes₀ n₀ xs₀ cur₀ rest q codes' ys p1.cur p1.var
    listing_next h e codes' w = rw e (listing_on h codes' w)

    pub listing_end : count ≤ 0 → Encodes file (lists_at file file shape) (LG codes₀) at (record { cur = cur₀; var = n₀ }) xs₀ xs (SL codes) (record { cur = cur; var = v }) p
    listing_end h = record {
      encodes = λ end k ts n i a.
          let b = l.past end k ts n i a in
          let e = none_in file N end k count p b.0 n h b.1 in
          (left_end (SL codes) (left_same _ _ (ap (λ (x : Stmts). LG codes x v) e.0 ∙ done_tree (layout_of shape) (SL codes) v) (l.left end k ts b.0 n i a b.1)), sym e.1);
    }
