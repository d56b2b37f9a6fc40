-- What stands at the cells of an accepted file, and the gates of cells and externals. Assumes nothing.
use Rattle.std.proofs.Common.{◌≡◌, ℕ, zero, suc, ◌+◌, ◌*◌, ◌/◌, ◌%◌, ◌<◌, ◌≤◌, Bool, true, false, List, [], ◌∷◌, length, get_or, take, set, ℤ, sym, refl, ap, ◌∙◌, ap₂, arith, length-take-le}
use Rattle.design.specs.Tree.{BoolExpr, constant_b, Cell, Design, cell, raise, truth}
use Rattle.design.specs.Limits.{max_bytes, max_depth, max_nest, max_bits, pair_bits, event_places}
use Rattle.design.specs.State.{Layout, status_slot, status_width}
use Rattle.design.specs.Reading.{got}
use Rattle.design.specs.Expression.{bool_expr}
use Rattle.design.specs.DesignFile.{c_matrix, c_status, c_event, c_guard, c_middle, c_past, events}
use Rattle.design.specs.Check.{names_of, names, items_end, matrices_offset, event_in}
use Rattle.design.specs.declared.shape.Shape.{Shape}
use Rattle.design.specs.Sections.{Parts, NormalRead, CellFields}
use Rattle.design.proofs.Places.{Read as Tree, read}
use Rattle.design.proofs.Indexed as indexed
use Rattle.design.proofs.Widths.{total_append}
use Rattle.design.specs.Sections.{NormalCell}
use Rattle.clauses.specs.Literal.{Literal, positive, negate, true_literal, literal_of}
use Rattle.clauses.specs.Circuit.{Built, Build, give, ◌>>=◌, and!, mux!, equal!, Bits}
use Rattle.clauses.specs.Expression.{Slots, constant_bits, integer_at, boolean_at, bool!, test! }
use Rattle.clauses.specs.Action.{mux_bits!, muxes!, statements!, status_and_event!, enable!, effect!, mover! }
use Rattle.clauses.specs.Formula.{total, variables_from}
use Rattle.clauses.specs.Writing.{from_code, from_codes, Emits}
use Rattle.clauses.specs.FlatState.{widths_from, widths_in, layout_of, cut, slots_of, read_widths, over, Slotted}
use Rattle.clauses.specs.Encoders.{Writes, Gives, Here, lists_at, BoolHere, TestEncoded, ListEncoded}
use Rattle.clauses.specs.Ready.{ShapedFile, Ready, result_from}
use Rattle.clauses.specs.declared.gate.Cursor.{Cursor}
use Rattle.clauses.specs.declared.gate.Out.{Out}
use Rattle.clauses.specs.declared.action.Done.{Done}
use Rattle.clauses.proofs.CellCounts.{sizes, kinds, tables}
use Rattle.clauses.proofs.EmitWords.{code_yes}
use Rattle.clauses.proofs.EmitLists.{codes_length, codes_take}
use Rattle.clauses.proofs.EmitBuilds.{emits_same, emits_result, emits_give, emits_bind, emits_map}
use Rattle.clauses.proofs.EmitStates.{muxes_flat, status_over}

module _ {file : List ℕ} {shape : Shape} (h : ShapedFile file shape) where
  pub few_bits : total (widths_in file shape) ≤ max_bits
  few_bits = omega (arith, h.bits.few, h.bits.total)

  slotted_in : (later : Bool) (codes : List ℕ) → total (read_widths later file shape) ≤ length codes → Slotted later file shape codes
  slotted_in later codes e = record { kinds = kinds h; variables = (sizes h).3; matrices = (sizes h).2; sum = h.bits.total; few = h.bits.few; bits = e }

  pub slotted : (codes : List ℕ) → length codes ≡ max_bits → Slotted false file shape codes
  slotted codes e = slotted_in false codes (omega (arith, few_bits))

  -- the literals of two states
  pub slotted_two : (codes : List ℕ) → length codes ≡ pair_bits → Slotted true file shape codes
  slotted_two codes e = slotted_in true codes (omega (arith, few_bits, total_append (widths_in file shape) (widths_in file shape)))

module _ {file table : List ℕ} {shape : Shape} (h : Ready file table shape) where
  long : length file ≤ max_bytes
  long = (sizes h.shaped).1

  tree : Tree file
  tree = read file h.shaped.accepted

  -- the event that the cell at p names
  module _ {p m e : ℕ} (g : CellFields file p) (a : m ≡ c_matrix file p) (b : e ≡ c_event file p) where
    abbrev place : ℕ
    place = get_or table (16 * m + e) 0

    named : (m < shape.matrices) × (e < events file (matrices_offset file) m)
    named = indexed.cell_names file table shape (tables h) p m e a b g

    pub event_slot : 16 * m + e < event_places
    event_slot = indexed.event_slot file table shape (tables h) m e named.0 named.1

    pub event_inside : place + 1 + get_or file place 0 ≤ items_end file
    event_inside = indexed.event_inside file table shape (tables h) m e named.0 named.1

    event_got : (d : Design) (w : Parts file d) (at : ℕ) → at ≡ place → bool_expr file (names_of file shape) (place + 1 + get_or file place 0) max_depth (at + 1) ≡ got (event_in w.rows m e) (place + 1 + get_or file place 0)
    event_got d w at q = indexed.event_got file table shape (tables h) m e named.0 named.1 d w _ (at + 1) refl (ap (λ (k : ℕ). k + 1) q)

    pub event_here : (at : ℕ) → at ≡ place → BoolHere file file shape false (at + 1)
    event_here at q = record {
      end = place + 1 + get_or file place 0;
      levels = max_depth;
      inside = omega (arith, event_inside, long);
      read = record { tree = event_in tree.all.parts.rows m e; past = place + 1 + get_or file place 0; reads = event_got tree.tree tree.all.parts at q };
    }

    -- its gates
    pub event_writes : (at : ℕ) → at ≡ place → (codes : List ℕ) {pen : Cursor} {xs ys : List ℤ} (r : Out ℕ) → TestEncoded file file shape false codes (at + 1) pen xs ys r
        → (d : Design) (w : Parts file d) → Gives pen (test! (layout_of shape) (slots_of file shape codes) (event_in w.rows (c_matrix file p) (c_event file p))) xs ys r
    event_writes at q codes {pen = pen} r k d w =
        emits_same _ _ (ap₂ (λ (x y : ℕ). test! (layout_of shape) (slots_of file shape codes) (event_in w.rows x y) pen.var) a b)
        (k (place + 1 + get_or file place 0) max_depth _ _ (omega (arith, event_inside, long)) (event_got d w at q))

  -- a normal cell
  module _ (p : ℕ) (x : NormalCell file p) where
    pub normal_fields : CellFields file p
    normal_fields = indexed.normal_fields file table shape (tables h) p x

    pub is : NormalRead file (items_end file) (names file) (matrices_offset file) (event_in x.parts.rows) p x.cell
    is = indexed.cell_is file table shape (tables h) p x

    pub guard_none : c_guard file p ≡ 0 → x.cell.guard ≡ constant_b true
    guard_none = indexed.guard_none file table shape (tables h) p x

    -- a guard that is there, and the action
    pub guard_here : (n : ℕ) → n ≡ c_guard file p → (n ≡ 0 → ⊥) → BoolHere file file shape false (p + 8)
    guard_here n e z = record { end = p + 8 + n; levels = max_depth; inside = omega (arith, normal_fields.past, long); read = record { tree = x.cell.guard; past = c_middle file p; reads = indexed.guard_got file table shape (tables h) p x n e z } }

    pub guard_writes : (n : ℕ) → n ≡ c_guard file p → (n ≡ 0 → ⊥) → (codes : List ℕ) {pen : Cursor} {xs ys : List ℤ} (r : Out ℕ) → TestEncoded file file shape false codes (p + 8) pen xs ys r
        → Gives pen (test! (layout_of shape) (slots_of file shape codes) x.cell.guard) xs ys r
    guard_writes n e z codes r k = k (p + 8 + n) max_depth _ _ (omega (arith, normal_fields.past, long)) (indexed.guard_got file table shape (tables h) p x n e z)

    pub action_here : (m : ℕ) → m ≡ c_middle file p → Here file (lists_at file file shape) m
    action_here m a = record { end = c_past file p; levels = max_nest; inside = omega (arith, normal_fields.past, long); read = record { tree = x.cell.action; past = c_past file p; reads = indexed.action_got file table shape (tables h) p x m (c_past file p) a refl } }

    pub action_writes : (m : ℕ) → m ≡ c_middle file p → (codes after : List ℕ) {pen : Cursor} {xs ys : List ℤ} (r : Done) → ListEncoded file shape codes after m pen xs ys r
        → Writes pen (statements! x.cell.action (layout_of shape) (slots_of file shape codes)) xs ys (slots_of file shape after) r.pen
    action_writes m a codes after r k = (k.encodes (c_past file p) max_nest _ _ (omega (arith, normal_fields.past, long)) (indexed.action_got file table shape (tables h) p x m (c_past file p) a refl)).0

-- gates of a cell's parts
pub event_emits : (l : Layout) (s : Slots) (m st : ℕ) (event : BoolExpr) (x k : Bits) (q v r : Literal) {n : ℕ} {x0 x1 x2 x3 : List ℤ} {c0 c1 c2 c3 v1 v2 v3 : ℕ} → x ≡ integer_at s (status_slot l m) → k ≡ constant_bits 16 st
    → Emits n (equal! x k n) x0 x1 c0 q c1 v1 → Emits v1 (test! l s event v1) x1 x2 c1 v c2 v2 → Emits v2 (and! q v v2) x2 x3 c2 r c3 v3 → Emits n (status_and_event! l s m st event n) x0 x3 c0 r c3 v3
unfolding status_and_event!
event_emits l s m st event x k q v r {n = n} ex ek w1 w2 w3 =
    emits_bind (equal! (integer_at s (status_slot l m)) (constant_bits 16 st)) _ (emits_same _ _ (ap₂ (λ (a b : Bits). equal! a b n) ex ek) w1) (emits_bind (test! l s event) (and! q) w2 w3)

pub enable_emits : (l : Layout) (s : Slots) (c : Cell) (a g r : Literal) {n : ℕ} {x0 x1 x2 x3 : List ℤ} {c0 c1 c2 c3 v1 v2 v3 : ℕ}
    → Emits n (status_and_event! l s c.matrix c.status c.event n) x0 x1 c0 a c1 v1 → Emits v1 (test! l s c.guard v1) x1 x2 c1 g c2 v2 → Emits v2 (and! a g v2) x2 x3 c2 r c3 v3 → Emits n (enable! l s (cell c) n) x0 x3 c0 r c3 v3
unfolding enable!
enable_emits l s c a g r w1 w2 w3 =
    emits_bind (status_and_event! l s c.matrix c.status c.event) _ w1 (emits_bind (test! l s c.guard) (and! a) w2 w3)

-- an absent expression is true
test_true : (l : Layout) (s : Slots) → test! l s (constant_b true) ≡ give true_literal
unfolding test! bool! give ◌>>=◌
test_true l s = refl

pub test_none : (l : Layout) (s : Slots) (e : BoolExpr) → e ≡ constant_b true → test! l s e ≡ give true_literal
test_none l s e q = ap (test! l s) q ∙ test_true l s

pub guard_true : (l : Layout) (s : Slots) (g : BoolExpr) (n : ℕ) (xs : List ℤ) (cur : ℕ) → g ≡ constant_b true → Emits n (test! l s g n) xs xs cur (from_code 2) cur n
guard_true l s g n xs cur e = emits_result _ (sym code_yes) (emits_same _ _ (ap (λ (b : Build Literal). b n) (sym (test_none l s g e))) (emits_give n true_literal xs cur))

-- the result of muxes is consecutive variables
bits_out : (c : Literal) (xs ys : Bits) (n : ℕ) → length xs ≡ length ys → (mux_bits! c xs ys n).out ≡ variables_from n (length xs)
unfolding mux_bits! mux! give ◌>>=◌
bits_out c [] ys n e = refl
bits_out c (x ∷ xs) [] n e = absurd (omega arith)
bits_out c (x ∷ xs) (y ∷ ys) n e = ap (λ (r : Bits). positive n ∷ r) (bits_out c xs ys (suc n) (omega arith))

module _ (file : List ℕ) (shape : Shape) where
  pub muxes_result : (c : Literal) (a b : List ℕ) (n : ℕ) → total (widths_in file shape) ≤ length a → total (widths_in file shape) ≤ length b → (muxes! c (slots_of file shape a) (slots_of file shape b) n).out ≡ result_from file shape n
  unfolding slots_of result_from ◌>>=◌ give
  muxes_result c a b n p q =
      let ws = widths_in file shape in
      let T = total ws in
      let la : length (take T (from_codes a)) ≡ T = length-take-le T (from_codes a) (omega (arith, codes_length a)) in
      let lb : length (take T (from_codes b)) ≡ T = length-take-le T (from_codes b) (omega (arith, codes_length b)) in
      ap (λ (z : Built Slots). z.out) (muxes_flat c ws (from_codes a) (from_codes b) n (omega (arith, codes_length a)) (omega (arith, codes_length b)))
      ∙ ap (cut ws) (bits_out c (take T (from_codes a)) (take T (from_codes b)) n (la ∙ sym lb) ∙ ap (variables_from n) la)

  -- so the result may be named by the first of them
  pub muxes_first : (c : Literal) (a b : List ℕ) {n : ℕ} {xs ys : List ℤ} {cur : ℕ} {out : Slots} {c' v' : ℕ} → total (widths_in file shape) ≤ max_bits → length a ≡ max_bits → length b ≡ max_bits
      → Emits n (muxes! c (slots_of file shape a) (slots_of file shape b) n) xs ys cur out c' v' → Emits n (muxes! c (slots_of file shape a) (slots_of file shape b) n) xs ys cur (result_from file shape n) c' v'
  muxes_first c a b {n = n} t p q w = record {
    emits = λ r.
        let k = w.emits r in
        record { written = k.written; cursor = k.cursor; result = sym (muxes_result c a b n (omega arith) (omega arith)); next = k.next; counted = k.counted };
  }

take_bits : (w k n : ℕ) → take w (constant_bits (w + k) n) ≡ constant_bits w n
take_bits zero k n = none (constant_bits (0 + k) n)
  where
    none : (l : Bits) → take 0 l ≡ []
    none [] = refl
    none (x ∷ l) = refl
take_bits (suc w) k n = ap (λ (j : ℕ). take (suc w) (constant_bits j n)) (let q : suc w + k ≡ suc (w + k) = omega arith in q) ∙ ap (λ (r : Bits). literal_of (truth (n % 2)) ∷ r) (take_bits w k (n / 2))

module _ (file : List ℕ) (shape : Shape) (codes : List ℕ) (few : total (widths_in file shape) ≤ max_bits) (size : length codes ≡ max_bits) where
  -- the target stored into the state
  pub target_set : (m m' o t t' : ℕ) (x s : List ℕ) → m' ≡ m → t' ≡ t → m < shape.matrices → o ≡ total (widths_from file 0 shape.variables) + 4 * m' → from_codes x ≡ constant_bits 16 t' → length x ≡ 16 → s ≡ over o (take 4 x) codes
      → slots_of file shape s ≡ set (slots_of file shape codes) (shape.variables + m) (constant_bits status_width t)
  target_set m m' o t t' x s em et l e k lx w =
      ap (slots_of file shape) w
      ∙ status_over file shape m o (take 4 x) codes l (e ∙ ap (λ (j : ℕ). total (widths_from file 0 shape.variables) + 4 * j) em) (length-take-le 4 x (omega arith)) (omega arith)
      ∙ ap (set (slots_of file shape codes) (shape.variables + m)) (codes_take 4 x ∙ ap (take 4) k ∙ take_bits 4 12 t' ∙ ap (constant_bits 4) et)

-- a mover, from its parts
pub cell_emits : (l : Layout) (s : Slots) (c : Cell) {e : Literal} {r r' out : Slots} {n : ℕ} {x0 x1 x2 x3 : List ℤ} {c0 c1 c2 c3 v1 v2 v3 : ℕ}
    → Emits n (enable! l s (cell c) n) x0 x1 c0 e c1 v1 → Emits v1 (statements! c.action l s v1) x1 x2 c1 r c2 v2 → r' ≡ set r (status_slot l c.matrix) (constant_bits status_width c.target)
    → Emits v2 (muxes! e r' s v2) x2 x3 c2 out c3 v3 → Emits n (mover! l s (cell c) n) x0 x3 c0 out c3 v3
unfolding mover! effect!
cell_emits l s c {e = e} {v2 = v2} w1 w2 q w3 =
    emits_bind (enable! l s (cell c)) _ w1
    (emits_bind (statements! c.action l s >>= (λ (r : Slots). give (set r (status_slot l c.matrix) (constant_bits status_width c.target)))) (λ (r : Slots). muxes! e r s)
    (emits_result _ (sym q) (emits_map (statements! c.action l s) (λ (r : Slots). set r (status_slot l c.matrix) (constant_bits status_width c.target)) w2)) w3)

pub external_emits : (l : Layout) (s : Slots) (v : ℕ) (e : Literal) (r : Slots) {out : Slots} {n : ℕ} {x0 x1 : List ℤ} {c0 c1 v1 : ℕ} → e ≡ negate (boolean_at s v) → r ≡ set s v (true_literal ∷ []) → Emits n (muxes! e r s n) x0 x1 c0 out c1 v1 → Emits n (mover! l s (raise v) n) x0 x1 c0 out c1 v1
unfolding mover! enable! effect!
external_emits l s v e r {n = n} {x0 = x0} {c0 = c0} p q w =
    emits_bind (give (negate (boolean_at s v))) _ (emits_give n (negate (boolean_at s v)) x0 c0)
    (emits_bind (give (set s v (true_literal ∷ []))) (λ (r : Slots). muxes! (negate (boolean_at s v)) r s) (emits_give n (set s v (true_literal ∷ [])) x0 c0)
    (emits_same _ _ (ap₂ (λ (a : Literal) (b : Slots). muxes! a b s n) p q) w))

-- what a cell's bytes name is what its tree has
module _ {file table : List ℕ} {shape : Shape} (h : Ready file table shape) (p : ℕ) (x : NormalCell file p) (l : Layout) (s : Slots) (n : ℕ) where
  pub cell_event : status_and_event! l s (c_matrix file p) (c_status file p) (event_in x.parts.rows (c_matrix file p) (c_event file p)) n ≡ status_and_event! l s x.cell.matrix x.cell.status x.cell.event n
  cell_event =
      let i = is h p x in
      ap₂ (λ (a b : ℕ). status_and_event! l s a b (event_in x.parts.rows (c_matrix file p) (c_event file p)) n) (sym i.matrix) (sym i.status)
      ∙ ap (λ (e : BoolExpr). status_and_event! l s x.cell.matrix x.cell.status e n) (sym i.event)
