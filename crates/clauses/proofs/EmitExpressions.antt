-- Gates of expressions: an operator after its operands, over the bytes. Assumes nothing.
use Rattle.std.proofs.Common.{◌≡◌, ℕ, ◌+◌, ◌-◌, ◌*◌, ◌<◌, ◌≤◌, Bool, true, false, cond, not, ◌||◌, eqb, ltb, ◌⊎◌, List, length, get_or, ℤ, sym, refl, ap, ◌∙◌, subst, ⊎_elim, arith, eq-eqb, ne_eqb}
use Rattle.design.specs.Tree.{IntExpr, BoolExpr, constant, variable, status, sum, difference, product, constant_b, variable_b, not_b, and_b, or_b, equal, less, truth}
use Rattle.design.specs.Reading.{got, Reader}
use Rattle.design.specs.DesignFile.{at16}
use Rattle.design.specs.Expression.{Names, with_later, numbered, int_expr, bool_expr}
use Rattle.design.specs.Check.{names_of}
use Rattle.design.specs.declared.shape.Shape.{Shape}
use Rattle.step.specs.Accepted.{is_read, past}
use Rattle.step.proofs.Values.{integer_byte, status_byte, boolean_byte, arithmetic_of, logic_of, compare_of, int_forward, bool_forward}
use Rattle.design.specs.State.{Layout, number_in, status_slot}
use Rattle.clauses.specs.Literal.{Literal, negate, false_literal, literal_of}
use Rattle.clauses.specs.Circuit.{Build, give, ◌>>=◌, and!, or!, Bits, Summed, sum!, difference!, product!, equal!, less!, WithMark, mark! }
use Rattle.clauses.specs.Expression.{Slots, constant_bits, integer_at, boolean_at, sum_passes!, product_passes!, int!, bool!, test! }
use Rattle.clauses.specs.Writing.{from_code, from_codes, Emits}
use Rattle.clauses.specs.Builders.{beside!, arithmetic!, multiplied!, logic!, compare! }
use Rattle.clauses.specs.FlatState.{read_slots, layout_of, Slotted, Reads}
use Rattle.clauses.specs.Encoders.{Writes, WritesMarked, MarkWritten, Here, Encodes, EncodesMarked, ints_at, bools_at, int_gates, bool_gates, IntHere, BoolHere, TestEncoded}
use Rattle.clauses.specs.declared.gate.Cursor.{Cursor}
use Rattle.clauses.specs.declared.gate.Pen.{Pen}
use Rattle.clauses.specs.declared.expression.Encoded.{Encoded}
use Rattle.clauses.proofs.EmitBuilds.{emits_same, emits_result, emits_give, emits_bind, emits_map}
use Rattle.clauses.proofs.EmitMarks.{Moved, mark_moved}
use Rattle.clauses.proofs.EmitSlots.{slotted_for}
use Rattle.clauses.proofs.EmitReads.{OneRead, TwoRead, Named, above, int_inside, bool_inside, read_constant, read_variable, read_status, names_slot, is_next_status, read_arithmetic, read_product, read_truth, read_flag, is_flag, read_not, read_logic, read_compare}

-- by the operator byte
abbrev marked : Bool → Literal → Summed → Build (WithMark Bits)
marked marks m r = mark! marks m (sum_passes! r) >>= (λ (after : Literal). give (record { result = r.bits; mark = after }))

plus_is : (op : ℕ) (marks : Bool) (x : Bits) (y : WithMark Bits) → op ≡ 0x04 → arithmetic! op marks x y ≡ (sum! x y.result false_literal >>= marked marks y.mark)
unfolding arithmetic!
plus_is op marks x y e = ap (λ (t : Bool). cond t (sum! x y.result false_literal) (difference! x y.result) >>= marked marks y.mark) (eq-eqb op 0x04 e)

minus_is : (op : ℕ) (marks : Bool) (x : Bits) (y : WithMark Bits) → (op ≡ 0x04 → ⊥) → arithmetic! op marks x y ≡ (difference! x y.result >>= marked marks y.mark)
unfolding arithmetic!
minus_is op marks x y e = ap (λ (t : Bool). cond t (sum! x y.result false_literal) (difference! x y.result) >>= marked marks y.mark) (ne_eqb op 0x04 e)

-- an operator's gates, and the mark behind them
module _ (op : ℕ) (x y : Bits) (pen after : Pen) {xs ys zs : List ℤ} (s : Summed) {cur v : ℕ} where
  summed_emits : (build : Build Summed) → arithmetic! op pen.marks x (record { result = y; mark = from_code pen.mark }) ≡ (build >>= marked pen.marks (from_code pen.mark))
      → Emits pen.at.var (build pen.at.var) xs ys pen.at.cur s cur v → MarkWritten (record { cur = cur; var = v }) pen (sum_passes! s) ys zs after
      → WritesMarked pen (arithmetic! op pen.marks x (record { result = y; mark = from_code pen.mark })) xs zs s.bits after
  summed_emits build e w (u, k) = (
    emits_same _ _ (ap (λ (b : Build (WithMark Bits)). b pen.at.var) (sym e)) (emits_bind build (marked pen.marks (from_code pen.mark)) w
        (emits_map (mark! pen.marks (from_code pen.mark) (sum_passes! s)) (λ (m : Literal). record { result = s.bits; mark = m }) u)),
    k,
  )

  pub sum_emits : (c : Literal) → op ≡ 0x04 → c ≡ false_literal → Emits pen.at.var (sum! x y c pen.at.var) xs ys pen.at.cur s cur v → MarkWritten (record { cur = cur; var = v }) pen (sum_passes! s) ys zs after
      → WritesMarked pen (arithmetic! op pen.marks x (record { result = y; mark = from_code pen.mark })) xs zs s.bits after
  sum_emits c e q w u = summed_emits (sum! x y false_literal) (plus_is op pen.marks x _ e) (emits_same _ _ (ap (λ (z : Literal). sum! x y z pen.at.var) q) w) u

  pub minus_emits : (op ≡ 0x04 → ⊥) → Emits pen.at.var (difference! x y pen.at.var) xs ys pen.at.cur s cur v → MarkWritten (record { cur = cur; var = v }) pen (sum_passes! s) ys zs after
      → WritesMarked pen (arithmetic! op pen.marks x (record { result = y; mark = from_code pen.mark })) xs zs s.bits after
  minus_emits e w u = summed_emits (difference! x y) (minus_is op pen.marks x _ e) w u

pub product_emits : (k : ℕ) (x z : Bits) (pen p1 after : Pen) {xs ys zs : List ℤ} (r : Bits) {c v : ℕ} → z ≡ constant_bits 16 0 → Emits pen.at.var (product! 16 k x z pen.at.var) xs ys pen.at.cur r c v
    → Moved pen (record { cur = c; var = v }) p1 → MarkWritten p1.at p1 (product_passes! k x) ys zs after → WritesMarked pen (multiplied! k pen.marks (record { result = x; mark = from_code pen.mark })) xs zs r after
unfolding multiplied!
product_emits k x z pen p1 after r ez w m u =
    let (a, b) = mark_moved (product_passes! k x) pen p1 after m u in (
      emits_bind (product! 16 k x (constant_bits 16 0)) _ (emits_same _ _ (ap (λ (q : Bits). product! 16 k x q pen.at.var) ez) w)
          (emits_map (mark! pen.marks (from_code pen.mark) (product_passes! k x)) (λ (m : Literal). record { result = r; mark = m }) a),
      b,
    )

pub logic_and : (op : ℕ) (x y : Literal) (n : ℕ) → op ≡ 0x13 → logic! op x y n ≡ and! x y n
unfolding logic!
logic_and op x y n e = ap (λ (t : Bool). cond t (and! x y) (or! x y) n) (eq-eqb op 0x13 e)

pub logic_or : (op : ℕ) (x y : Literal) (n : ℕ) → (op ≡ 0x13 → ⊥) → logic! op x y n ≡ or! x y n
unfolding logic!
logic_or op x y n e = ap (λ (t : Bool). cond t (and! x y) (or! x y) n) (ne_eqb op 0x13 e)

pub compare_equal : (op : ℕ) (x y : Bits) (n : ℕ) → op ≡ 0x15 → compare! op x y n ≡ equal! x y n
unfolding compare!
compare_equal op x y n e = ap (λ (t : Bool). cond t (equal! x y) (less! x y) n) (eq-eqb op 0x15 e)

pub compare_less : (op : ℕ) (x y : Bits) (n : ℕ) → (op ≡ 0x15 → ⊥) → compare! op x y n ≡ less! x y n
unfolding compare!
compare_less op x y n e = ap (λ (t : Bool). cond t (equal! x y) (less! x y) n) (ne_eqb op 0x15 e)

-- What a function that writes the gates of the tree at a position ensures.
abbrev pub Wrote : {A B : Type 0} → Reader A → (A → Build B) → ℕ → ℕ → List ℤ → List ℤ → ℕ → B → ℕ → ℕ → ℕ → Type 0
Wrote {A} one build at n xs ys cur out c v past = (e : A) (m : ℕ) → one at ≡ got e m → Emits n (build e n) xs ys cur out c v × (past ≡ m)

module _ {A B : Type 0} (one : Reader A) (build : A → Build B) where
  -- a leaf: nothing is written
  pub leaf_emits : {at n past : ℕ} {e : A} {out : B} {xs : List ℤ} {cur k : ℕ} (t : A) (r : B) → one at ≡ got e k → e ≡ t → build t ≡ give r → out ≡ r → past ≡ k → Emits n (build e n) xs xs cur out cur n × (past ≡ k)
  leaf_emits {n = n} {out = out} {xs = xs} {cur = cur} t r h q p o l =
      (emits_same _ _ (ap (λ (x : B). give x n) o ∙ sym (ap (λ (b : Build B). b n) (ap build q ∙ p))) (emits_give n out xs cur), l)

pub one_reads : {A B : Type 0} {one : Reader A} {f : A → B} {at : ℕ} {e : B} {k : ℕ} → OneRead one f at e k → Reads (one at)
one_reads {k = k} p = record { tree = p.first; past = k; reads = p.reads }

pub two_reads : {A B : Type 0} {one : Reader A} {f : A → A → B} {at : ℕ} {e : B} {k : ℕ} → TwoRead one f at e k → Reads (one at)
two_reads p = record { tree = p.first; past = p.middle; reads = p.reads }

pub two_then : {A B : Type 0} {one : Reader A} {f : A → A → B} {at : ℕ} {e : B} {k m : ℕ} (p : TwoRead one f at e k) → m ≡ p.middle → Reads (one m)
two_then {one = one} {k = k} p q = record { tree = p.second; past = k; reads = ap one q ∙ p.then }

-- one operand, then an operator
module _ {A B R Q : Type 0} (one : Reader A) (f : A → B) (build : A → Build R) (build' : B → Build Q) (g : R → Build Q) (law : (a : A) → build' (f a) ≡ (build a >>= g)) {at : ℕ} {e : B} {k : ℕ} (p : OneRead one f at e k) where
  pub then_emits : {n : ℕ} {xs ys zs : List ℤ} {cur : ℕ} {a : R} {c v m : ℕ} {r : Q} {c' v' : ℕ} → Wrote one build at n xs ys cur a c v m → Emits v (g a v) ys zs c r c' v' → Emits n (build' e n) xs zs cur r c' v' × (m ≡ k)
  then_emits {n = n} w u =
      let h = w p.first k p.reads in
      (emits_same _ _ (ap (λ (b : Build Q). b n) (sym (ap build' p.tree ∙ law p.first))) (emits_bind (build p.first) g h.0 u), h.1)

-- one operand, then a value made of it
module _ {A B R Q : Type 0} (one : Reader A) (f : A → B) (build : A → Build R) (build' : B → Build Q) (g : R → Q) (law : (a : A) → build' (f a) ≡ (build a >>= (λ x. give (g x)))) {at : ℕ} {e : B} {k : ℕ} (p : OneRead one f at e k) where
  pub one_emits : {n : ℕ} {xs ys : List ℤ} {cur : ℕ} {a : R} {c v m : ℕ} (r : Q) → Wrote one build at n xs ys cur a c v m → r ≡ g a → Emits n (build' e n) xs ys cur r c v × (m ≡ k)
  one_emits {ys = ys} {a = a} {c = c} {v = v} r w q = then_emits one f build build' (λ x. give (g x)) law p w (emits_result r (sym q) (emits_give v (g a) ys c))

-- two operands, then an operator; the second one's gates may go by the first one's result
module _ {A B R Q : Type 0} (one : Reader A) (f : A → A → B) (build : A → Build R) (second : R → A → Build R) (build' : B → Build Q) (g : R → R → Build Q) (law : (a b : A) → build' (f a b) ≡ (build a >>= (λ x. second x b >>= g x)))
    {at : ℕ} {e : B} {k : ℕ} (p : TwoRead one f at e k) where
  pub two_emits : {n : ℕ} {xs ys : List ℤ} {cur : ℕ} {a : R} {c v m : ℕ} {zs us : List ℤ} {b : R} {c' v' m' : ℕ} {r : Q} {c'' v'' : ℕ} → Wrote one build at n xs ys cur a c v m → Wrote one (second a) m v ys zs c b c' v' m' → Emits v' (g a b v') zs us c' r c'' v'' → Emits n (build' e n) xs us cur r c'' v'' × (m' ≡ k)
  two_emits {n = n} {a = a} w w' u =
      let h = w p.first p.middle p.reads in
      let h' = w' p.second k (ap one h.1 ∙ p.then) in
      (emits_same _ _ (ap (λ (b : Build Q). b n) (sym (ap build' p.tree ∙ law p.first p.second))) (emits_bind (build p.first) (λ x. second x p.second >>= g x) h.0 (emits_bind (second a p.second) (g a) h'.0 u)), h'.1)

module _ (l : Layout) (s : Slots) (marks : Bool) (m : Literal) where
  pub arithmetic_tree : (op : ℕ) (a b : IntExpr) → int! marks l s m (arithmetic_of op a b) ≡ (int! marks l s m a >>= (λ (x : WithMark Bits). int! marks l s x.mark b >>= arithmetic! op marks x.result))
  unfolding int! arithmetic!
  arithmetic_tree op a b = go (eqb op 0x04)
    where
      go : (t : Bool) → int! marks l s m (cond t sum difference a b)
          ≡ (int! marks l s m a >>= (λ (x : WithMark Bits). int! marks l s x.mark b >>= (λ (y : WithMark Bits). cond t (sum! x.result y.result false_literal) (difference! x.result y.result) >>= marked marks y.mark)))
      go true = refl
      go false = refl

  pub logic_tree : (op : ℕ) (a b : BoolExpr)
      → bool! marks l s m (logic_of op a b) ≡ (bool! marks l s m a >>= (λ (x : WithMark Literal). bool! marks l s x.mark b >>= (λ (y : WithMark Literal). beside! y.mark (logic! op x.result y.result))))
  unfolding bool! logic! beside!
  logic_tree op a b = go (eqb op 0x13)
    where
      go : (t : Bool) → bool! marks l s m (cond t and_b or_b a b)
          ≡ (bool! marks l s m a >>= (λ (x : WithMark Literal). bool! marks l s x.mark b >>= (λ (y : WithMark Literal). beside! y.mark (cond t (and! x.result y.result) (or! x.result y.result)))))
      go true = refl
      go false = refl

  pub compare_tree : (op : ℕ) (a b : IntExpr)
      → bool! marks l s m (compare_of op a b) ≡ (int! marks l s m a >>= (λ (x : WithMark Bits). int! marks l s x.mark b >>= (λ (y : WithMark Bits). beside! y.mark (compare! op x.result y.result))))
  unfolding bool! compare! beside!
  compare_tree op a b = go (eqb op 0x15)
    where
      go : (t : Bool) → bool! marks l s m (cond t equal less a b)
          ≡ (int! marks l s m a >>= (λ (x : WithMark Bits). int! marks l s x.mark b >>= (λ (y : WithMark Bits). beside! y.mark (cond t (equal! x.result y.result) (less! x.result y.result)))))
      go true = refl
      go false = refl

  pub product_tree : (c : ℕ) (a : IntExpr) → int! marks l s m (product c a) ≡ (int! marks l s m a >>= multiplied! c marks)
  unfolding int! multiplied!
  product_tree c a = refl

  pub not_tree : (a : BoolExpr) → bool! marks l s m (not_b a) ≡ (bool! marks l s m a >>= (λ (x : WithMark Literal). give (record { result = negate x.result; mark = x.mark })))
  unfolding bool!
  not_tree a = refl

  pub constant_give : (c : ℕ) → int! marks l s m (constant c) ≡ give (record { result = constant_bits 16 c; mark = m })
  unfolding int!
  constant_give c = refl

  pub variable_give : (v : ℕ) → int! marks l s m (variable v) ≡ give (record { result = integer_at s v; mark = m })
  unfolding int!
  variable_give v = refl

  pub status_give : (k : ℕ) → int! marks l s m (status k) ≡ give (record { result = integer_at s (status_slot l k); mark = m })
  unfolding int!
  status_give k = refl

  pub truth_give : (b : Bool) → bool! marks l s m (constant_b b) ≡ give (record { result = literal_of b; mark = m })
  unfolding bool!
  truth_give b = refl

  pub flag_give : (v : ℕ) → bool! marks l s m (variable_b v) ≡ give (record { result = boolean_at s v; mark = m })
  unfolding bool!
  flag_give v = refl

-- An operator with two operands, for every end and number of levels with which it is read.
abbrev pub Pair : {A B : Type 0} → (ℕ → ℕ → Reader A) → (ℕ → ℕ → Reader B) → (A → A → B) → ℕ → Type 0
Pair {A} {B} inner outer f at = (end levels : ℕ) (e : B) (n : ℕ) → outer end levels at ≡ got e n → TwoRead (inner end (levels - 1)) f (at + 1) e n

pub first_here : {A B : Type 0} {text : List ℕ} (inner : ℕ → ℕ → Reader A) (outer : ℕ → ℕ → Reader B) (f : A → A → B) {at : ℕ} → Pair inner outer f at → Here text outer at → Here text inner (at + 1)
first_here inner outer f pair h = record { end = h.end; levels = h.levels - 1; inside = h.inside; read = two_reads (pair h.end h.levels _ _ h.read.reads) }

module _ {A B R : Type 0} {text : List ℕ} (inner : ℕ → ℕ → Reader A) (outer : ℕ → ℕ → Reader B) (f : A → A → B) {at : ℕ} (pair : Pair inner outer f at)
    {build : Bool → Literal → A → Build (WithMark R)} {pen : Pen} {xs ys : List ℤ} {out : R} {p1 : Pen} {m : ℕ} (w : EncodesMarked text inner build (at + 1) pen xs ys out p1 m) (h : Here text outer at) where
  abbrev here : TwoRead (inner h.end (h.levels - 1)) f (at + 1) h.read.tree h.read.past
  here = pair h.end h.levels _ _ h.read.reads

  abbrev middle : m ≡ here.middle
  middle = (w.gates.encodes h.end (h.levels - 1) _ _ h.inside here.reads).1

  pub second_here : Here text inner m
  second_here = record { end = h.end; levels = h.levels - 1; inside = h.inside; read = two_then here middle }

  pub second_on : ((end levels j : ℕ) (e : A) (n : ℕ) → inner end levels j ≡ got e n → j ≤ n) → at < m
  second_on ahead = omega (arith, ahead h.end (h.levels - 1) (at + 1) here.first here.middle here.reads, middle)

-- the same with one operand, which starts at `from`
abbrev pub Only : {A B : Type 0} → (ℕ → ℕ → Reader A) → (ℕ → ℕ → Reader B) → (A → B) → ℕ → ℕ → Type 0
Only {A} {B} inner outer f at from = (end levels : ℕ) (e : B) (n : ℕ) → outer end levels at ≡ got e n → OneRead (inner end (levels - 1)) f from e n

pub only_here : {A B : Type 0} {text : List ℕ} (inner : ℕ → ℕ → Reader A) (outer : ℕ → ℕ → Reader B) (f : A → B) {at from : ℕ} → Only inner outer f at from → Here text outer at → Here text inner from
only_here inner outer f one h = record { end = h.end; levels = h.levels - 1; inside = h.inside; read = one_reads (one h.end h.levels _ _ h.read.reads) }

-- The gates of an operator from those of its operands. A pen goes through all of them.
module _ {A B R Q : Type 0} {text : List ℕ} (inner : ℕ → ℕ → Reader A) (outer : ℕ → ℕ → Reader B) (build : Bool → Literal → A → Build (WithMark R)) (build' : Bool → Literal → B → Build (WithMark Q)) {at : ℕ} where
  pub pair_node : (f : A → A → B) → Pair inner outer f at
      → (g : Bool → R → WithMark R → Build (WithMark Q)) → ((marks : Bool) (m : Literal) (a b : A) → build' marks m (f a b) ≡ (build marks m a >>= (λ (x : WithMark R). build marks x.mark b >>= g marks x.result)))
      → (pen p1 p2 p3 : Pen) {x0 x1 x2 x3 : List ℤ} (a b : R) {r : Q} {m1 m2 m3 : ℕ}
      → EncodesMarked text inner build (at + 1) pen x0 x1 a p1 m1 → EncodesMarked text inner build m1 p1 x1 x2 b p2 m2 → WritesMarked p2 (g p2.marks a (record { result = b; mark = from_code p2.mark })) x2 x3 r p3 × (m3 ≡ m2)
      → EncodesMarked text outer build' at pen x0 x3 r p3 m3
  pair_node f pair g law pen p1 p2 p3 {x1 = x1} {x2 = x2} a b {m1 = m1} {m2 = m2} w1 w2 (u, q) =
      let two = w2.marks ∙ w1.marks in
      let mid : WithMark R = record { result = a; mark = from_code p1.mark } in
      let out : WithMark R = record { result = b; mark = from_code p2.mark } in
      let then = subst (λ (t : Bool). Encodes text inner (build t (from_code p1.mark)) m1 p1.at x1 x2 out p2.at m2) w1.marks w2.gates in
      record {
        marks = u.1 ∙ two;
        gates = record {
          encodes = λ end levels t n i h.
              let k = two_emits (inner end (levels - 1)) f (build pen.marks (from_code pen.mark)) (λ (x : WithMark R). build pen.marks x.mark) (build' pen.marks (from_code pen.mark)) (λ (x : WithMark R). g pen.marks x.result)
              (law pen.marks (from_code pen.mark)) (pair end levels t n h) (λ e j z. w1.gates.encodes end (levels - 1) e j i z) (λ e j z. then.encodes end (levels - 1) e j i z)
              (emits_same _ _ (ap (λ (t : Bool). g t a out p2.at.var) two) u.0) in
              (k.0, q ∙ k.1);
        };
      }

  pub then_node : (f : A → B) {from : ℕ} → Only inner outer f at from
      → (g : Bool → WithMark R → Build (WithMark Q)) → ((marks : Bool) (m : Literal) (a : A) → build' marks m (f a) ≡ (build marks m a >>= g marks))
      → (pen p1 p2 : Pen) {x0 x1 x2 : List ℤ} (a : R) {r : Q} {m1 m2 : ℕ} → EncodesMarked text inner build from pen x0 x1 a p1 m1 → WritesMarked p1 (g p1.marks (record { result = a; mark = from_code p1.mark })) x1 x2 r p2 × (m2 ≡ m1)
      → EncodesMarked text outer build' at pen x0 x2 r p2 m2
  then_node f one g law pen p1 p2 a w (u, q) = record {
    marks = u.1 ∙ w.marks;
    gates = record {
      encodes = λ end levels t n i h.
          let k = then_emits (inner end (levels - 1)) f (build pen.marks (from_code pen.mark)) (build' pen.marks (from_code pen.mark)) (g pen.marks) (law pen.marks (from_code pen.mark)) (one end levels t n h)
          (λ e m z. w.gates.encodes end (levels - 1) e m i z) (emits_same _ _ (ap (λ (t : Bool). g t (record { result = a; mark = from_code p1.mark }) p1.at.var) w.marks) u.0) in
          (k.0, q ∙ k.1);
    };
  }

  pub only_node : (f : A → B) {from : ℕ} → Only inner outer f at from
      → (g : R → Q) → ((marks : Bool) (m : Literal) (a : A) → build' marks m (f a) ≡ (build marks m a >>= (λ (x : WithMark R). give (record { result = g x.result; mark = x.mark }))))
      → (pen p1 : Pen) {xs ys : List ℤ} (a : R) {m : ℕ} (r : Q) → EncodesMarked text inner build from pen xs ys a p1 m → r ≡ g a → EncodesMarked text outer build' at pen xs ys r p1 m
  only_node f one g law pen p1 a r w q = record {
    marks = w.marks;
    gates = record {
      encodes = λ end levels t n i h. one_emits (inner end (levels - 1)) f (build pen.marks (from_code pen.mark)) (build' pen.marks (from_code pen.mark)) (λ (x : WithMark R). record { result = g x.result; mark = x.mark })
          (law pen.marks (from_code pen.mark)) (one end levels t n h) (record { result = r; mark = from_code p1.mark }) (λ e m k. w.gates.encodes end (levels - 1) e m i k) (ap (λ (z : Q). record { result = z; mark = from_code p1.mark }) q);
    };
  }

-- what is handed out by its parts
pub int_outs : {A : Type 0} {text : List ℕ} {reader : ℕ → ℕ → Reader A} {build : Bool → Literal → A → Build (WithMark Bits)} {at : ℕ} {pen : Pen} {xs ys : List ℤ} (r : Encoded (List ℕ)) {lits : List ℕ} {after : Pen} {next : ℕ}
    → (r.value ≡ lits) × (r.pen ≡ after) × (r.next ≡ next) → EncodesMarked text reader build at pen xs ys (from_codes lits) after next → EncodesMarked text reader build at pen xs ys (from_codes r.value) r.pen r.next
int_outs {text = text} {reader = reader} {build = build} {at = at} {pen = pen} {xs = xs} {ys = ys} r {lits} {after} {next} (a, b, c) w =
    subst (λ (l : List ℕ). EncodesMarked text reader build at pen xs ys (from_codes l) r.pen r.next) (sym a)
    (subst (λ (p : Pen). EncodesMarked text reader build at pen xs ys (from_codes lits) p r.next) (sym b)
    (subst (λ (n : ℕ). EncodesMarked text reader build at pen xs ys (from_codes lits) after n) (sym c) w))

-- a leaf: nothing is written, and the mark is the pen's
abbrev beside : {A : Type 0} → ℕ → A → WithMark A
beside m out = record { result = out; mark = from_code m }

leaf_node : {A B : Type 0} {text : List ℕ} (reader : ℕ → ℕ → Reader A) (build : Bool → Literal → A → Build (WithMark B)) {at : ℕ} {pen : Pen} {xs : List ℤ} {out : B} {next : ℕ}
    → ((end levels : ℕ) (t : A) (n : ℕ) → end ≤ length text → reader end levels at ≡ got t n → Writes pen.at (build pen.marks (from_code pen.mark) t) xs xs (beside pen.mark out) pen.at × (next ≡ n))
    → EncodesMarked text reader build at pen xs xs out pen next
leaf_node reader build w = record { marks = refl; gates = record { encodes = w } }

-- the number of a slot that the text names
numbered_is : (text file : List ℕ) (shape : Shape) (later : Bool) (end : ℕ) (next : Bool) (i : ℕ) → numbered text (with_later later (names_of file shape)) end next i ≡ number_in (layout_of shape) next i
numbered_is text file shape later end true i = refl
numbered_is text file shape later end false i = refl

-- What stands where an expression is read, by its first byte. `later` says whether it may read the next state too.
module _ (text file : List ℕ) (shape : Shape) (later : Bool) (at : ℕ) where
  abbrev N : Names
  N = with_later later (names_of file shape)

  abbrev op : ℕ
  op = get_or text at 0

  abbrev ix : ℕ
  ix = get_or text (at + 1) 0

  pub arithmetic_pair : 4 ≤ op → op ≤ 5 → (end levels : ℕ) (e : IntExpr) (n : ℕ) → int_expr text N end levels at ≡ got e n → TwoRead (int_expr text N end (levels - 1)) (arithmetic_of op) (at + 1) e n
  arithmetic_pair l u end levels e n h = read_arithmetic text N end levels at e n h l (omega arith)

  pub product_one : op ≡ 8 → (end levels : ℕ) (e : IntExpr) (n : ℕ) → int_expr text N end levels at ≡ got e n → OneRead (int_expr text N end (levels - 1)) (product (at16 text (at + 1))) (at + 3) e n
  product_one q end levels e n h = (read_product text N end levels at e n h q).1

  pub logic_pair : 0x12 ≤ op → (op ≡ 0x12 → ⊥) → op < 0x15 → (end levels : ℕ) (e : BoolExpr) (n : ℕ) → bool_expr text N end levels at ≡ got e n → TwoRead (bool_expr text N end (levels - 1)) (logic_of op) (at + 1) e n
  logic_pair l z u end levels e n h = read_logic text N end levels at e n h (above op 0x12 z l) u

  pub compare_pair : 0x15 ≤ op → op ≤ 0x16 → (end levels : ℕ) (e : BoolExpr) (n : ℕ) → bool_expr text N end levels at ≡ got e n → TwoRead (int_expr text N end (levels - 1)) (compare_of op) (at + 1) e n
  compare_pair l u end levels e n h = read_compare text N end levels at e n h l (omega arith)

  pub not_one : op ≡ 0x12 → (end levels : ℕ) (e : BoolExpr) (n : ℕ) → bool_expr text N end levels at ≡ got e n → OneRead (bool_expr text N end (levels - 1)) not_b (at + 1) e n
  not_one q end levels e n h = read_not text N end levels at e n h q

  module _ (h : IntHere text file shape later at) where
    pub int_byte : at < length text
    int_byte = omega (arith, int_inside text N h.end h.levels at _ _ h.read.reads, h.inside)

    pub constant_here : op ≡ 1 → at + 3 ≤ length text
    constant_here q = omega (arith, (read_constant text N h.end h.levels at _ _ h.read.reads q).0, h.inside)

    pub product_here : op ≡ 8 → at + 3 ≤ length text
    product_here q = omega (arith, (read_product text N h.end h.levels at _ _ h.read.reads q).0, h.inside)

    module _ (s : (op < 4) ⊎ (5 < op)) (p : op ≡ 8 → ⊥) (z : op ≡ 1 → ⊥) where
      pub slot_here : at + 2 ≤ length text
      slot_here =
          let (next, k) = names_slot text N h.end h.levels at _ _ h.read.reads s p z in
          ⊎_elim
          (λ q. omega (arith, (read_variable text N h.end h.levels at _ _ h.read.reads next q).0.inside, h.inside))
          (λ q. omega (arith, (read_status text N h.end h.levels at _ _ h.read.reads next q).0.inside, h.inside))
          k

      pub status_is : (op ≡ 2 → ⊥) → (op ≡ 3 → ⊥) → (op ≡ 6 → ⊥) → op ≡ 7
      status_is = is_next_status text N h.end h.levels at _ _ h.read.reads s p z

    -- what the loaders ask for
    module _ (next : Bool) {codes : List ℕ} (slots : Slotted later file shape codes) (v : ℕ) (e : v ≡ ix) where
      pub variable_here : op ≡ integer_byte next → Slotted next file shape codes × (v < shape.variables) × (get_or file (3 * v) 0 ≡ 1)
      variable_here q =
          let (k, kind, t) = read_variable text N h.end h.levels at _ _ h.read.reads next q in
          (slotted_for file shape next later k.allowed slots, omega (arith, k.there), subst (λ (i : ℕ). get_or file (3 * i) 0 ≡ 1) (sym e) kind)

      pub status_here : op ≡ status_byte next → Slotted next file shape codes × (v < shape.matrices)
      status_here q =
          let (k, t) = read_status text N h.end h.levels at _ _ h.read.reads next q in
          (slotted_for file shape next later k.allowed slots, omega (arith, k.there))

  module _ (h : BoolHere text file shape later at) where
    pub bool_byte : at < length text
    bool_byte = omega (arith, bool_inside text N h.end h.levels at _ _ h.read.reads, h.inside)

    pub truth_here : op ≡ 0x10 → at + 2 ≤ length text
    truth_here q = omega (arith, (read_truth text N h.end h.levels at _ _ h.read.reads q).0, h.inside)

    module _ (s : (op < 0x12) ⊎ (0x16 < op)) (z : op ≡ 0x10 → ⊥) where
      pub flag_is : op ≡ boolean_byte (ltb 0x16 op)
      flag_is = is_flag text N h.end h.levels at _ _ h.read.reads s z

      flag_read : (t : BoolExpr) × Named text N h.end (ltb 0x16 op) shape.variables at h.read.past × (get_or file (3 * ix) 0 ≡ 1 → ⊥)
      flag_read = let (k, kind, t) = read_flag text N h.end h.levels at _ _ h.read.reads (ltb 0x16 op) flag_is in (h.read.tree, k, kind)

      pub flag_inside : at + 2 ≤ length text
      flag_inside = omega (arith, flag_read.1.inside, h.inside)

      pub flag_here : {codes : List ℕ} → Slotted later file shape codes → (v : ℕ) → v ≡ ix → Slotted (ltb 0x16 op) file shape codes × (v < shape.variables) × (get_or file (3 * v) 0 ≡ 1 → ⊥)
      flag_here slots v e =
          (slotted_for file shape (ltb 0x16 op) later flag_read.1.allowed slots, omega (arith, flag_read.1.there), subst (λ (i : ℕ). get_or file (3 * i) 0 ≡ 1 → ⊥) (sym e) flag_read.2)

  pub ints_ahead : (end levels j : ℕ) (e : IntExpr) (n : ℕ) → int_expr text N end levels j ≡ got e n → j ≤ n
  ints_ahead end levels j e n h = int_forward text N end levels j n (ap is_read h) (sym (ap past h))

  pub bools_ahead : (end levels j : ℕ) (e : BoolExpr) (n : ℕ) → bool_expr text N end levels j ≡ got e n → j ≤ n
  bools_ahead end levels j e n h = bool_forward text N end levels j n (ap is_read h) (sym (ap past h))

  module _ (codes : List ℕ) where
    abbrev SL : Slots
    SL = read_slots later file shape codes

    abbrev IG : Bool → Literal → IntExpr → Build (WithMark Bits)
    IG = int_gates text file shape later codes

    abbrev BG : Bool → Literal → BoolExpr → Build (WithMark Literal)
    BG = bool_gates text file shape later codes

    -- a product: c is its constant as the code reads it
    pub product_node : op ≡ 8 → (c : ℕ) → c ≡ at16 text (at + 1) → (pen p1 p2 : Pen) {x0 x1 x2 : List ℤ} (a : Bits) {r : Bits} {m1 m2 : ℕ}
        → EncodesMarked text (ints_at text file shape later) IG (at + 3) pen x0 x1 a p1 m1 → WritesMarked p1 (multiplied! c p1.marks (record { result = a; mark = from_code p1.mark })) x1 x2 r p2 × (m2 ≡ m1)
        → EncodesMarked text (ints_at text file shape later) IG at pen x0 x2 r p2 m2
    product_node q c ec pen p1 p2 a w ((u, k), e) =
        then_node (ints_at text file shape later) (ints_at text file shape later) IG IG (product (at16 text (at + 1))) (product_one q) (multiplied! (at16 text (at + 1)))
        (λ marks m. product_tree (layout_of shape) SL marks m _) pen p1 p2 a w ((emits_same _ _ (ap (λ (j : ℕ). multiplied! j p1.marks (record { result = a; mark = from_code p1.mark }) p1.at.var) ec) u, k), e)

    -- an expression that marks nothing
    pub test_node : (pen : Cursor) (none : ℕ) {xs ys : List ℤ} (r : ℕ) (after : Pen) {next : ℕ} → from_code none ≡ false_literal → EncodesMarked text (bools_at text file shape later) BG at (record { at = pen; marks = false; mark = none }) xs ys (from_code r) after next
        → TestEncoded text file shape later codes at pen xs ys (record { value = r; pen = after.at })
    unfolding test!
    test_node pen none r after e w end levels t n i h =
        emits_map (bool! false (layout_of shape) SL false_literal t) (λ (x : WithMark Literal). x.result)
        (emits_same _ _ (ap (λ (m : Literal). bool! false (layout_of shape) SL m t pen.var) e) (w.gates.encodes end levels t n i h).0)

    -- leaves: nothing is written
    pub constant_leaf : {pen : Pen} {xs : List ℤ} {out : Bits} {next x : ℕ} → op ≡ 1 → x ≡ ix + 256 * get_or text (at + 1 + 1) 0 → out ≡ constant_bits 16 x → next ≡ at + 3
        → EncodesMarked text (ints_at text file shape later) IG at pen xs xs out pen next
    constant_leaf {pen} q ex o l = leaf_node (ints_at text file shape later) IG (λ end levels t n i h.
        let k = read_constant text N end levels at t n h q in
        leaf_emits (int_expr text N end levels) (IG pen.marks (from_code pen.mark)) _ _ h k.1 (constant_give (layout_of shape) SL _ _ _) (ap (beside pen.mark) (o ∙ ap (constant_bits 16) ex)) (l ∙ sym k.2))

    pub truth_leaf : {pen : Pen} {xs : List ℤ} {out : Literal} {next : ℕ} → op ≡ 0x10 → out ≡ literal_of (truth ix) → next ≡ at + 2
        → EncodesMarked text (bools_at text file shape later) BG at pen xs xs out pen next
    truth_leaf {pen} q o l = leaf_node (bools_at text file shape later) BG (λ end levels t n i h.
        let k = read_truth text N end levels at t n h q in
        leaf_emits (bool_expr text N end levels) (BG pen.marks (from_code pen.mark)) _ _ h k.1 (truth_give (layout_of shape) SL _ _ _) (ap (beside pen.mark) o) (l ∙ sym k.2))

    -- a slot, of the state or of the next one; its literals are known where it may be read
    number : (next : Bool) (v end : ℕ) → v ≡ ix → number_in (layout_of shape) next v ≡ numbered text N end next ix
    number next v end ev = ap (number_in (layout_of shape) next) ev ∙ sym (numbered_is text file shape later end next ix)

    module _ (next : Bool) {pen : Pen} {xs : List ℤ} {past v : ℕ} (ev : v ≡ ix) (l : past ≡ at + 2) where
      pub variable_leaf : {out : Bits} → op ≡ integer_byte next → ((not next || later) ≡ true → out ≡ integer_at SL (number_in (layout_of shape) next v))
          → EncodesMarked text (ints_at text file shape later) IG at pen xs xs out pen past
      variable_leaf q o = leaf_node (ints_at text file shape later) IG (λ end levels t n i h.
          let (k, kind, tree) = read_variable text N end levels at t n h next q in
          leaf_emits (int_expr text N end levels) (IG pen.marks (from_code pen.mark)) _ _ h tree (variable_give (layout_of shape) SL _ _ _) (ap (beside pen.mark) (o k.allowed ∙ ap (integer_at SL) (number next v end ev))) (l ∙ sym k.ends))

      pub status_leaf : {out : Bits} → op ≡ status_byte next → ((not next || later) ≡ true → out ≡ integer_at SL (shape.variables + number_in (layout_of shape) next v))
          → EncodesMarked text (ints_at text file shape later) IG at pen xs xs out pen past
      status_leaf q o = leaf_node (ints_at text file shape later) IG (λ end levels t n i h.
          let (k, tree) = read_status text N end levels at t n h next q in
          leaf_emits (int_expr text N end levels) (IG pen.marks (from_code pen.mark)) _ _ h tree (status_give (layout_of shape) SL _ _ _) (ap (beside pen.mark) (o k.allowed ∙ ap (λ (j : ℕ). integer_at SL (shape.variables + j)) (number next v end ev))) (l ∙ sym k.ends))

      pub flag_leaf : {out : Literal} → op ≡ boolean_byte next → ((not next || later) ≡ true → out ≡ boolean_at SL (number_in (layout_of shape) next v))
          → EncodesMarked text (bools_at text file shape later) BG at pen xs xs out pen past
      flag_leaf q o = leaf_node (bools_at text file shape later) BG (λ end levels t n i h.
          let (k, kind, tree) = read_flag text N end levels at t n h next q in
          leaf_emits (bool_expr text N end levels) (BG pen.marks (from_code pen.mark)) _ _ h tree (flag_give (layout_of shape) SL _ _ _) (ap (beside pen.mark) (o k.allowed ∙ ap (boolean_at SL) (number next v end ev))) (l ∙ sym k.ends))
