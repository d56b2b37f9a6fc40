-- The flat state: a slot set, and all bits muxed. Assumes nothing.
use Rattle.std.proofs.Common.{◌≡◌, ℕ, zero, suc, ◌+◌, ◌-◌, ◌*◌, ◌<◌, ◌≤◌, Bool, false, cond, eqb, List, [], ◌∷◌, ◌++◌, length, get_or, take, drop, set, ℤ, sym, refl, ap, ◌∙◌, ap₂, append_assoc, add-one, arith, length-drop, length-set, length-take-le, get_or-set_other, get_or-take, drop-drop, take_at, take-add, drop_at}
use lib.Seq.{set_split}
use borrow.Rule.Slice.PartMut.{put_mid}
use Rattle.design.specs.declared.shape.Shape.{Shape}
use Rattle.clauses.specs.Literal.{Literal, positive}
use Rattle.clauses.specs.Gate.{Gate, mux}
use Rattle.clauses.specs.Circuit.{Built, give, ◌>>=◌, mux!, Bits}
use Rattle.clauses.specs.Expression.{Slots, with_mark}
use Rattle.clauses.specs.Action.{mux_bits!, muxes! }
use Rattle.clauses.specs.Formula.{total}
use Rattle.clauses.specs.Writing.{from_code, from_codes, Emits}
use Rattle.clauses.specs.FlatState.{layout_of, widths_from, widths_in, cut, slots_of, over, Slotted}
use Rattle.clauses.proofs.EmitWords.{append-nil}
use Rattle.clauses.proofs.EmitLists.{codes_append, codes_length, codes_take, codes_drop, take_all, take_none}
use Rattle.clauses.proofs.EmitBuilds.{emits_same, emits_result, emits_map}
use Rattle.clauses.proofs.EmitCircuits.{Row, Rowing, rowing_start, rowing_on, rowing_end}
use Rattle.clauses.proofs.EmitSlots.{variable_width, variable_start, variable_room, integer_width, boolean_width, status_width_lem, status_start, mark_width_lem, mark_start, widths_length}

pub cut_set : (ws : List ℕ) (v : ℕ) (xs g : List Literal) → v < length ws → length g ≡ get_or ws v 0 → total ws ≤ length xs
    → cut ws (take (total (take v ws)) xs ++ (g ++ drop (total (take v ws) + length g) xs)) ≡ set (cut ws xs) v g
unfolding cut
cut_set [] v xs g h l room = absurd (omega arith)
cut_set (w ∷ ws) zero xs g h l room =
    let e : take 0 xs ++ (g ++ drop (0 + length g) xs) ≡ g ++ drop w xs = ap₂ (λ (a : List Literal) (k : ℕ). a ++ (g ++ drop k xs)) (take_none xs) (let q : 0 + length g ≡ w = omega arith in q) in
    ap (λ (z : List Literal). take w z ∷ cut ws (drop w z)) e ∙ ap₂ (λ (a b : List Literal). a ∷ cut ws b) (take_at g (drop w xs) w l) (drop_at g (drop w xs) w l)
cut_set (w ∷ ws) (suc v) xs g h l room =
    let o = total (take v ws) in
    let t : o + get_or ws v 0 ≤ total ws = room_of ws v (omega arith) in
    let ys = drop w xs in
    let lw : length (take w xs) ≡ w = length-take-le w xs (omega arith) in
    let front : take (w + o) xs ≡ take w xs ++ take o ys = take-add w o xs in
    let tail : drop (w + o + length g) xs ≡ drop (o + length g) ys = ap (λ (k : ℕ). drop k xs) (let q : w + o + length g ≡ w + (o + length g) = omega arith in q) ∙ sym (drop-drop (o + length g) w xs) in
    let whole : take (w + o) xs ++ (g ++ drop (w + o + length g) xs) ≡ take w xs ++ (take o ys ++ (g ++ drop (o + length g) ys)) =
    ap₂ (λ (a b : List Literal). a ++ (g ++ b)) front tail ∙ append_assoc (take w xs) (take o ys) (g ++ drop (o + length g) ys) in
    ap (λ (z : List Literal). take w z ∷ cut ws (drop w z)) whole
    ∙ ap₂ (λ (a b : List Literal). a ∷ cut ws b) (take_at (take w xs) (take o ys ++ (g ++ drop (o + length g) ys)) w lw) (drop_at (take w xs) (take o ys ++ (g ++ drop (o + length g) ys)) w lw)
    ∙ ap (λ (r : Slots). take w xs ∷ r) (cut_set ws v ys g (omega arith) l (omega (arith, length-drop w xs)))
  where
    room_of : (ws : List ℕ) (v : ℕ) → v < length ws → total (take v ws) + get_or ws v 0 ≤ total ws
    room_of [] v h = absurd (omega arith)
    room_of (w ∷ ws) zero h = omega arith
    room_of (w ∷ ws) (suc v) h = omega (arith, room_of ws v (omega arith))

-- only the state's own bits count
pub cut_take : (ws : List ℕ) (xs : List Literal) → total ws ≤ length xs → cut ws xs ≡ cut ws (take (total ws) xs)
unfolding cut
cut_take [] xs h = refl
cut_take (w ∷ ws) xs h =
    let lw : length (take w xs) ≡ w = length-take-le w xs (omega arith) in
    let e : take (w + total ws) xs ≡ take w xs ++ take (total ws) (drop w xs) = take-add w (total ws) xs in
    sym (ap (λ (z : List Literal). take w z ∷ cut ws (drop w z)) e
    ∙ ap₂ (λ (a b : List Literal). a ∷ cut ws b) (take_at (take w xs) (take (total ws) (drop w xs)) w lw) (drop_at (take w xs) (take (total ws) (drop w xs)) w lw)
    ∙ ap (λ (r : Slots). take w xs ∷ r) (sym (cut_take ws (drop w xs) (omega (arith, length-drop w xs)))))

-- builders up to the order of their parts
pub built_same : {A : Type 0} (b c : Built A) → b.out ≡ c.out → b.next ≡ c.next → b.gates ≡ c.gates → b ≡ c
built_same {A} b c p q r =
    ap (λ (x : A). record { out = x; next = b.next; gates = b.gates }) p ∙ ap (λ (k : ℕ). record { out = c.out; next = k; gates = b.gates }) q ∙ ap (λ
    (g : List Gate). record { out = c.out; next = c.next; gates = g }) r

module _ (c : Literal) where
  pub row_append : (a b x y : List Literal) (n : ℕ) → length a ≡ length b
      → mux_bits! c (a ++ x) (b ++ y) n ≡ (mux_bits! c a b >>= (λ (p : List Literal). mux_bits! c x y >>= (λ (q : List Literal). give (p ++ q)))) n
  unfolding mux_bits! mux! give ◌>>=◌
  row_append [] [] x y n h = built_same _ _ refl refl (sym (append-nil (mux_bits! c x y n).gates))
  row_append [] (b ∷ bs) x y n h = absurd (omega arith)
  row_append (a ∷ xs) [] x y n h = absurd (omega arith)
  row_append (a ∷ xs) (b ∷ bs) x y n h =
      let k = row_append xs bs x y (suc n) (omega arith) in
      let r = mux_bits! c xs bs (suc n) in
      let s = mux_bits! c x y r.next in
      built_same _ _ (ap (λ (z : Built (List Literal)). positive n ∷ z.out) k) (ap (λ (z : Built (List Literal)). z.next) k)
      (ap (λ (z : Built (List Literal)). mux n c a b ∷ (z.gates ++ [])) k ∙ ap (λ (l : List Gate). mux n c a b ∷ l) (append-nil (r.gates ++ (s.gates ++ [])) ∙ ap (λ (l : List Gate). l ++ (s.gates ++ [])) (sym (append-nil r.gates))))

  row_long : (a b : List Literal) (n : ℕ) → length a ≡ length b → length (mux_bits! c a b n).out ≡ length a
  unfolding mux_bits! mux! give ◌>>=◌
  row_long [] b n h = refl
  row_long (x ∷ a) [] n h = absurd (omega arith)
  row_long (x ∷ a) (y ∷ b) n h = ap suc (row_long a b (suc n) (omega arith))

  row_none : (n : ℕ) → give {A = Slots} [] n ≡ (mux_bits! c [] [] >>= (λ (r : List Literal). give {A = Slots} [])) n
  unfolding mux_bits! give ◌>>=◌
  row_none n = refl

  -- all groups are one row
  pub muxes_flat : (ws : List ℕ) (xs ys : List Literal) (n : ℕ) → total ws ≤ length xs → total ws ≤ length ys
      → muxes! c (cut ws xs) (cut ws ys) n ≡ (mux_bits! c (take (total ws) xs) (take (total ws) ys) >>= (λ (r : List Literal). give (cut ws r))) n
  unfolding muxes! cut give ◌>>=◌
  muxes_flat [] xs ys n h k = row_none n ∙ ap₂ (λ (a b : List Literal). (mux_bits! c a b >>= (λ (r : List Literal). give [])) n) (sym (take_none xs)) (sym (take_none ys))
  muxes_flat (w ∷ ws) xs ys n h k =
      let T = total ws in
      let A = mux_bits! c (take w xs) (take w ys) n in
      let B = mux_bits! c (take T (drop w xs)) (take T (drop w ys)) A.next in
      let lx : length (take w xs) ≡ w = length-take-le w xs (omega arith) in
      let ly : length (take w ys) ≡ w = length-take-le w ys (omega arith) in
      let la : length A.out ≡ w = row_long (take w xs) (take w ys) n (lx ∙ sym ly) ∙ lx in
      let ih = muxes_flat ws (drop w xs) (drop w ys) A.next (omega (arith, length-drop w xs)) (omega (arith, length-drop w ys)) in
      let one = ap {B = Built Slots} (λ (z : Built Slots). record { out = A.out ∷ z.out; next = z.next; gates = A.gates ++ (z.gates ++ []) }) ih in
      let two = ap₂ (λ (a b : List Literal). (mux_bits! c a b >>= (λ (r : List Literal). give (cut (w ∷ ws) r))) n) (take-add w T xs) (take-add w T ys) in
      let three = ap {B = Built Slots} (λ (z : Built (List Literal)). record { out = cut (w ∷ ws) z.out; next = z.next; gates = z.gates ++ [] }) (row_append (take w xs) (take w ys) (take T (drop w xs)) (take T (drop w ys)) n (lx ∙ sym ly)) in
      one
      ∙ built_same _ _ (ap₂ (λ (a b : List Literal). a ∷ cut ws b) (sym (take_at A.out B.out w la)) (sym (drop_at A.out B.out w la))) refl (ap (λ (g : List Gate). A.gates ++ g) (append-nil (B.gates ++ [])) ∙ sym (append-nil (A.gates ++ (B.gates ++ []))))
      ∙ sym (two ∙ three)

pub mux_row : (c : Literal) → Row (mux! c) (mux_bits! c)
unfolding mux_bits!
mux_row c = record { nil = λ ys n. refl; step = λ a b xs bs n. refl }

-- the first literals of a word stored
pub stored : (s x : List ℕ) (off w : ℕ) (ys : List ℕ) → w ≤ length x → off + w ≤ length s → ys ≡ take w x
    → put_mid off (off + w - off) s ys ≡ over off (take w x) s
unfolding over
stored s x off w ys few room e =
    let k = off + w - off in
    let n : length (take w x) ≡ w = length-take-le w x few in
    let past : off + k ≡ off + length (take w x) = omega arith in
    ap₂ (λ (a b : List ℕ). take off s ++ (a ++ b)) e (drop-drop k off s ∙ ap (λ (j : ℕ). drop j s) past)

pub set_over : (o l : ℕ) (codes : List ℕ) → o < length codes → set codes o l ≡ over o (l ∷ []) codes
unfolding over
set_over o l codes h = set_split codes o l h ∙ ap (λ (k : ℕ). take o codes ++ (l ∷ drop k codes)) (sym (add-one o))

codes_over : (o : ℕ) (x codes : List ℕ) → from_codes (over o x codes) ≡ take o (from_codes codes) ++ (from_codes x ++ drop (o + length (from_codes x)) (from_codes codes))
unfolding over
codes_over o x codes =
    codes_append (take o codes) (x ++ drop (o + length x) codes)
    ∙ ap₂ (λ (a b : Bits). a ++ b) (codes_take o codes) (codes_append x (drop (o + length x) codes) ∙ ap (λ (t : Bits). from_codes x ++ t) (codes_drop (o + length x) codes ∙ ap (λ (k : ℕ). drop (o + k) (from_codes codes)) (sym (codes_length x))))

module _ (file : List ℕ) (shape : Shape) where
  abbrev nv : ℕ
  nv = shape.variables

  abbrev nm : ℕ
  nm = shape.matrices

  slot_over : (v o : ℕ) (x codes : List ℕ) → v < nv + nm + 1 → o ≡ total (take v (widths_in file shape)) → length x ≡ get_or (widths_in file shape) v 0 → total (widths_in file shape) ≤ length codes
      → slots_of file shape (over o x codes) ≡ set (slots_of file shape codes) v (from_codes x)
  unfolding slots_of
  slot_over v o x codes h q l room =
      let ws = widths_in file shape in
      ap (cut ws) (codes_over o x codes ∙ ap (λ (k : ℕ). take k (from_codes codes) ++ (from_codes x ++ drop (k + length (from_codes x)) (from_codes codes))) q)
      ∙ cut_set ws v (from_codes codes) (from_codes x) (omega (arith, widths_length file nv nm)) (codes_length x ∙ l) (omega (arith, codes_length codes))

  pub variable_over : (v o : ℕ) (x codes : List ℕ) → v < nv → o ≡ total (widths_from file 0 v) → length x ≡ cond (eqb (get_or file (3 * v) 0) 1) 16 1 → total (widths_in file shape) ≤ length codes
      → slots_of file shape (over o x codes) ≡ set (slots_of file shape codes) v (from_codes x)
  variable_over v o x codes h e l room = slot_over v o x codes (omega arith) (e ∙ sym (variable_start file nv nm v h)) (l ∙ sym (variable_width file nv nm v h)) room

  pub status_over : (m o : ℕ) (x codes : List ℕ) → m < nm → o ≡ total (widths_from file 0 nv) + 4 * m → length x ≡ 4 → total (widths_in file shape) ≤ length codes
      → slots_of file shape (over o x codes) ≡ set (slots_of file shape codes) (nv + m) (from_codes x)
  status_over m o x codes h e l room = slot_over (nv + m) o x codes (omega arith) (e ∙ sym (status_start file nv nm m h)) (l ∙ sym (status_width_lem file nv nm m h)) room

  -- the mark's slot set
  pub mark_over : {later : Bool} {codes : List ℕ} → Slotted later file shape codes → total (widths_in file shape) ≤ length codes → (m : ℕ)
      → slots_of file shape (set codes (shape.bits - 1) m) ≡ with_mark (layout_of shape) (from_code m) (slots_of file shape codes)
  mark_over {codes = codes} s room m =
      let o : shape.bits - 1 ≡ total (take (nv + nm) (widths_in file shape)) = omega (arith, s.sum, mark_start file nv nm) in
      ap (slots_of file shape) (set_over (shape.bits - 1) m codes (omega (arith, s.sum, mark_start file nv nm))) ∙ slot_over (nv + nm) (shape.bits - 1) (m ∷ []) codes (omega arith) o (sym (mark_width_lem file nv nm)) room

-- the muxes of all bits, T in number
pub record Muxing (T : ℕ) (c : Literal) (a b : List ℕ) (n₀ : ℕ) (xs₀ : List ℤ) (cur₀ : ℕ) (xs : List ℤ) (s : List ℕ) (cur n i : ℕ) : Type 0 where
  pub row : Rowing (mux_bits! c) T (take T a) (take T b) n₀ xs₀ cur₀ xs s cur n i
  pub size : length s ≡ length a
  pub rest : (j : ℕ) → i ≤ j → get_or s j 0 ≡ get_or a j 0

module _ (T : ℕ) (c : Literal) (a b : List ℕ) (p : T ≤ length a) (q : T ≤ length b) (n₀ : ℕ) (xs₀ : List ℤ) (cur₀ : ℕ) where
  pub muxing_start : Muxing T c a b n₀ xs₀ cur₀ xs₀ a cur₀ n₀ 0
  muxing_start = record { row = rowing_start (mux! c) (mux_bits! c) (mux_row c) T (take T a) (take T b) (length-take-le T a p) (length-take-le T b q) n₀ xs₀ cur₀ a; size = refl; rest = λ j h. refl }

  pub muxing_on : {xs : List ℤ} (s : List ℕ) {cur n i : ℕ} → i < T → Muxing T c a b n₀ xs₀ cur₀ xs s cur n i
      → {ys : List ℤ} (r : ℕ) {cur' n' : ℕ} → Emits n (mux! c (from_code (get_or s i 0)) (from_code (get_or b i 0)) n) xs ys cur (from_code r) cur' n' → Muxing T c a b n₀ xs₀ cur₀ ys (set s i r) cur' n' (i + 1)
  muxing_on s {i = i} h l r w =
      record {
        row = rowing_on (mux! c) (mux_bits! c) (mux_row c) T (take T a) (take T b) (length-take-le T a p) (length-take-le T b q) n₀ xs₀ cur₀ s h (omega (arith, l.size)) l.row (from_code (get_or s i 0)) (from_code (get_or b i 0)) r (ap from_code (l.rest i (omega arith) ∙ sym (get_or-take T a i 0 h))) (ap from_code (sym (get_or-take T b i 0 h))) w;
        size = length-set s i r ∙ l.size;
        rest = λ j k. get_or-set_other s i j r 0 (λ e. omega arith) ∙ l.rest j (omega arith);
      }

  pub muxing_end : {xs : List ℤ} (s : List ℕ) {cur n i : ℕ} → T ≤ i → Muxing T c a b n₀ xs₀ cur₀ xs s cur n i → (file : List ℕ) (shape : Shape) → T ≡ total (widths_in file shape)
      → Emits n₀ (muxes! c (slots_of file shape a) (slots_of file shape b) n₀) xs₀ xs cur₀ (slots_of file shape s) cur n
  unfolding slots_of
  muxing_end s {i = i} h l file shape z =
      let ws = widths_in file shape in
      let w = rowing_end (mux! c) (mux_bits! c) (mux_row c) T (take T a) (take T b) (length-take-le T a p) (length-take-le T b q) n₀ xs₀ cur₀ s h l.row in
      let w2 = emits_same _ _ (ap₂ (λ (x y : Bits). mux_bits! c x y n₀) (codes_take T a ∙ ap (λ (k : ℕ). take k (from_codes a)) z) (codes_take T b ∙ ap (λ (k : ℕ). take k (from_codes b)) z)) w in
      let w3 = emits_map (mux_bits! c (take (total ws) (from_codes a)) (take (total ws) (from_codes b))) (cut ws) w2 in
      let w4 = emits_same _ _ (sym (muxes_flat c ws (from_codes a) (from_codes b) n₀ (omega (arith, codes_length a)) (omega (arith, codes_length b)))) w3 in
      let e : cut ws (from_codes s) ≡ cut ws (from_codes (take T s)) = cut_take ws (from_codes s) (omega (arith, codes_length s, l.size)) ∙ ap (cut ws) (ap (λ (k : ℕ). take k (from_codes s)) (sym z) ∙ sym (codes_take T s)) in
      emits_result _ (sym e) w4

pub slotted_again : {later : Bool} {file : List ℕ} {shape : Shape} {a b : List ℕ} → Slotted later file shape a → length a ≡ length b → Slotted later file shape b
slotted_again s e = record { kinds = s.kinds; variables = s.variables; matrices = s.matrices; sum = s.sum; few = s.few; bits = omega (arith, s.bits) }

-- a variable's slot set; v' is what the code read
module _ (file : List ℕ) (shape : Shape) (v v' o : ℕ) (codes : List ℕ) (e : v' ≡ v) (h : v < shape.variables) (q : o ≡ total (widths_from file 0 v')) (room : total (widths_in file shape) ≤ length codes) where
  start : o ≡ total (widths_from file 0 v)
  start = q ∙ ap (λ (k : ℕ). total (widths_from file 0 k)) e

  pub integer_room : get_or file (3 * v) 0 ≡ 1 → o + 16 ≤ length codes
  integer_room k = omega (arith, variable_room file shape.variables shape.matrices v o 16 h start (integer_width file v k))

  pub boolean_room : (get_or file (3 * v) 0 ≡ 1 → ⊥) → o < length codes
  boolean_room k = omega (arith, variable_room file shape.variables shape.matrices v o 1 h start (boolean_width file v k))

  pub integer_set : (x s : List ℕ) → get_or file (3 * v) 0 ≡ 1 → length x ≡ 16 → s ≡ over o (take 16 x) codes → slots_of file shape s ≡ set (slots_of file shape codes) v (from_codes x)
  integer_set x s k l w =
      let t : take 16 x ≡ x = take_all x 16 (omega arith) in
      ap (slots_of file shape) (w ∙ ap (λ (y : List ℕ). over o y codes) t) ∙ variable_over file shape v o x codes h start (l ∙ integer_width file v k) room

  pub boolean_set : (x : ℕ) (s : List ℕ) → (get_or file (3 * v) 0 ≡ 1 → ⊥) → s ≡ set codes o x → slots_of file shape s ≡ set (slots_of file shape codes) v (from_code x ∷ [])
  boolean_set x s k w =
      ap (slots_of file shape) (w ∙ set_over o x codes (boolean_room k)) ∙ variable_over file shape v o (x ∷ []) codes h start (boolean_width file v k) room

-- the mark set and then a variable's slot, as an assignment does
module _ (file : List ℕ) (shape : Shape) (v v' o : ℕ) {codes : List ℕ} (e : v' ≡ v) (h : v < shape.variables) (q : o ≡ total (widths_from file 0 v')) (slots : Slotted false file shape codes) (m : ℕ) where
  abbrev marked : List ℕ
  marked = set codes (shape.bits - 1) m

  room_again : total (widths_in file shape) ≤ length marked
  room_again = omega (arith, slots.bits, length-set codes (shape.bits - 1) m)

  pub integer_marked : (x s : List ℕ) → get_or file (3 * v) 0 ≡ 1 → length x ≡ 16 → s ≡ over o (take 16 x) marked → slots_of file shape s ≡ set (with_mark (layout_of shape) (from_code m) (slots_of file shape codes)) v (from_codes x)
  integer_marked x s k l w = integer_set file shape v v' o marked e h q room_again x s k l w ∙ ap (λ (r : Slots). set r v (from_codes x)) (mark_over file shape slots slots.bits m)

  pub boolean_marked : (x : ℕ) (s : List ℕ) → (get_or file (3 * v) 0 ≡ 1 → ⊥) → s ≡ set marked o x → slots_of file shape s ≡ set (with_mark (layout_of shape) (from_code m) (slots_of file shape codes)) v (from_code x ∷ [])
  boolean_marked x s k w = boolean_set file shape v v' o marked e h q room_again x s k w ∙ ap (λ (r : Slots). set r v (from_code x ∷ [])) (mark_over file shape slots slots.bits m)
