-- The state's literals in a flat list: widths, offsets, slots. Assumes nothing.
use Rattle.std.proofs.Common.{◌≡◌, ℕ, zero, suc, ◌+◌, ◌-◌, ◌*◌, ◌/◌, ◌%◌, ◌<◌, ◌≤◌, Bool, true, false, cond, not, ◌||◌, eqb, List, [], ◌∷◌, ◌++◌, length, get_or, take, drop, set, replicate, sym, refl, ap, ◌∙◌, ap₂, arith, length-append, length-drop, length-set, length-take-le, drop-drop, get_or-append-add, eq-eqb, ne_eqb}
use mathlib.Core.Bool.{false≢true}
use Rattle.std.proofs.lemmas.List.{drop-replicate}
use lib.ListN.{length-replicate, get_or-replicate, get_or-append}
use lib.Seq.{take-append-le, take-append-add}
use Rattle.design.proofs.Widths.{width_at, total_append, state_size}
use Rattle.design.specs.Tree.{truth}
use Rattle.design.specs.State.{layout_of, number_in}
use Rattle.design.specs.declared.shape.Shape.{Shape}
use Rattle.clauses.specs.Literal.{Literal, literal_of}
use Rattle.clauses.specs.Expression.{pad, constant_bits, lowest, boolean_at}
use Rattle.clauses.specs.Formula.{total}
use Rattle.clauses.specs.Writing.{from_code, from_codes}
use Rattle.clauses.specs.FlatState.{widths_from, widths_of, widths_in, cut, slots_of, read_widths, read_slots, Slotted}
use Rattle.clauses.proofs.EmitWords.{code_no, code_yes, append-nil}
use Rattle.clauses.proofs.EmitLists.{codes_take, codes_drop, codes_more, take_all, take_none, drop_none}

-- slots of a flat list
cut_get : (ws : List ℕ) (v : ℕ) (xs : List Literal) → v < length ws → get_or (cut ws xs) v [] ≡ take (get_or ws v 0) (drop (total (take v ws)) xs)
unfolding cut
cut_get [] v xs h = absurd (omega arith)
cut_get (w ∷ ws) zero xs h = ap (take w) (sym (drop_none xs))
cut_get (w ∷ ws) (suc v) xs h = cut_get ws v (drop w xs) (omega arith) ∙ ap (take (get_or ws v 0)) (drop-drop (total (take v ws)) w xs)

cut_room : (ws : List ℕ) (v : ℕ) → v < length ws → total (take v ws) + get_or ws v 0 ≤ total ws
cut_room [] v h = absurd (omega arith)
cut_room (w ∷ ws) zero h = omega arith
cut_room (w ∷ ws) (suc v) h = omega (arith, cut_room ws v (omega arith))

from_length : (file : List ℕ) (u n : ℕ) → length (widths_from file u n) ≡ n
unfolding widths_from
from_length file u zero = refl
from_length file u (suc n) = ap suc (from_length file (suc u) n)

from_get : (file : List ℕ) (u n v : ℕ) → v < n → get_or (widths_from file u n) v 0 ≡ width_at file (u + v)
unfolding widths_from
from_get file u zero v h = absurd (omega arith)
from_get file u (suc n) zero h = ap (width_at file) (let q : u ≡ u + 0 = omega arith in q)
from_get file u (suc n) (suc v) h = from_get file (suc u) n v (omega arith) ∙ ap (width_at file) (let q : suc u + v ≡ u + suc v = omega arith in q)

from_take : (file : List ℕ) (u n v : ℕ) → v ≤ n → take v (widths_from file u n) ≡ widths_from file u v
unfolding widths_from
from_take file u zero zero h = refl
from_take file u zero (suc v) h = absurd (omega arith)
from_take file u (suc n) zero h = refl
from_take file u (suc n) (suc v) h = ap (λ (r : List ℕ). width_at file u ∷ r) (from_take file (suc u) n v (omega arith))

total_fours : (m n : ℕ) → m ≤ n → total (take m (replicate n 4)) ≡ 4 * m
total_fours zero zero h = refl
total_fours zero (suc n) h = refl
total_fours (suc m) zero h = absurd (omega arith)
total_fours (suc m) (suc n) h = omega (arith, total_fours m n (omega arith))

module _ (file : List ℕ) (nv nm : ℕ) where
  -- the widths behind the variables'
  abbrev behind : List ℕ
  behind = replicate nm 4 ++ (1 ∷ [])

  behind_length : length behind ≡ nm + 1
  behind_length = length-append (replicate nm 4) (1 ∷ []) ∙ omega (arith, length-replicate {A = ℕ} nm 4)

  pub widths_length : length (widths_of file nv nm) ≡ nv + nm + 1
  unfolding widths_of
  widths_length = length-append (widths_from file 0 nv) behind ∙ omega (arith, from_length file 0 nv, behind_length)

  pub variable_width : (v : ℕ) → v < nv → get_or (widths_of file nv nm) v 0 ≡ width_at file v
  unfolding widths_of
  variable_width v h = get_or-append (widths_from file 0 nv) behind 0 v (omega (arith, from_length file 0 nv)) ∙ from_get file 0 nv v h ∙ ap (width_at file) (let q : 0 + v ≡ v = omega arith in q)

  pub variable_start : (v : ℕ) → v < nv → total (take v (widths_of file nv nm)) ≡ total (widths_from file 0 v)
  unfolding widths_of
  variable_start v h = ap total (take-append-le v (widths_from file 0 nv) behind (omega (arith, from_length file 0 nv)) ∙ from_take file 0 nv v (omega arith))

  -- a slot behind the variables', and where it begins
  behind_width : (m : ℕ) → get_or (widths_of file nv nm) (nv + m) 0 ≡ get_or behind m 0
  unfolding widths_of
  behind_width m = ap (λ (k : ℕ). get_or (widths_from file 0 nv ++ behind) (k + m) 0) (sym (from_length file 0 nv)) ∙ get_or-append-add (widths_from file 0 nv) behind m 0

  behind_start : (m : ℕ) → m ≤ nm → total (take (nv + m) (widths_of file nv nm)) ≡ total (widths_from file 0 nv) + 4 * m
  unfolding widths_of
  behind_start m h =
      ap (λ (k : ℕ). total (take (k + m) (widths_from file 0 nv ++ behind))) (sym (from_length file 0 nv))
      ∙ ap total (take-append-add (widths_from file 0 nv) behind m ∙ ap (λ (l : List ℕ). widths_from file 0 nv ++ l) (take-append-le m (replicate nm 4) (1 ∷ []) (omega (arith, length-replicate {A = ℕ} nm 4))))
      ∙ total_append (widths_from file 0 nv) (take m (replicate nm 4)) ∙ ap (λ (k : ℕ). total (widths_from file 0 nv) + k) (total_fours m nm h)

  pub status_width_lem : (m : ℕ) → m < nm → get_or (widths_of file nv nm) (nv + m) 0 ≡ 4
  status_width_lem m h = behind_width m ∙ get_or-append (replicate nm 4) (1 ∷ []) 0 m (omega (arith, length-replicate {A = ℕ} nm 4)) ∙ get_or-replicate nm m 4 0 h

  pub status_start : (m : ℕ) → m < nm → total (take (nv + m) (widths_of file nv nm)) ≡ total (widths_from file 0 nv) + 4 * m
  status_start m h = behind_start m (omega arith)

  -- the mark is the last bit
  pub mark_width_lem : get_or (widths_of file nv nm) (nv + nm) 0 ≡ 1
  mark_width_lem =
      behind_width nm ∙ ap (λ (k : ℕ). get_or behind k 0) (let q : nm ≡ length (replicate nm 4) + 0 = omega (arith, length-replicate {A = ℕ} nm 4) in q)
      ∙ get_or-append-add (replicate nm 4) (1 ∷ []) 0 0

  pub mark_start : total (take (nv + nm) (widths_of file nv nm)) + 1 ≡ total (widths_of file nv nm)
  mark_start = omega (arith, behind_start nm (omega arith), state_size file nv nm (total (widths_from file 0 nv)) refl)

  pub variable_room : (v o w : ℕ) → v < nv → o ≡ total (widths_from file 0 v) → w ≡ width_at file v → o + w ≤ total (widths_of file nv nm)
  variable_room v o w h e q = omega (arith, cut_room (widths_of file nv nm) v (omega (arith, widths_length)), variable_width v h, variable_start v h)

  pub status_room : (m o : ℕ) → m < nm → o ≡ total (widths_from file 0 nv) + 4 * m → o + 4 ≤ total (widths_of file nv nm)
  status_room m o h e = omega (arith, cut_room (widths_of file nv nm) (nv + m) (omega (arith, widths_length)), status_width_lem m h, status_start m h)

-- the slots that an expression reads, of the state or of the next one
module _ (file : List ℕ) (shape : Shape) where
  abbrev nv : ℕ
  nv = shape.variables

  abbrev nm : ℕ
  nm = shape.matrices

  abbrev ws : List ℕ
  ws = widths_in file shape

  read_slot : (codes : List ℕ) (later next : Bool) → (not next || later) ≡ true → (v : ℕ) → v < nv + nm + 1
      → get_or (read_slots later file shape codes) (number_in (layout_of shape) next v) [] ≡ take (get_or ws v 0) (drop (cond next (total ws) 0 + total (take v ws)) (from_codes codes))
  unfolding slots_of
  read_slot codes false false e v h =
      cut_get ws v (from_codes codes) (omega (arith, widths_length file nv nm)) ∙ ap (λ (k : ℕ). take (get_or ws v 0) (drop k (from_codes codes))) (let q : total (take v ws) ≡ 0 + total (take v ws) = omega arith in q)
  read_slot codes true false e v h =
      let l : v < length ws = omega (arith, widths_length file nv nm) in
      let q : total (take v (ws ++ ws)) ≡ 0 + total (take v ws) = omega (arith, ap total (take-append-le v ws ws (omega arith))) in
      cut_get (ws ++ ws) v (from_codes codes) (omega (arith, length-append ws ws)) ∙ ap₂ (λ (a b : ℕ). take a (drop b (from_codes codes))) (get_or-append ws ws 0 v l) q
  read_slot codes false true e v h = absurd (false≢true e)
  read_slot codes true true e v h =
      ap (λ (k : ℕ). get_or (cut (ws ++ ws) (from_codes codes)) (k + v) []) (sym (widths_length file nv nm))
      ∙ cut_get (ws ++ ws) (length ws + v) (from_codes codes) (omega (arith, length-append ws ws, widths_length file nv nm))
      ∙ ap₂ (λ (a b : ℕ). take a (drop b (from_codes codes))) (get_or-append-add ws ws v 0) (ap total (take-append-add ws ws v) ∙ total_append ws (take v ws))

  read_room : (next : Bool) (v : ℕ) → v < nv + nm + 1 → cond next (total ws) 0 + total (take v ws) + get_or ws v 0 ≤ total (read_widths next file shape)
  read_room false v h = omega (arith, cut_room ws v (omega (arith, widths_length file nv nm)))
  read_room true v h = omega (arith, cut_room ws v (omega (arith, widths_length file nv nm)), total_append ws ws)

  status_number : (next : Bool) (m : ℕ) → number_in (layout_of shape) next (nv + m) ≡ nv + number_in (layout_of shape) next m
  status_number false m = refl
  status_number true m = let q : nv + nm + 1 + (nv + m) ≡ nv + (nv + nm + 1 + m) = omega arith in q

  -- who may read the next state may read the state
  pub slotted_for : {codes : List ℕ} (next later : Bool) → (not next || later) ≡ true → Slotted later file shape codes → Slotted next file shape codes
  slotted_for false false e s = s
  slotted_for true true e s = s
  slotted_for true false e s = absurd (false≢true e)
  slotted_for false true e s =
      record { kinds = s.kinds; variables = s.variables; matrices = s.matrices; sum = s.sum; few = s.few; bits = omega (arith, s.bits, total_append ws ws) }

-- The slot of a variable, or of a status; f is where the state's bits begin, or the next one's.
module _ {file : List ℕ} {shape : Shape} {codes : List ℕ} (next : Bool) (s : Slotted next file shape codes) {f : ℕ} (e : f ≡ cond next shape.bits 0) where
  abbrev start : f ≡ cond next (total (widths_in file shape)) 0
  start = e ∙ ap (λ (k : ℕ). cond next k 0) s.sum

  module _ {v o w : ℕ} (h : v < shape.variables) (q : o ≡ total (widths_from file 0 v)) (k : w ≡ width_at file v) where
    place : o ≡ total (take v (widths_in file shape))
    place = q ∙ sym (variable_start file shape.variables shape.matrices v h)

    wide : w ≡ get_or (widths_in file shape) v 0
    wide = k ∙ sym (variable_width file shape.variables shape.matrices v h)

    pub variable_inside : f + o + w ≤ length codes
    variable_inside = omega (arith, s.bits, read_room file shape next v (omega arith), start, place, wide)

    pub variable_slot : (later : Bool) → (not next || later) ≡ true → get_or (read_slots later file shape codes) (number_in (layout_of shape) next v) [] ≡ take w (drop (f + o) (from_codes codes))
    variable_slot later l = read_slot file shape codes later next l v (omega arith) ∙ ap₂ (λ (a b : ℕ). take a (drop b (from_codes codes))) (sym wide) (sym (ap₂ ◌+◌ start place))

  module _ {m o : ℕ} (h : m < shape.matrices) (q : o ≡ total (widths_from file 0 shape.variables) + 4 * m) where
    status_place : o ≡ total (take (shape.variables + m) (widths_in file shape))
    status_place = q ∙ sym (status_start file shape.variables shape.matrices m h)

    pub status_inside : f + o + 4 ≤ length codes
    status_inside =
        omega (arith, s.bits, read_room file shape next (shape.variables + m) (omega arith), start, status_place, status_width_lem file shape.variables shape.matrices m h)

    pub status_slot_lem : (later : Bool) → (not next || later) ≡ true → get_or (read_slots later file shape codes) (shape.variables + number_in (layout_of shape) next m) [] ≡ take 4 (drop (f + o) (from_codes codes))
    status_slot_lem later l =
        ap (λ (k : ℕ). get_or (read_slots later file shape codes) k []) (sym (status_number file shape next m))
        ∙ read_slot file shape codes later next l (shape.variables + m) (omega arith)
        ∙ ap₂ (λ (a b : ℕ). take a (drop b (from_codes codes))) (status_width_lem file shape.variables shape.matrices m h) (sym (ap₂ ◌+◌ start status_place))

-- the one literal of a Boolean
pub lowest_one : (bits : List ℕ) (o : ℕ) → o < length bits → lowest (take 1 (drop o (from_codes bits))) ≡ from_code (get_or bits o 0)
lowest_one [] o h = absurd (omega arith)
lowest_one (x ∷ l) zero h = refl
lowest_one (x ∷ l) (suc o) h = lowest_one l o (omega arith)

-- the mark of a state, and of the next one: each is the last of its bits
module _ {file : List ℕ} {shape : Shape} {codes : List ℕ} where
  pub bits_some : {later : Bool} → Slotted later file shape codes → 0 < shape.bits
  bits_some s = omega (arith, s.sum, mark_start file shape.variables shape.matrices)

  pub mark_read : (next : Bool) → Slotted next file shape codes → {o : ℕ} → o ≡ cond next shape.bits 0 + (shape.bits - 1) → (later : Bool) → (not next || later) ≡ true
      → (o < length codes) × (from_code (get_or codes o 0) ≡ boolean_at (read_slots later file shape codes) (number_in (layout_of shape) next (shape.variables + shape.matrices)))
  mark_read next s {o} q later l =
      let nv = shape.variables in
      let nm = shape.matrices in
      let last : shape.bits - 1 ≡ total (take (nv + nm) (widths_in file shape)) = omega (arith, s.sum, mark_start file nv nm) in
      let e : o ≡ cond next (total (widths_in file shape)) 0 + total (take (nv + nm) (widths_in file shape)) = q ∙ ap₂ ◌+◌ (ap (λ (k : ℕ). cond next k 0) s.sum) last in
      let inside : o < length codes = omega (arith, e, s.bits, read_room file shape next (nv + nm) (omega arith), mark_width_lem file nv nm) in (
        inside,
        sym (ap lowest (read_slot file shape codes later next l (nv + nm) (omega arith) ∙ ap₂ (λ (a b : ℕ). take a (drop b (from_codes codes))) (mark_width_lem file nv nm) (sym e)) ∙ lowest_one codes o inside),
      )

pub integer_width : (file : List ℕ) (v : ℕ) → get_or file (3 * v) 0 ≡ 1 → ◌≡◌ {A = ℕ} 16 (cond (eqb (get_or file (3 * v) 0) 1) 16 1)
integer_width file v e = ap {B = ℕ} (λ (t : Bool). cond t 16 1) (sym (eq-eqb (get_or file (3 * v) 0) 1 e))

pub boolean_width : (file : List ℕ) (v : ℕ) → (get_or file (3 * v) 0 ≡ 1 → ⊥) → ◌≡◌ {A = ℕ} 1 (cond (eqb (get_or file (3 * v) 0) 1) 16 1)
boolean_width file v h = ap {B = ℕ} (λ (t : Bool). cond t 16 1) (sym (ne_eqb (get_or file (3 * v) 0) 1 h))

-- loading a slot
pad_none : (k : ℕ) → from_codes (replicate k 3) ≡ pad k []
pad_none zero = refl
pad_none (suc k) = ap₂ (λ (a : Literal) (r : List Literal). a ∷ r) code_no (pad_none k)

pad_codes : (xs : List ℕ) (k : ℕ) → from_codes (xs ++ replicate k 3) ≡ pad (length xs + k) (from_codes xs)
pad_codes [] k = pad_none k ∙ ap (λ (j : ℕ). pad j []) (let q : k ≡ 0 + k = omega arith in q)
pad_codes (x ∷ xs) k = ap (λ (r : List Literal). from_code x ∷ r) (pad_codes xs k) ∙ ap (λ (j : ℕ). pad j (from_code x ∷ from_codes xs)) (let q : suc (length xs + k) ≡ suc (length xs) + k = omega arith in q)

pub set_seam : (xs : List ℕ) (z y : ℕ) (r : List ℕ) (n : ℕ) → length xs ≡ n → set (xs ++ (z ∷ r)) n y ≡ xs ++ (y ∷ r)
set_seam [] z y r zero h = refl
set_seam [] z y r (suc n) h = absurd (omega arith)
set_seam (x ∷ xs) z y r zero h = absurd (omega arith)
set_seam (x ∷ xs) z y r (suc n) h = ap (λ (l : List ℕ). x ∷ l) (set_seam xs z y r n (omega arith))

padded : (xs ys : List ℕ) (w : ℕ) → length xs ≡ w → w ≤ 16 → ys ≡ xs → from_codes (ys ++ drop w (replicate 16 3)) ≡ pad 16 (from_codes xs)
padded xs ys w long small e =
    ap (λ (a : List ℕ). from_codes (a ++ drop w (replicate 16 3))) e ∙ ap (λ (b : List ℕ). from_codes (xs ++ b)) (drop-replicate w 16 3)
    ∙ pad_codes xs (16 - w) ∙ ap (λ (j : ℕ). pad j (from_codes xs)) (let q : length xs + (16 - w) ≡ 16 = omega arith in q)

pub loads : (bits : List ℕ) (off w : ℕ) (ys : List ℕ) → off + w ≤ length bits → w ≤ 16 → ys ≡ take (off + w - off) (drop off bits) → from_codes (ys ++ drop w (replicate 16 3)) ≡ pad 16 (take w (drop off (from_codes bits)))
loads bits off w ys room small e =
    padded (take w (drop off bits)) ys w (length-take-le w (drop off bits) (omega (arith, length-drop off bits))) small (e ∙ ap (λ (j : ℕ). take j (drop off bits)) (let q : off + w - off ≡ w = omega arith in q))
    ∙ ap (pad 16) (codes_take w (drop off bits) ∙ ap (take w) (codes_drop off bits))

-- the literals of a number
pub record Counting (x : ℕ) (out : List ℕ) (n i : ℕ) : Type 0 where
  pub within : i ≤ 16
  pub size : length out ≡ 16
  pub same : from_codes (take i out) ++ constant_bits (16 - i) n ≡ constant_bits 16 x

pub counting_start : (x : ℕ) (out : List ℕ) → length out ≡ 16 → Counting x out x 0
counting_start x out h = record { within = omega arith; size = h; same = ap (λ (l : List ℕ). from_codes l ++ constant_bits 16 x) (take_none out) }

pub counting_on : (x : ℕ) (out : List ℕ) (n i s : ℕ) → i < 16 → from_code s ≡ literal_of (truth (n % 2)) → Counting x out n i → Counting x (set out i s) (n / 2) (i + 1)
counting_on x out n i s h e l =
    let k : 16 - i ≡ suc (16 - (i + 1)) = omega arith in
    record {
      within = omega arith;
      size = length-set out i s ∙ l.size;
      same = sym (codes_more out i s (literal_of (truth (n % 2))) (constant_bits (16 - (i + 1)) (n / 2)) (omega (arith, l.size)) e) ∙ ap (λ (j : ℕ). from_codes (take i out) ++ constant_bits j n) (sym k) ∙ l.same;
    }

pub counting_end : (x : ℕ) (out : List ℕ) (n i : ℕ) → 16 ≤ i → Counting x out n i → from_codes out ≡ constant_bits 16 x
counting_end x out n i h l =
    let k : 16 - i ≡ 0 = omega arith in
    sym (append-nil (from_codes out)) ∙ ap (λ (o : List ℕ). from_codes o ++ []) (sym (take_all out i (omega (arith, l.size)))) ∙ ap (λ (j : ℕ). from_codes (take i out) ++ constant_bits j n) (sym k) ∙ l.same

-- a Boolean of a byte
pub truth_no : (b : ℕ) → b ≡ 0 → from_code 3 ≡ literal_of (truth b)
truth_no b e = code_no ∙ ap (λ (k : ℕ). literal_of (truth k)) (sym e)

pub truth_yes : (b : ℕ) → (b ≡ 0 → ⊥) → from_code 2 ≡ literal_of (truth b)
truth_yes zero h = absurd (h refl)
truth_yes (suc b) h = code_yes
