-- A step keeps every slot in its range. Assumes that the design is well formed, as every accepted one is.
use Rattle.std.proofs.Common.{◌≡◌, ℕ, zero, suc, ◌+◌, ◌-◌, ◌^◌, ◌<◌, ◌≤◌, Bool, true, false, cond, leb, List, [], ◌∷◌, ◌++◌, map, length, get_or, take, drop, set, replicate, ℤ, pos, sym, refl, ap, ◌∙◌, subst, ap₂, arith, take_at, get_or-append-add, drop_at, lt-ltb, eq-eqb, le-leb}
use lib.ListN.{get_elem?, length-map, get_or-append}
use Rattle.design.specs.Tree.{IntExpr, constant, variable, status, sum, difference, product, Stmt, Stmts, assign, assign_b, if_else, done, then, Kind, boolean, integer, external, Variable, Cell, Design, Mover, cell, raise, if_external, externals, movers, bit}
use Rattle.design.specs.State.{State, layout, status_slot, width, status_width, mark_width, widths, start}
use Rattle.design.specs.Check.{accepted, check}
use Rattle.design.specs.WellFormed.{InRange, IsStatus, HasBits, IntOk, StmtOk, StmtsOk, MoverOk, MoversOk, CountsOk, StatusesOk, WellFormed}
use Rattle.design.proofs.WellFormed.{well_formed}
use Rattle.step.specs.Pattern.{signed, wrap}
use Rattle.step.specs.Evaluation.{eval_int, eval_bool, passes_int, passes_bool}
use Rattle.step.specs.OneStep.{marked_if, execute, execute_all, enabled, effect, move, moved, step, run}
use Rattle.step.specs.Interface.{right_kind, values_right, statuses_right, first_wrong, entries_right, slots_given, values_of, statuses_of, mark_of}
use Rattle.step.specs.Operations.{all_right}
use Rattle.step.proofs.Marks.{mark_stays}
use Rattle.step.specs.Ranges.{value_count, ranges, Below, FitsDesign, KeepsRanges}
use Rattle.step.proofs.Patterns.{wrap_signed}
use Rattle.design.specs.Limits.{max_variables, max_matrices}

-- lists below their ranges
below_set : (ns s : List ℕ) (v x : ℕ) → Below ns s → x < get_or ns v 0 → Below ns (set s v x)
below_set [] [] v x b h = tt
below_set [] (y ∷ ys) v x b h = absurd b
below_set (n ∷ ns) [] v x b h = absurd b
below_set (n ∷ ns) (y ∷ ys) zero x b h = (h, b.1)
below_set (n ∷ ns) (y ∷ ys) (suc v) x b h = (b.0, below_set ns ys v x b.1 h)

cond_keeps : (P : State → Type 0) (t : Bool) (a b : State) → P a → P b → P (cond t a b)
cond_keeps P true a b p q = p
cond_keeps P false a b p q = q

-- a variable's range is that of its width
count_is : (k : Kind) → value_count k ≡ 2 ^ width k
count_is boolean = refl
count_is integer = refl
count_is external = refl

abbrev count : Variable → ℕ
count x = value_count x.kind

abbrev wide : Variable → ℕ
wide x = width x.kind

variable_range : (xs : List Variable) (ns ws : List ℕ) (v : ℕ) → v < length xs
    → get_or (map count xs ++ ns) v 0 ≡ 2 ^ get_or (map wide xs ++ ws) v 0
variable_range [] ns ws v h = absurd (omega arith)
variable_range (x ∷ xs) ns ws zero h = count_is x.kind
variable_range (x ∷ xs) ns ws (suc v) h = variable_range xs ns ws v (omega arith)

-- widths
counts_range : (ns s : List ℕ) → CountsOk ns → Below (ns ++ (2 ∷ [])) s → InRange (replicate (length ns) status_width ++ (mark_width ∷ [])) s
counts_range [] [] k b = b
counts_range [] (y ∷ []) k b = (omega (arith, b.0), tt)
counts_range [] (y ∷ z ∷ ys) k b = absurd b.1
counts_range (n ∷ ns) [] k b = b
counts_range (n ∷ ns) (y ∷ ys) k b = (omega (arith, k.1, b.0), counts_range ns ys k.2 b.1)

slots_range : (xs : List Variable) (ns s : List ℕ) → CountsOk ns → Below (map count xs ++ (ns ++ (2 ∷ []))) s
    → InRange (map wide xs ++ (replicate (length ns) status_width ++ (mark_width ∷ []))) s
slots_range [] ns s k b = counts_range ns s k b
slots_range (x ∷ xs) ns [] k b = b
slots_range (x ∷ xs) ns (y ∷ ys) k b =
    (subst (λ (n : ℕ). y < n) (count_is x.kind) b.0, slots_range xs ns ys k b.1)

pub fits_widths : (d : Design) → WellFormed d → (s : State) → FitsDesign d s → InRange (widths d) s
unfolding ranges widths
fits_widths d wf s f = slots_range d.variables d.statuses s wf.counts f

-- what stands in a slot of so many bits
slot_below : (ws s : List ℕ) (v bits : ℕ) → InRange ws s → get_or ws v 0 ≡ bits → get_or s v 0 < 2 ^ bits
slot_below ws s v bits r e = subst (λ (b : ℕ). get_or s v 0 < 2 ^ b) e (go ws s v r)
  where
    go : (us ys : List ℕ) (i : ℕ) → InRange us ys → get_or ys i 0 < 2 ^ get_or us i 0
    go [] [] i q = omega arith
    go [] (y ∷ ys) i q = absurd q
    go (u ∷ us) [] i q = absurd q
    go (u ∷ us) (y ∷ ys) zero q = q.0
    go (u ∷ us) (y ∷ ys) (suc i) q = go us ys i q.1

-- each cell's target is a status of its matrix
abbrev TargetOk : List ℕ → Mover → Type 0
TargetOk counts (cell c) = c.target < get_or counts c.matrix 0
TargetOk counts (raise v) = Unit {0}

abbrev TargetsOk : List ℕ → List Mover → Type 0
TargetsOk counts [] = Unit {0}
TargetsOk counts (m ∷ ms) = TargetOk counts m × TargetsOk counts ms

externals_targets : (counts : List ℕ) (v : ℕ) (xs : List Variable) → TargetsOk counts (externals v xs)
externals_targets counts v [] = tt
externals_targets counts v (x ∷ xs) = go x.kind (externals_targets counts (suc v) xs)
  where
    go : (k : Kind) → TargetsOk counts (externals (suc v) xs)
        → TargetsOk counts (if_external k (raise v ∷ externals (suc v) xs) (externals (suc v) xs))
    go boolean r = r
    go integer r = r
    go external r = (tt, r)

cells_targets : (counts : List ℕ) (cs : List Cell) (ms : List Mover) → StatusesOk counts cs → TargetsOk counts ms
    → TargetsOk counts (map cell cs ++ ms)
cells_targets counts [] ms k r = r
cells_targets counts (c ∷ cs) ms k r = (k.1, cells_targets counts cs ms k.2 r)

module _ (d : Design) (wf : WellFormed d) where
  -- the ranges of the slots that expressions and statements name
  number_range : (v bits : ℕ) → HasBits (widths d) (layout d) v bits → get_or (ranges d) v 0 ≡ 2 ^ bits
  unfolding ranges widths layout
  number_range v bits k =
      variable_range d.variables (d.statuses ++ (2 ∷ [])) (replicate (length d.statuses) status_width ++ (mark_width ∷ [])) v k.inside
      ∙ ap (λ (b : ℕ). 2 ^ b) k.width

  -- the ranges behind those of the variables
  behind : (i : ℕ) → get_or (map count d.variables ++ (d.statuses ++ (2 ∷ []))) (length d.variables + i) 0 ≡ get_or (d.statuses ++ (2 ∷ [])) i 0
  behind i =
      ap (λ (j : ℕ). get_or (map count d.variables ++ (d.statuses ++ (2 ∷ []))) (j + i) 0) (sym (length-map d.variables count))
      ∙ get_or-append-add (map count d.variables) (d.statuses ++ (2 ∷ [])) i 0

  status_range : (m : ℕ) → IsStatus (widths d) (layout d) m → get_or (ranges d) (status_slot (layout d) m) 0 ≡ get_or d.statuses m 0
  unfolding ranges layout
  status_range m k = behind m ∙ get_or-append d.statuses (2 ∷ []) 0 m (omega (arith, k.inside))

  mark_range : get_or (ranges d) (layout d).mark 0 ≡ 2
  unfolding ranges layout
  mark_range =
      behind (length d.statuses)
      ∙ ap (λ (i : ℕ). get_or (d.statuses ++ (2 ∷ [])) i 0) (let z : length d.statuses ≡ length d.statuses + 0 = omega arith in z)
      ∙ get_or-append-add d.statuses (2 ∷ []) 0 0

  -- an expression's value is a pattern: what it reads fits the slot's width
  int_below : (s : State) → FitsDesign d s → (e : IntExpr) → IntOk (widths d) (layout d) e → eval_int (layout d) s e < 65536
  unfolding eval_int
  int_below s f (constant c) k = k
  int_below s f (variable v) k = slot_below (widths d) s v 16 (fits_widths d wf s f) k
  int_below s f (status m) k = omega (arith, slot_below (widths d) s (status_slot (layout d) m) status_width (fits_widths d wf s f) k)
  int_below s f (sum a b) k = omega arith
  int_below s f (difference a b) k = omega arith
  int_below s f (product c a) k = omega arith

  bit_below : (b : Bool) → bit b < 2
  bit_below true = omega arith
  bit_below false = omega arith

  -- the mark is set to 1 or stays
  mark_keeps : (t : Bool) (s : State) → FitsDesign d s → FitsDesign d (marked_if t (layout d) s)
  mark_keeps t s f =
      cond_keeps (FitsDesign d) t _ _
      (below_set (ranges d) s (layout d).mark 1 f (subst (λ (n : ℕ). 1 < n) (sym mark_range) (omega arith))) f

  mutual
    unfolding execute

    statement_keeps : (x : Stmt) (s : State) → StmtOk (widths d) (layout d) x → FitsDesign d s → FitsDesign d (execute x (layout d) s)
    statement_keeps (assign v e) s k f =
        below_set (ranges d) _ v _ (mark_keeps (passes_int (layout d) s e) s f)
        (subst (λ (n : ℕ). eval_int (layout d) s e < n) (sym (number_range v 16 k.0)) (int_below s f e k.1))
    statement_keeps (assign_b v e) s k f =
        below_set (ranges d) _ v _ (mark_keeps (passes_bool (layout d) s e) s f)
        (subst (λ (n : ℕ). bit (eval_bool (layout d) s e) < n) (sym (number_range v 1 k.0)) (bit_below (eval_bool (layout d) s e)))
    statement_keeps (if_else c a b) s k f =
        let m = mark_keeps (passes_bool (layout d) s c) s f in
        cond_keeps (FitsDesign d) (eval_bool (layout d) s c) _ _ (statements_keep a _ k.1 m) (statements_keep b _ k.2 m)

    statements_keep : (xs : Stmts) (s : State) → StmtsOk (widths d) (layout d) xs → FitsDesign d s → FitsDesign d (execute_all xs (layout d) s)
    statements_keep done s k f = f
    statements_keep (then x xs) s k f = statements_keep xs (execute x (layout d) s) k.1 (statement_keeps x s k.0 f)

  effect_keeps : (m : Mover) (s : State) → MoverOk (widths d) (layout d) m → TargetOk d.statuses m → FitsDesign d s
      → FitsDesign d (effect (layout d) s m)
  unfolding effect
  effect_keeps (cell c) s k t f =
      below_set (ranges d) (execute_all c.action (layout d) s) (status_slot (layout d) c.matrix) c.target
      (statements_keep c.action s k.action f)
      (subst (λ (n : ℕ). c.target < n) (sym (status_range c.matrix k.matrix)) t)
  effect_keeps (raise v) s k t f = below_set (ranges d) s v 1 f (subst (λ (n : ℕ). 1 < n) (sym (number_range v 1 k)) (omega arith))

  move_keeps : (m : Mover) (s : State) → MoverOk (widths d) (layout d) m → TargetOk d.statuses m → FitsDesign d s
      → FitsDesign d (move (layout d) s m)
  unfolding move
  move_keeps m s k t f = cond_keeps (FitsDesign d) (enabled (layout d) s m) _ _ (effect_keeps m s k t f) f

  moved_keeps : (ms : List Mover) (c : ℕ) (s : State) → MoversOk (widths d) (layout d) ms → TargetsOk d.statuses ms → FitsDesign d s
      → FitsDesign d (moved (layout d) s (get_elem? ms c))
  moved_keeps [] c s k t f = f
  moved_keeps (m ∷ ms) zero s k t f = move_keeps m s k.0 t.0 f
  moved_keeps (m ∷ ms) (suc c) s k t f = moved_keeps ms c s k.1 t.1 f

  targets : TargetsOk d.statuses (movers d)
  unfolding movers
  targets =
      cells_targets d.statuses d.cells (externals 0 d.variables) wf.statuses
      (externals_targets d.statuses 0 d.variables)

  pub step_keeps : (s : State) (c : ℕ) → FitsDesign d s → FitsDesign d (step d s c)
  unfolding step
  step_keeps s c f = moved_keeps (movers d) c s wf.movers targets f

  pub run_keeps : (s : State) (cs : List ℕ) → FitsDesign d s → FitsDesign d (run d s cs)
  unfolding run
  run_keeps s [] f = f
  run_keeps s (c ∷ cs) f = run_keeps (step d s c) cs (step_keeps s c f)

-- the first state
zeros_below : (ns : List ℕ) → CountsOk ns → Below (ns ++ (2 ∷ [])) (replicate (length ns) 0 ++ (0 ∷ []))
zeros_below [] k = (omega arith, tt)
zeros_below (n ∷ ns) k = (omega (arith, k.0), zeros_below ns k.2)

initial_below : (xs : List Variable) (ws ns vs : List ℕ) → InRange (map wide xs ++ ws) (map (λ (x : Variable). x.initial) xs ++ vs)
    → Below ns vs
    → Below (map count xs ++ ns) (map (λ (x : Variable). x.initial) xs ++ vs)
initial_below [] ws ns vs h b = b
initial_below (x ∷ xs) ws ns vs h b =
    (subst (λ (n : ℕ). x.initial < n) (sym (count_is x.kind)) h.0, initial_below xs ws ns vs h.1 b)

pub first_fits : (d : Design) → WellFormed d → FitsDesign d (start d)
unfolding ranges start widths
first_fits d wf =
    initial_below d.variables (replicate (length d.statuses) status_width ++ (mark_width ∷ [])) (d.statuses ++ (2 ∷ []))
    (replicate (length d.statuses) 0 ++ (0 ∷ [])) wf.start
    (zeros_below d.statuses wf.counts)

-- a list below ranges of two parts, in two parts
record Split (rs ns s : List ℕ) : Type 0 where
  front : List ℕ
  back : List ℕ
  is : s ≡ front ++ back
  front_below : Below rs front
  back_below : Below ns back

split : (rs ns s : List ℕ) → Below (rs ++ ns) s → Split rs ns s
split [] ns s b = record { front = []; back = s; is = refl; front_below = tt; back_below = b }
split (r ∷ rs) ns [] b = absurd b
split (r ∷ rs) ns (y ∷ ys) b =
    let t = split rs ns ys b.1 in
    record {
      front = y ∷ t.front;
      back = t.back;
      is = ap (λ (l : List ℕ). y ∷ l) t.is;
      front_below = (b.0, t.front_below);
      back_below = t.back_below;
    }

below_length : (ns s : List ℕ) → Below ns s → length s ≡ length ns
below_length [] [] b = refl
below_length [] (y ∷ ys) b = absurd b
below_length (n ∷ ns) [] b = absurd b
below_length (n ∷ ns) (y ∷ ys) b = ap suc (below_length ns ys b.1)

map-append : {A B : Type 0} (f : A → B) (xs ys : List A) → map f (xs ++ ys) ≡ map f xs ++ map f ys
map-append f [] ys = refl
map-append f (x ∷ xs) ys = ap (λ (l : List _). f x ∷ l) (map-append f xs ys)

few_values : (k : Kind) → value_count k ≤ 65536
few_values boolean = omega arith
few_values integer = omega arith
few_values external = omega arith

zeros_wrapped : (k : ℕ) → map wrap (replicate k (pos 0)) ≡ replicate k 0
unfolding wrap
zeros_wrapped zero = refl
zeros_wrapped (suc k) = ap (λ (l : List ℕ). 0 ∷ l) (zeros_wrapped k)

values_wrapped : (xs : List Variable) (a : List ℕ) (k : ℕ) → Below (map count xs) a
    → map wrap (map signed a ++ replicate k (pos 0)) ≡ a ++ replicate k 0
values_wrapped [] [] k b = zeros_wrapped k
values_wrapped [] (y ∷ ys) k b = absurd b
values_wrapped (x ∷ xs) [] k b = absurd b
values_wrapped (x ∷ xs) (y ∷ ys) k b =
    ap₂ (λ (u : ℕ) (l : List ℕ). u ∷ l) (wrap_signed y (omega (arith, b.0, few_values x.kind))) (values_wrapped xs ys k b.1)

-- every test holds
abbrev AllTrue : List Bool → Type 0
AllTrue [] = Unit {0}
AllTrue (t ∷ ts) = (t ≡ true) × AllTrue ts

all_append : (ts us : List Bool) → AllTrue ts → AllTrue us → AllTrue (ts ++ us)
all_append [] us h k = k
all_append (t ∷ ts) us h k = (h.0, all_append ts us h.1 k)

none_wrong : (ts : List Bool) → AllTrue ts → first_wrong ts ≡ length ts
none_wrong [] h = refl
none_wrong (true ∷ ts) h = ap suc (none_wrong ts h.1)
none_wrong (false ∷ ts) h = let z : ◌≡◌ {A = ℕ} 0 1 = ap bit h.0 in absurd (omega arith)

kind_right : (k : Kind) (p : ℕ) → p < value_count k → right_kind k p ≡ true
kind_right boolean p h = le-leb p 1 (omega arith)
kind_right integer p h = refl
kind_right external p h = le-leb p 1 (omega arith)

values_ok : (xs : List Variable) (a : List ℕ) (k : ℕ) → Below (map count xs) a → AllTrue (values_right xs (a ++ replicate k 0))
values_ok [] [] zero b = tt
values_ok [] [] (suc k) b = (refl, values_ok [] [] k b)
values_ok [] (y ∷ ys) k b = absurd b
values_ok (x ∷ xs) [] k b = absurd b
values_ok (x ∷ xs) (y ∷ ys) k b = (kind_right x.kind y b.0, values_ok xs ys k b.1)

statuses_ok : (ns b : List ℕ) (k : ℕ) → Below ns b → AllTrue (statuses_right ns (b ++ replicate k 0))
statuses_ok [] [] zero b = tt
statuses_ok [] [] (suc k) b = (refl, statuses_ok [] [] k b)
statuses_ok [] (y ∷ ys) k b = absurd b
statuses_ok (n ∷ ns) [] k b = absurd b
statuses_ok (n ∷ ns) (y ∷ ys) k b = (lt-ltb y n b.0, statuses_ok ns ys k b.1)

-- the mark, alone
only_mark : (l : List ℕ) → Below (2 ∷ []) l → l ≡ get_or l 0 0 ∷ []
only_mark [] b = absurd b
only_mark (x ∷ []) b = refl
only_mark (x ∷ y ∷ ys) b = absurd b.1

mark_right : (l : List ℕ) → Below (2 ∷ []) l → leb (get_or l 0 0) 1 ≡ true
mark_right [] b = absurd b
mark_right (x ∷ xs) b = le-leb x 1 (omega (arith, b.0))

-- the entries of a state that fits: the tests of its values, of its statuses, and of its mark
module _ (d : Design) (s : State) (f : FitsDesign d s) where
  abbrev nv : ℕ
  nv = length d.variables

  abbrev nm : ℕ
  nm = length d.statuses

  parted : Split (map count d.variables) (d.statuses ++ (2 ∷ [])) s
  unfolding ranges
  parted = split (map count d.variables) (d.statuses ++ (2 ∷ [])) s f

  rest : Split d.statuses (2 ∷ []) parted.back
  rest = split d.statuses (2 ∷ []) parted.back parted.back_below

  front_long : length parted.front ≡ nv
  front_long = below_length (map count d.variables) parted.front parted.front_below ∙ length-map d.variables count

  statuses_long : length rest.front ≡ nm
  statuses_long = below_length d.statuses rest.front rest.front_below

  values_are : map wrap (values_of d s) ≡ parted.front ++ replicate (max_variables - nv) 0
  values_are =
      ap (λ (l : List ℤ). map wrap (take nv l ++ replicate (max_variables - nv) (pos 0)))
      (ap (map signed) parted.is ∙ map-append signed parted.front parted.back)
      ∙ ap (λ (l : List ℤ). map wrap (l ++ replicate (max_variables - nv) (pos 0)))
      (take_at (map signed parted.front) (map signed parted.back) nv (length-map parted.front signed ∙ front_long))
      ∙ values_wrapped d.variables parted.front (max_variables - nv) parted.front_below

  statuses_are : statuses_of d s ≡ rest.front ++ replicate (max_matrices - nm) 0
  unfolding layout
  statuses_are =
      ap (λ (l : List ℕ). take (nv + nm - nv) (drop nv l) ++ replicate (max_matrices - nm) 0) parted.is
      ∙ ap (λ (l : List ℕ). take (nv + nm - nv) l ++ replicate (max_matrices - nm) 0) (drop_at parted.front parted.back nv front_long ∙ rest.is)
      ∙ ap (λ (l : List ℕ). l ++ replicate (max_matrices - nm) 0) (take_at rest.front rest.back (nv + nm - nv) (omega (arith, statuses_long)))

  mark_is : mark_of d s ≡ get_or rest.back 0 0
  unfolding layout
  mark_is =
      ap₂ (λ (l : List ℕ) (i : ℕ). get_or l (i + nm) 0) parted.is (sym front_long)
      ∙ get_or-append-add parted.front parted.back nm 0
      ∙ ap₂ (λ (l : List ℕ) (i : ℕ). get_or l i 0) rest.is (let z : nm ≡ length rest.front + 0 = omega (arith, statuses_long) in z)
      ∙ get_or-append-add rest.front rest.back 0 0

  abbrev vt : List Bool
  vt = values_right d.variables (parted.front ++ replicate (max_variables - nv) 0)

  abbrev st : List Bool
  st = statuses_right d.statuses (rest.front ++ replicate (max_matrices - nm) 0)

  abbrev ts : List Bool
  ts = vt ++ (st ++ (leb (get_or rest.back 0 0) 1 ∷ []))

  pub fits_right : all_right (entries_right d (values_of d s) (statuses_of d s) (mark_of d s)) ≡ true
  fits_right =
      let all : AllTrue ts = all_append vt _
      (values_ok d.variables parted.front (max_variables - nv) parted.front_below)
      (all_append st _ (statuses_ok d.statuses rest.front (max_matrices - nm) rest.front_below) (mark_right rest.back rest.back_below, tt)) in
      ap₂ (λ (ps ss : List ℕ). all_right (values_right d.variables ps ++ (statuses_right d.statuses ss ++ (leb (mark_of d s) 1 ∷ [])))) values_are statuses_are
      ∙ ap (λ (m : ℕ). all_right (vt ++ (st ++ (leb m 1 ∷ [])))) mark_is
      ∙ eq-eqb (first_wrong ts) (length ts) (none_wrong ts all)

  pub fits_back : slots_given d (values_of d s) (statuses_of d s) (mark_of d s) ≡ s
  fits_back =
      ap₂ (λ (ps ss : List ℕ). take nv ps ++ (take nm ss ++ (mark_of d s ∷ []))) values_are statuses_are
      ∙ ap₂ (λ (u v : List ℕ). u ++ (v ++ (mark_of d s ∷ []))) (take_at parted.front (replicate (max_variables - nv) 0) nv front_long)
      (take_at rest.front (replicate (max_matrices - nm) 0) nm statuses_long)
      ∙ ap (λ (l : List ℕ). parted.front ++ (rest.front ++ l)) (ap (λ (m : ℕ). m ∷ []) mark_is ∙ sym (only_mark rest.back rest.back_below))
      ∙ ap (λ (l : List ℕ). parted.front ++ l) (sym rest.is) ∙ sym parted.is

-- THE LAW, for every well-formed design, and so for every accepted one.
pub keeps_ranges : (d : Design) → WellFormed d → KeepsRanges d
keeps_ranges d wf = record {
  first = first_fits d wf;
  after_step = step_keeps d wf;
  after_run = run_keeps d wf;
  mark_stays = mark_stays d wf;
  in_widths = fits_widths d wf;
  entries_right_lem = fits_right d;
  entries_back = fits_back d;
}

pub accepted_ranges : (file : List ℕ) → ((i : ℕ) → get_or file i 0 < 256) → (d : Design) → check file ≡ accepted d → KeepsRanges d
accepted_ranges file bytes d e = keeps_ranges d (well_formed file bytes d e)
