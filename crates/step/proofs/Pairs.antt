-- A pair of states, one behind the other: the later one is kept as the earlier, and a property is judged on both. Assumes nothing.
use Rattle.std.proofs.Common.{◌≡◌, ℕ, zero, suc, ◌+◌, ◌-◌, ◌<◌, ◌≤◌, Bool, true, false, ltb, List, ◌++◌, length, get_or, take, drop, set, sym, refl, ap, ◌∙◌, ap₂, append-nil, add-one, arith, length-append, length-drop, length-set, take-append-drop, drop_of_length-le, length-take-le, get_or-drop, take_all, take_at, drop-set-lt, drop_at, ltb-false}
use mathlib.Core.Bool.{false≢true}
use mathlib.Core.Option.{Option, some}
use lib.Seq.{paste, paste-zero, paste-suc}
use borrow.Rule.Slice.PartMut.{put_mid}
use Rattle.design.specs.Tree.{Design}
use Rattle.design.specs.State.{State, Layout, layout, layout_of}
use Rattle.design.specs.Limits.{max_depth}
use Rattle.design.specs.Expression.{Names, with_later, bool_expr}
use Rattle.design.specs.Check.{names_of, has_constraint, items_end, constraint_offset}
use Rattle.design.specs.Places.{Indexed, Shaped}
use Rattle.design.specs.Sections.{Parts}
use Rattle.design.specs.declared.shape.Shape.{Shape}
use Rattle.step.specs.Evaluation.{eval_bool}
use Rattle.step.specs.Limits.{last_state_property}
use Rattle.step.specs.Property.{property_of}
use Rattle.step.specs.OneStep.{marked, step, true_at, holds}
use Rattle.step.specs.Accepted.{is_read, bool_value}
use Rattle.step.specs.Ready.{before_in, kept_in, tested_by}
use Rattle.step.specs.declared.mover.Tested.{Tested}
use Rattle.design.proofs.Positions.{constraint_none}
use Rattle.design.proofs.Indexed.{constraint_got, constraint_some}
use Rattle.step.proofs.Scanning.{same_layout, unmarked_counts, marked_fails}

module _ (n : ℕ) (pair : State) (long : length pair ≡ n + n) where
  pub first_long : length (take n pair) ≡ n
  first_long = length-take-le n pair (omega arith)

  pub second_long : length (drop n pair) ≡ n
  second_long = length-drop n pair ∙ (omega arith)

  -- the part from the second state on, as the code lends it, and as it comes back
  module _ (m : ℕ) (e : m ≡ n) where
    pub part_is : take (length pair - m) (drop m pair) ≡ drop n pair
    part_is = take_all (length pair - m) (drop m pair) (omega (arith, length-drop m pair)) ∙ ap (λ (j : ℕ). drop j pair) e

    pub part_long : length (take (length pair - m) (drop m pair)) ≡ n
    part_long = ap length part_is ∙ second_long

    pub put_is : (s : State) → put_mid m (length pair - m) pair s ≡ take n pair ++ s
    put_is s =
        ap₂ (λ (x y : State). x ++ (s ++ y)) (ap (λ (j : ℕ). take j pair) e) (drop_of_length-le (drop m pair) {i = length pair - m} (omega (arith, length-drop m pair)))
        ∙ ap (λ (x : State). take n pair ++ x) (append-nil s)

    pub put_second : (s : State) → drop n (put_mid m (length pair - m) pair s) ≡ s
    put_second s = ap (drop n) (put_is s) ∙ drop_at (take n pair) s n first_long

-- the first i slots are copied, from the second state to the first
pub record Keeping (n : ℕ) (pair₀ : State) (i : ℕ) (pair : State) : Type 0 where
  pub inside : i ≤ n
  pub size : length pair ≡ length pair₀
  pub same : pair ≡ paste pair₀ 0 (drop n pair₀) i
  pub second : drop n pair ≡ drop n pair₀

pub keeping_start : (n : ℕ) (pair : State) → Keeping n pair 0 pair
keeping_start n pair = record { inside = omega arith; size = refl; same = paste-zero pair 0 (drop n pair); second = refl }

module _ (n : ℕ) (pair₀ : State) (long : length pair₀ ≡ n + n) (i : ℕ) (pair : State) (g : Keeping n pair₀ i pair) where
  pub keeping_on : i < n → (x : ℕ) → x ≡ get_or pair (n + i) 0 → Keeping n pair₀ (i + 1) (set pair i x)
  keeping_on l x e =
      let q : x ≡ get_or (drop n pair₀) i 0 = e ∙ sym (get_or-drop n pair i 0) ∙ ap (λ (y : State). get_or y i 0) g.second in
      let k = second_long n pair₀ long in
      record {
        inside = omega arith;
        size = length-set pair i x ∙ g.size;
        same = ap₂ (λ (y : State) (v : ℕ). set y i v) g.same q
            ∙ ap (λ (j : ℕ). set (paste pair₀ 0 (drop n pair₀) i) j (get_or (drop n pair₀) i 0)) (let z : i ≡ 0 + i = omega arith in z)
            ∙ paste-suc pair₀ 0 (drop n pair₀) i 0 (omega arith) (omega arith)
            ∙ ap (paste pair₀ 0 (drop n pair₀)) (sym (add-one i));
        second = drop-set-lt n pair i x l ∙ g.second;
      }

pub front_long : (n : ℕ) (pair : State) → length pair ≡ n + n → (keep : Bool) → length (kept_in keep n pair) ≡ n
front_long n pair long true = second_long n pair long
front_long n pair long false = first_long n pair long

-- a step in the second state of a pair, of which it may have been kept; m is the number of slots as the code has it
module _ (n : ℕ) (pair : State) (long : length pair ≡ n + n) (keep : Bool) (m : ℕ) (e : m ≡ n) (kept : State) (k : kept ≡ kept_in keep m pair ++ drop m pair) where
  same : kept ≡ kept_in keep n pair ++ drop n pair
  same = k ∙ ap (λ (j : ℕ). kept_in keep j pair ++ drop j pair) e

  pub kept_long : length kept ≡ n + n
  kept_long = let s = second_long n pair long in ap length same ∙ length-append (kept_in keep n pair) (drop n pair) ∙ (omega (arith, front_long n pair long keep))

  pub pair_step : (d : Design) (c : ℕ) (s : State) (r : Tested)
      → (s ≡ step d (take (length kept - m) (drop m kept)) c) × (r ≡ tested_by d (take (length kept - m) (drop m kept)) c)
      → (put_mid m (length kept - m) kept s ≡ kept_in keep n pair ++ step d (drop n pair) c) × (r ≡ tested_by d (drop n pair) c)
  pair_step d c s r h =
      let front : take n kept ≡ kept_in keep n pair = ap (take n) same ∙ take_at (kept_in keep n pair) (drop n pair) n (front_long n pair long keep) in
      let second = part_is n kept kept_long m e ∙ ap (drop n) same ∙ drop_at (kept_in keep n pair) (drop n pair) n (front_long n pair long keep) in (
        put_is n kept kept_long m e s ∙ ap₂ (λ (x y : State). x ++ y) front (h.0 ∙ ap (λ (x : State). step d x c) second),
        h.1 ∙ ap (λ (x : State). tested_by d x c) second,
      )

-- properties 0 and 1 do not look at the state before
pub state_true : (file piece : List ℕ) (d : Design) (p : ℕ) → p ≤ last_state_property → (before : Option State) (s : State) → holds d (property_of file piece d p) s ≡ true_at d (property_of file piece d p) before s
unfolding true_at property_of
state_true file piece d zero l before s = refl
state_true file piece d (suc zero) l before s = refl
state_true file piece d (suc (suc p)) l before s = absurd (omega arith)

-- so the state before need be kept only for the others
pub kept_true : (file piece : List ℕ) (d : Design) (p n : ℕ) (pair : State) (keep : Bool) → keep ≡ ltb last_state_property p → (s : State)
    → true_at d (property_of file piece d p) (some (kept_in keep n pair)) s ≡ true_at d (property_of file piece d p) (some (drop n pair)) s
kept_true file piece d p n pair true e s = refl
kept_true file piece d p n pair false e s =
    let l : p ≤ last_state_property = ltb-false last_state_property p (sym e) in
    sym (state_true file piece d p l (some (take n pair)) s) ∙ state_true file piece d p l (some (drop n pair)) s

-- property 2 is true in the first state, and then as the constraint is of both states, where the later one's mark is not set
module _ (file piece : List ℕ) (d : Design) (n : ℕ) (pair : State) where
  pub first_true_lem : (p : ℕ) → last_state_property < p → (first : Bool) → first ≡ true → true ≡ true_at d (property_of file piece d p) (before_in first n pair) (drop n pair)
  unfolding true_at property_of
  first_true_lem zero l first e = absurd (omega arith)
  first_true_lem (suc zero) l first e = absurd (omega arith)
  first_true_lem (suc (suc p)) l true e = refl
  first_true_lem (suc (suc p)) l false e = absurd (false≢true e)

  -- `part` is the second state, and t its mark as the code finds it
  module _ (w : Parts file d) (h : Shape) (q : Shaped file h) (part : State) (o : part ≡ drop n pair) (t : Bool) (m : t ≡ marked (layout_of h) part) where
    mark_same : (b : Bool) → t ≡ b → marked (layout d) (drop n pair) ≡ b
    mark_same b e = sym (ap₂ (λ (y : Layout) (s : State). marked y s) (same_layout file d w h q) o) ∙ sym m ∙ e

    pub marked_pair : t ≡ true → (p : ℕ) → last_state_property < p → (first : Bool) → first ≡ false → false ≡ true_at d (property_of file piece d p) (before_in first n pair) (drop n pair)
    unfolding true_at property_of
    marked_pair e zero l first f = absurd (omega arith)
    marked_pair e (suc zero) l first f = absurd (omega arith)
    marked_pair e (suc (suc p)) l true f = absurd (false≢true (sym f))
    marked_pair e (suc (suc p)) l false f = marked_fails (eval_bool (layout d) (take n pair ++ drop n pair) d.constraint) _ (mark_same true e)

    pub pair_true : t ≡ false → (p : ℕ) → last_state_property < p → (first : Bool) → first ≡ false
        → (r : Bool) → r ≡ eval_bool (layout_of h) pair d.constraint → r ≡ true_at d (property_of file piece d p) (before_in first n pair) (drop n pair)
    unfolding true_at property_of
    pair_true e zero l first f r k = absurd (omega arith)
    pair_true e (suc zero) l first f r k = absurd (omega arith)
    pair_true e (suc (suc p)) l true f r k = absurd (false≢true (sym f))
    pair_true e (suc (suc p)) l false f r k =
        k ∙ ap₂ (λ (y : Layout) (s : State). eval_bool y s d.constraint) (same_layout file d w h q) (sym (take-append-drop n pair))
        ∙ unmarked_counts _ _ (mark_same false e)

-- the constraint, which two states are read by
module _ (file events' : List ℕ) (h : Shape) (ready : Indexed file events' h) where
  abbrev N : Names
  N = with_later true (names_of file h)

  pub no_constraint : has_constraint file ≡ false → (pair : State) (d : Design) (w : Parts file d) → true ≡ eval_bool (layout_of h) pair d.constraint
  unfolding eval_bool
  no_constraint e pair d w = ap (eval_bool (layout_of h) pair) (sym (constraint_none file d w e))

  module _ (e : has_constraint file ≡ true) (at end : ℕ) (a : at ≡ constraint_offset file) (b : end ≡ items_end file) where
    pub constraint_reads : is_read (bool_expr file N end max_depth at) ≡ true
    constraint_reads = ap is_read (constraint_some file ready.accepted h ready.shaped at end a b e).1

    pub constraint_value : (pair : State) (r : Bool) → r ≡ bool_value (layout_of h) pair (bool_expr file N end max_depth at) → (d : Design) (w : Parts file d) → r ≡ eval_bool (layout_of h) pair d.constraint
    constraint_value pair r v d w = v ∙ ap (bool_value (layout_of h) pair) (constraint_got file ready.accepted h ready.shaped at end a b d w e)
