-- The lines of a run, and what is printed of a call. Assumes nothing.
use mathlib.Core.Path.{◌≡◌, refl, sym, ap, ap₂, subst, ◌∙◌}
use mathlib.Core.Bool.{Bool, true, false, cond}
use mathlib.Core.List.{List, ◌∷◌, ◌++◌, map}
use mathlib.Core.Option.{Option, none, some}
use Prim.Native.Nat.{ℕ, suc, ◌+◌, ◌*◌, ◌-◌, ◌<◌, ◌≤◌}
use native.Mathlib.Omega.{arith}
use native.Mathlib.Numerals.{add-one}
use lib.Dec.{eqb, leb, ltb}
use lib.IntN.{pos}
use lib.ListN.{length, get_or, take, drop, drop_of_length-le, length-drop}
use lib.Seq.{drop-cons, take_at, drop_at, take_all}
use Rattle.std.specs.Prelude.{Some, None}
use borrow.Author.Tests.{le-ltb, ne_eqb, le-leb, lt-leb, leb-true, leb-false, eqb-true}
use Rattle.design.specs.Tree.{Design, movers}
use Rattle.design.specs.State.{State, Layout, layout, statuses_in, start}
use Rattle.design.specs.Check.{Checked, refused, accepted, check, refusal, variable_count, matrix_count}
use Rattle.design.specs.Answer.{Answer, answer, need, on_design}
use Rattle.design.specs.Answer as call
use Rattle.design.specs.Places.{Shaped, MoversIndexed}
use Rattle.design.specs.Sections.{Parts}
use Rattle.design.proofs.Sections.{whole}
use Rattle.design.proofs.Places.{read}
use Rattle.step.specs.Piece.{no_piece}
use Rattle.step.specs.Property.{Property, property_of}
use Rattle.design.proofs.Widths.{layout_is}
use Rattle.step.specs.Gate.{gate}
use Rattle.step.specs.Pattern.{signed}
use Rattle.step.specs.Interface.{first_wrong}
use Rattle.step.specs.OneStep.{step, idle, true_at}
use Rattle.step.specs.Operations.{all_right, run_told, choices_right, REPLAY}
use Rattle.step.specs.declared.Replayed.{Replayed}
use Rattle.step.specs.Limits.{last_state_property}
use Rattle.step.specs.Ready.{before_in, kept_in, tested_by}
use Rattle.step.specs.declared.mover.Tested.{Tested}
use Rattle.step.proofs.Answering.{all_below}
use Rattle.step.proofs.Pairs.{front_long, kept_true}
use Rattle.design.specs.declared.shape.Shape.{Shape}
use Rattle.design.proofs.Indexed.{count_movers}
use Rattle.step.proofs.Gates.{gate_answers}
use Rattle.text.specs.Text.{TextWritten, max_line}
use Rattle.text.specs.Line.{head, slots_text, line}
use Rattle.text.specs.Trace.{state_line, next_lines, state_lines, result_text, refused_at, refusal_text, traced, trace, max_read, replay_text}
use Rattle.text.specs.Ready.{ReplayInput}
use Rattle.text.proofs.Putting.{written_then, Rest, rest_start, rest_next, rest_end}

-- the choices are below the number of movers, by the tables of the file
pub choices_below : (file cs : List ℕ) → ReplayInput file cs → (cells : List ℕ) (h : Shape) → Shaped file h → MoversIndexed file cells h → (i : ℕ) → i < length cs → get_or cs i 0 < h.normals + h.externals
choices_below file cs r cells h s m i l =
    let t = read file r.design in
    omega (arith, r.below t.tree t.is i l, count_movers file cells h s m t.tree t.is)

-- the line of a state, by the numbers of variables and matrices in the file; its slots are lent as part of a pair
pub state_written : (file : List ℕ) (d : Design) → Parts file d → (nv nm : ℕ) (p : Property) (i mover : ℕ) (idled held : Bool) (before : Option State) (s : State) {xs ys zs : List ℕ} {at m r : ℕ}
    → nv ≡ variable_count file → nm ≡ matrix_count file → held ≡ true_at d p before s
    → TextWritten (head i mover idled held) xs ys at m → (lent : State) → lent ≡ s → TextWritten (slots_text nv nm lent) ys zs m r
    → TextWritten (state_line d p i mover idled before s) xs zs at r
unfolding state_line line
state_written file d w nv nm p i mover idled held before s {xs} {ys} {zs} {at} {m} {r} e q h g lent z k' =
    let k = subst (λ (x : State). TextWritten (slots_text nv nm x) ys zs m r) z k' in
    let L = layout_is file d w nv nm e q in
    let n : nm ≡ nv + nm - nv = omega arith in
    subst (λ (b : Bool). TextWritten (line i mover idled b (take (length d.variables) (map signed s)) (map pos (statuses_in (layout d) s))) xs zs at r) h
    (subst (λ (l : Layout). TextWritten (line i mover idled held (take (length d.variables) (map signed s)) (map pos (statuses_in l s))) xs zs at r) L
    (subst (λ (v : ℕ). TextWritten (line i mover idled held (take v (map signed s)) (map pos (take (nv + nm - nv) (drop nv s)))) xs zs at r) (e ∙ sym w.variable_count_lem)
    (subst (λ (j : ℕ). TextWritten (line i mover idled held (take nv (map signed s)) (map pos (take j (drop nv s)))) xs zs at r) n (written_then g k))))

-- what is left of the choices, printed now, is the whole printed at the start; `pair` has the state before and the state now, of n slots each
pub record Printing (file : List ℕ) (p n : ℕ) (cs : List ℕ) (pair₀ : State) (xs : List ℕ) (at i : ℕ) (pair : State) (ys : List ℕ) (q : ℕ) : Type 0 where
  pub inside : i ≤ length cs
  pub state : length pair ≡ length pair₀
  pub near : q ≤ at + max_line * i
  pub size : length ys ≡ length xs
  pub rest : (d : Design) → check file ≡ accepted d → Rest (next_lines d (property_of file no_piece d p) i (drop n pair) (drop i cs)) (next_lines d (property_of file no_piece d p) 0 (drop n pair₀) cs) xs ys at q

pub printing_start : (file : List ℕ) (p n : ℕ) (cs : List ℕ) (pair : State) (xs : List ℕ) (at : ℕ) → Printing file p n cs pair xs at 0 pair xs at
printing_start file p n cs pair xs at =
    record { inside = omega arith; state = refl; near = omega arith; size = refl; rest = λ d e. rest_start (next_lines d (property_of file no_piece d p) 0 (drop n pair) cs) xs at }

module _ (file : List ℕ) (p n : ℕ) (cs : List ℕ) (pair₀ : State) (xs : List ℕ) (at i : ℕ) (pair : State) (ys : List ℕ) (q : ℕ) (g : Printing file p n cs pair₀ xs at i pair ys q) where
  abbrev now : State
  now = drop n pair

  -- the state before a line's state matters only where the property is judged on it
  kept_line : (d : Design) (keep : Bool) → keep ≡ ltb last_state_property p → (j c : ℕ) (u : Bool) (s : State)
      → state_line d (property_of file no_piece d p) j c u (some now) s ≡ state_line d (property_of file no_piece d p) j c u (some (kept_in keep n pair)) s
  unfolding state_line
  kept_line d keep e j c u s =
      ap (λ (t : Bool). line j c u t (take (length d.variables) (map signed s)) (map pos (statuses_in (layout d) s))) (sym (kept_true file no_piece d p n pair keep e s))

  -- the state now is kept as the one before, where the property is judged on both, and the step out of it stands behind it
  next_lines_lem : (d : Design) (c : ℕ) (keep : Bool) → keep ≡ ltb last_state_property p → (pair' : State) (u : Bool) → length pair₀ ≡ n + n → i < length cs → c ≡ get_or cs i 0
      → (pair' ≡ kept_in keep n pair ++ step d now c) × (u ≡ idle d now c)
      → next_lines d (property_of file no_piece d p) i now (drop i cs)
      ≡ state_line d (property_of file no_piece d p) (suc i) c u (before_in (eqb (suc i) 0) n pair') (drop n pair') ++ next_lines d (property_of file no_piece d p) (suc i) (drop n pair') (drop (suc i) cs)
  unfolding next_lines
  next_lines_lem d c keep kp pair' u z l e k =
      let front = kept_in keep n pair in
      let long : length front ≡ n = front_long n pair (g.state ∙ z) keep in
      let x = step d now c in
      let kept : take n pair' ≡ front = ap (take n) k.0 ∙ take_at front x n long in
      let moved : drop n pair' ≡ x = ap (drop n) k.0 ∙ drop_at front x n long in
      let first : before_in (eqb (suc i) 0) n pair' ≡ some front = ap (λ (b : Bool). before_in b n pair') (ne_eqb (suc i) 0 (λ o. omega arith)) ∙ ap some kept in
      ap (next_lines d (property_of file no_piece d p) i now) (drop-cons cs i 0 l ∙ ap (λ (y : ℕ). y ∷ drop (suc i) cs) (sym e))
      ∙ ap (λ (b : Bool). state_line d (property_of file no_piece d p) (suc i) c b (some now) x ++ next_lines d (property_of file no_piece d p) (suc i) x (drop (suc i) cs)) (sym k.1)
      ∙ ap (λ (y : List ℕ). y ++ next_lines d (property_of file no_piece d p) (suc i) x (drop (suc i) cs)) (kept_line d keep kp (suc i) c u x)
      ∙ ap₂ (λ (a : Option State) (y : State). state_line d (property_of file no_piece d p) (suc i) c u a y ++ next_lines d (property_of file no_piece d p) (suc i) y (drop (suc i) cs)) (sym first) (sym moved)

  pub printing_on : length pair₀ ≡ n + n → i < length cs → (c : ℕ) → c ≡ get_or cs i 0 → (keep : Bool) → keep ≡ ltb last_state_property p → (pair' : State) (u : Tested) → length pair' ≡ length pair
      → ((d : Design) → check file ≡ accepted d → (pair' ≡ kept_in keep n pair ++ step d now c) × (u ≡ tested_by d now c)) → (zs : List ℕ) (r : ℕ)
      → ((d : Design) (w : Parts file d) → TextWritten (state_line d (property_of file no_piece d p) (i + 1) c u.idle (before_in (eqb (i + 1) 0) n pair') (drop n pair')) ys zs q r)
      → r ≤ q + max_line → length zs ≡ length ys → Printing file p n cs pair₀ xs at (i + 1) pair' zs r
  printing_on y l c e keep kp pair' u m k zs r h b z = rw (add-one i) (record {
    inside = omega arith;
    state = m ∙ g.state;
    near = omega (arith, g.near);
    size = z ∙ g.size;
    rest = λ d t.
        rest_next (state_line d (property_of file no_piece d p) (suc i) c u.idle (before_in (eqb (suc i) 0) n pair') (drop n pair')) (next_lines d (property_of file no_piece d p) (suc i) (drop n pair') (drop (suc i) cs))
        (next_lines_lem d c keep kp pair' u.idle y l e ((k d t).0, ap (λ (x : Tested). x.idle) (k d t).1)) (g.rest d t)
        (subst (λ (j : ℕ). TextWritten (state_line d (property_of file no_piece d p) j c u.idle (before_in (eqb j 0) n pair') (drop n pair')) ys zs q r) (add-one i) (h d (whole file d t).parts));
  })

  pub printing_end : length cs ≤ i → (d : Design) → check file ≡ accepted d → TextWritten (next_lines d (property_of file no_piece d p) 0 (drop n pair₀) cs) xs ys at q
  unfolding next_lines
  printing_end l d e = rest_end (ap (next_lines d (property_of file no_piece d p) i now) (drop_of_length-le cs l)) (g.rest d e)

-- the first state's line and the others
pub states_written : (d : Design) (p : Property) (cs : List ℕ) (s : State) {xs ys zs : List ℕ} {at m r : ℕ} → s ≡ start d
    → TextWritten (state_line d p 0 0 false none s) xs ys at m → TextWritten (next_lines d p 0 s cs) ys zs m r → TextWritten (state_lines d p cs) xs zs at r
unfolding state_lines
states_written d p cs s {xs} {ys} {zs} {at} {m} {r} e g h = subst (λ (t : State). TextWritten (state_line d p 0 0 false none t ++ next_lines d p 0 t cs) xs zs at r) e (written_then g h)

-- a refusal, by the number and the place that are printed
pub refusal_as : (n number k place : ℕ) {xs ys : List ℕ} {at r : ℕ} → n ≡ number → k ≡ place → TextWritten (refusal_text (refused_at n k)) xs ys at r → TextWritten (refusal_text (refused_at number place)) xs ys at r
refusal_as n number k place {xs} {ys} {at} {r} e q w = subst (λ (us : List ℕ). TextWritten us xs ys at r) (ap₂ (λ (a b : ℕ). refusal_text (refused_at a b)) e q) w

on_refused : {A : Type 0} (file : List ℕ) (f : Design → Answer A) (i j : ℕ) → check file ≡ refused i j → on_design file f ≡ call.refused i j
unfolding on_design
on_refused file f i j e = ap (λ (x : Checked). call.of_checked x f) e

-- a call of REPLAY
module _ (file : List ℕ) (p : ℕ) (cs : List ℕ) where
  -- what REPLAY asks of a design, past the gate
  abbrev asked : Design → Property → Answer Replayed
  asked d q = need (all_right (choices_right d cs)) 12 (first_wrong (choices_right d cs)) (answer (run_told d q (start d) cs))

  need_met : (t : Bool) (n k : ℕ) (x : Answer Replayed) (r : Replayed) → need t n k x ≡ answer r → t ≡ true
  need_met true n k x r e = refl
  need_met false n k x r e = let o : ◌≡◌ {A = ℕ} 0 1 = cc in absurd (omega arith)

  below_all : (d : Design) → all_right (choices_right d cs) ≡ true → (i : ℕ) → i < length cs → get_or cs i 0 < length (movers d)
  below_all d e =
      let ts = choices_right d cs in
      let q = eqb-true (first_wrong ts) (length ts) e in
      all_below cs (length (movers d)) (sym (ap (λ (t : Bool). cond t (Some (first_wrong ts)) None) (le-ltb (first_wrong ts) (length ts) (omega arith))))

  -- one that is refused
  pub trace_refused : {xs ys : List ℕ} {at r : ℕ} (n k : ℕ) → call.refused n k ≡ REPLAY file no_piece p cs → TextWritten (refusal_text (refused_at n k)) xs ys at r → TextWritten (trace file p cs) xs ys at r
  unfolding trace REPLAY gate
  trace_refused {xs} {ys} {at} {r} n k says w = subst (λ (us : List ℕ). TextWritten us xs ys at r) (go (check file) refl ∙ ap (λ (x : Answer Replayed). traced file (check file) x p cs) says) w
    where
      go : (x : Checked) → check file ≡ x → refusal_text (refused_at n k) ≡ traced file (check file) (call.refused n k) p cs
      go (refused i j) e = same i j e ∙ sym (ap (λ (x : Checked). traced file x (call.refused n k) p cs) e)
        where
          same : (i j : ℕ) → check file ≡ refused i j → refusal_text (refused_at n k) ≡ refusal_text (refused_at i j)
          same i j e =
              let z : call.refused n k ≡ call.refused i j = says ∙ on_refused file _ i j e in
              let a : n ≡ i = cc in
              let b : k ≡ j = cc in
              ap₂ (λ (x y : ℕ). refusal_text (refused_at x y)) a b
      go (accepted d) e = sym (ap (λ (x : Checked). traced file x (call.refused n k) p cs) e)

  -- one that is answered
  module _ (told : Replayed) (says : answer told ≡ REPLAY file no_piece p cs) where
    pub replayable : ReplayInput file cs
    unfolding REPLAY
    replayable =
        let g = gate_answers file no_piece p (length cs) asked told (sym says) in
        record {
          design = ap (λ (c : Checked). (refusal c).number) g.accepted;
          few = g.bound;
          below = λ d e.
              let same : g.design ≡ d = cc (g.accepted, e) in
              below_all d (subst (λ (x : Design). all_right (choices_right x cs) ≡ true) same (need_met _ _ _ _ told g.same));
        }

    pub trace_done : {xs ys zs : List ℕ} {at m r : ℕ} → ((d : Design) → check file ≡ accepted d → TextWritten (state_lines d (property_of file no_piece d p) cs) xs ys at m) → TextWritten (result_text told.broken) ys zs m r → TextWritten (trace file p cs) xs zs at r
    unfolding trace
    trace_done {xs} {ys} {zs} {at} {m} {r} g h =
        let t = read file replayable.design in
        subst (λ (us : List ℕ). TextWritten us xs zs at r) (ap₂ (λ (c : Checked) (x : Answer Replayed). traced file c x p cs) (sym t.is) says) (written_then (g t.tree t.is) h)

-- the input's parts
module _ (input : List ℕ) {xs ys : List ℕ} {at r : ℕ} where
  pub text_short : length input < 2 + get_or input 1 0 → TextWritten (refusal_text (refused_at 1 0)) xs ys at r → TextWritten (replay_text input) xs ys at r
  unfolding replay_text
  text_short h w = subst (λ (t : Bool). TextWritten (cond t (trace (take max_read (drop (2 + get_or input 1 0) input)) (get_or input 0 0) (take (get_or input 1 0) (drop 2 input))) (refusal_text (refused_at 1 0))) xs ys at r) (sym (lt-leb (2 + get_or input 1 0) (length input) h)) w

  pub text_whole : (front end : ℕ) → front ≡ 2 + get_or input 1 0 → front ≤ length input → take (end - front) (drop front input) ≡ take max_read (drop front input)
      → TextWritten (trace (take (end - front) (drop front input)) (get_or input 0 0) (take (front - 2) (drop 2 input))) xs ys at r → TextWritten (replay_text input) xs ys at r
  unfolding replay_text
  text_whole front end e l q w =
      let c : front - 2 ≡ get_or input 1 0 = omega arith in
      subst (λ (t : Bool). TextWritten (cond t (trace (take max_read (drop (2 + get_or input 1 0) input)) (get_or input 0 0) (take (get_or input 1 0) (drop 2 input))) (refusal_text (refused_at 1 0))) xs ys at r) (sym (le-leb (2 + get_or input 1 0) (length input) (omega arith)))
      (subst (λ (k : ℕ). TextWritten (trace (take max_read (drop k input)) (get_or input 0 0) (take (get_or input 1 0) (drop 2 input))) xs ys at r) e
      (subst (λ (k : ℕ). TextWritten (trace (take max_read (drop front input)) (get_or input 0 0) (take k (drop 2 input))) xs ys at r) c
      (subst (λ (us : List ℕ). TextWritten (trace us (get_or input 0 0) (take (front - 2) (drop 2 input))) xs ys at r) q w)))

-- no more design bytes than are read
pub read_part : (input : List ℕ) (front end : ℕ) → (length input - front ≤ max_read → end ≡ length input) → (max_read < length input - front → end - front ≡ max_read) → take (end - front) (drop front input) ≡ take max_read (drop front input)
read_part input front end f g = go (leb (length input - front) max_read) refl
  where
    go : (t : Bool) → leb (length input - front) max_read ≡ t → take (end - front) (drop front input) ≡ take max_read (drop front input)
    go true e =
        let l = leb-true (length input - front) max_read e in
        let q = f l in
        let n = length-drop front input in
        take_all (end - front) (drop front input) (omega arith) ∙ sym (take_all max_read (drop front input) (omega arith))
    go false e = ap (λ (k : ℕ). take k (drop front input)) (g (leb-false (length input - front) max_read e))
