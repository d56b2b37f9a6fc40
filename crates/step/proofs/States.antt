-- The answers of START, STEP and HOLDS, by the tests that led to them. Assumes nothing.
use Rattle.std.proofs.Common.{◌≡◌, ℕ, zero, suc, ◌+◌, ◌-◌, ◌<◌, ◌≤◌, Bool, ltb, leb, List, [], ◌∷◌, ◌++◌, map, length, get_or, take, drop, set, replicate, ℤ, pos, sym, refl, ap, ◌∙◌, ap₂, append_assoc, arith, length-append, length-drop, length-set, length-take-le, le-ltb, lt-ltb, le-leb}
use lib.Seq.{paste, length-paste, take-paste}
use borrow.Author.Tests.{lt-leb}
use Rattle.design.specs.Tree.{Design, movers}
use Rattle.design.specs.State.{State, Layout, layout, layout_of, slot_count, start}
use Rattle.design.specs.Check.{accepted, check, refusal}
use Rattle.design.specs.Answer.{Answer, refused, answer, need}
use Rattle.design.specs.Places.{Accepted, Shaped}
use Rattle.design.specs.Refusal.{number_of, place_of, refusal_of}
use Rattle.design.specs.declared.refusal.Refused.{Refused}
use Rattle.std.specs.Prelude.{Some, None}
use Rattle.design.specs.declared.shape.Shape.{Shape}
use Rattle.design.specs.Sections.{Parts}
use Rattle.design.proofs.Sections.{whole}
use Rattle.design.proofs.Places.{read}
use Rattle.design.proofs.Widths.{matrix_count_lem}
use Rattle.step.specs.Pattern.{signed, wrap}
use Rattle.step.specs.Limits.{last_state_property}
use Rattle.step.specs.Piece.{no_piece}
use Rattle.step.specs.Property.{property_of}
use Rattle.step.specs.OneStep.{step, holds}
use Rattle.step.specs.Interface.{values_right, statuses_right, first_wrong, entries_right, slots_given, values_of, statuses_of, mark_of, wrong_at, entries_of}
use Rattle.step.specs.Entries.{tests_of, slots_entered}
use Rattle.step.specs.declared.interface.Entries.{Entries}
use Rattle.step.specs.Operations.{all_right, START, next, stepped, STEP, HOLDS}
use Rattle.step.specs.Ready.{tested_by}
use Rattle.step.specs.declared.mover.Tested.{Tested}
use Rattle.step.specs.declared.Started.{Started}
use Rattle.step.specs.declared.Stepped.{Stepped}
use Rattle.step.proofs.Gates.{need_no, need_yes, check_handed, on_accepted}
use Rattle.step.proofs.Answering.{need_wrong, need_right}
use Rattle.step.proofs.Scanning.{same_layout}
use Rattle.design.specs.Limits.{max_variables, max_matrices}

-- the last slot
set_last : (xs ys : List ℕ) (k m : ℕ) → length xs ≡ k → length ys ≡ 1 → set (xs ++ ys) k m ≡ xs ++ (m ∷ [])
set_last [] [] k m e l = absurd (omega arith)
set_last [] (y ∷ []) zero m e l = refl
set_last [] (y ∷ []) (suc k) m e l = absurd (omega arith)
set_last [] (y ∷ z ∷ ys) k m e l = absurd (omega arith)
set_last (x ∷ xs) ys zero m e l = absurd (omega arith)
set_last (x ∷ xs) ys (suc k) m e l = ap (λ (t : List ℕ). x ∷ t) (set_last xs ys k m (omega arith) l)

-- two copies and the mark make the state
pub entries_loaded : (h : Shape) (e : Entries) (s t u : State) → length s ≡ slot_count h → h.variables ≤ length e.patterns → h.matrices ≤ length e.statuses
    → t ≡ paste s 0 e.patterns h.variables → u ≡ paste t h.variables e.statuses h.matrices → set u (h.variables + h.matrices) e.mark ≡ slots_entered h e
entries_loaded h e s t u n a b f g =
    let nv = h.variables in
    let nm = h.matrices in
    let long : length t ≡ slot_count h = ap length f ∙ length-paste s 0 e.patterns nv (omega arith) a ∙ n in
    let values : take nv t ≡ take nv e.patterns = ap₂ (λ (k : ℕ) (x : State). take k x) (let z : nv ≡ 0 + nv = omega arith in z) f ∙ take-paste s 0 e.patterns nv (omega arith) a in
    let both : length (take nv e.patterns ++ take nm e.statuses) ≡ nv + nm = length-append (take nv e.patterns) (take nm e.statuses)
    ∙ ap₂ (λ (x y : ℕ). x + y) (length-take-le nv e.patterns a) (length-take-le nm e.statuses b) in
    ap (λ (x : State). set x (nv + nm) e.mark) (g ∙ ap (λ (x : State). x ++ take nm e.statuses ++ drop (nv + nm) t) values)
    ∙ set_last (take nv e.patterns ++ take nm e.statuses) (drop (nv + nm) t) (nv + nm) e.mark both (omega (arith, length-drop (nv + nm) t))
    ∙ append_assoc (take nv e.patterns) (take nm e.statuses) (e.mark ∷ [])

pub loaded_long : (s t u : State) (i x : ℕ) → length t ≡ length s → length u ≡ length t → length (set u i x) ≡ length s
loaded_long s t u i x e f = length-set u i x ∙ f ∙ e

-- a state as the code gives it
pub record Given (h : Shape) (s : State) (vs : List ℤ) (ss : List ℕ) (m : ℕ) : Type 0 where
  pub values : vs ≡ take h.variables (map signed s) ++ replicate (max_variables - h.variables) (pos 0)
  pub statuses : ss ≡ take h.matrices (drop h.variables s) ++ replicate (max_matrices - h.matrices) 0
  pub mark : m ≡ get_or s (layout_of h).mark 0

module _ (file : List ℕ) (d : Design) (c : check file ≡ accepted d) (h : Shape) (q : Shaped file h) where
  w : Parts file d
  w = (whole file d c).parts

  variables_are : h.variables ≡ length d.variables
  variables_are = q.variables ∙ sym w.variable_count_lem

  matrices_are : h.matrices ≡ length d.statuses
  matrices_are = q.matrices ∙ sym (matrix_count_lem file d w)

  values_are : (s : State) (vs : List ℤ) → vs ≡ take h.variables (map signed s) ++ replicate (max_variables - h.variables) (pos 0) → vs ≡ values_of d s
  values_are s vs k = k ∙ ap (λ (j : ℕ). take j (map signed s) ++ replicate (max_variables - j) (pos 0)) variables_are

  statuses_are : (s : State) (ss : List ℕ) → ss ≡ take h.matrices (drop h.variables s) ++ replicate (max_matrices - h.matrices) 0 → ss ≡ statuses_of d s
  unfolding layout
  statuses_are s ss k =
      k ∙ ap₂ (λ (i j : ℕ). take j (drop i s) ++ replicate (max_matrices - j) 0) variables_are matrices_are
      ∙ ap (λ (j : ℕ). take j (drop (length d.variables) s) ++ replicate (max_matrices - length d.statuses) 0)
      (let z : length d.statuses ≡ length d.variables + length d.statuses - length d.variables = omega arith in z)

  mark_is : (s : State) (m : ℕ) → m ≡ get_or s (layout_of h).mark 0 → m ≡ mark_of d s
  mark_is s m k = k ∙ ap (λ (l : Layout). get_or s l.mark 0) (same_layout file d w h q)

  pub entries_are : (s : State) (vs : List ℤ) (ss : List ℕ) (m : ℕ) → Given h s vs ss m → ◌≡◌ {A = Started} (record { values = vs; statuses = ss; mark = m }) (entries_of d s)
  entries_are s vs ss m g =
      ap₂ (λ (x : List ℤ) (y : List ℕ). record { values = x; statuses = y; mark = m }) (values_are s vs g.values) (statuses_are s ss g.statuses)
      ∙ ap (λ (x : ℕ). record { values = values_of d s; statuses = statuses_of d s; mark = x }) (mark_is s m g.mark)

  pub slots_are : (values : List ℤ) (e : Entries) → e.patterns ≡ map wrap values → slots_entered h e ≡ slots_given d values e.statuses e.mark
  slots_are values e a =
      ap (λ (x : List ℕ). take h.variables x ++ (take h.matrices e.statuses ++ (e.mark ∷ []))) a
      ∙ ap₂ (λ (i j : ℕ). take i (map wrap values) ++ (take j e.statuses ++ (e.mark ∷ []))) variables_are matrices_are

  pub step_answer_lem : (s s' : State) (vs : List ℤ) (ss : List ℕ) (m : ℕ) (r : Tested) (choice : ℕ) → (s' ≡ step d s choice) × (r ≡ tested_by d s choice) → Given h s' vs ss m
      → ◌≡◌ {A = Stepped} (record { values = vs; statuses = ss; mark = m; idle = r.idle }) (next d s choice)
  step_answer_lem s s' vs ss m r choice k g =
      ap₂ stepped (entries_are s' vs ss m g ∙ ap (entries_of d) k.0) (ap (λ (t : Tested). t.idle) k.1)

-- START
pub start_refused : (file : List ℕ) (e : Refused) → refusal_of e ≡ refusal (check file) → refused (number_of e) (place_of e) ≡ START file
unfolding START
start_refused file e q = check_handed file _ e q

pub start_answer_lem : (file : List ℕ) → Accepted file → (h : Shape) → Shaped file h → (s : State) (vs : List ℤ) (ss : List ℕ) (m : ℕ) → ((d : Design) → check file ≡ accepted d → s ≡ start d) → Given h s vs ss m
    → answer (record { values = vs; statuses = ss; mark = m }) ≡ START file
unfolding START
start_answer_lem file a h q s vs ss m k g =
    let t = read file a in
    ap answer (entries_are file t.tree t.is h q s vs ss m g ∙ ap (entries_of t.tree) (k t.tree t.is)) ∙ sym (on_accepted file _ a)

-- the tests of the entries, by patterns
same_tests : (d : Design) (values : List ℤ) (e : Entries) → e.patterns ≡ map wrap values → wrong_at (tests_of d e) ≡ wrong_at (entries_right d values e.statuses e.mark)
same_tests d values e a = ap (λ (x : List ℕ). wrong_at (values_right d.variables x ++ (statuses_right d.statuses e.statuses ++ (leb e.mark 1 ∷ [])))) a

-- STEP; `e` is what the code makes of the values, statuses and mark
module _ (file : List ℕ) (values : List ℤ) (ss : List ℕ) (mark choice : ℕ) where
  pub step_refused : (e : Refused) → refusal_of e ≡ refusal (check file) → refused (number_of e) (place_of e) ≡ STEP file values ss mark choice
  unfolding STEP
  step_refused e q = check_handed file _ e q

  module _ (x : Accepted file) (ps : List ℕ) (a : ps ≡ map wrap values) where
    d : Design
    d = (read file x).tree

    c : check file ≡ accepted d
    unfolding d
    c = (read file x).is

    abbrev e : Entries
    e = record { patterns = ps; statuses = ss; mark = mark }

    abbrev tests : List Bool
    tests = entries_right d values ss mark

    abbrev ends : Answer Stepped
    ends = need (ltb choice (length (movers d))) 12 0 (answer (next d (slots_given d values ss mark) choice))

    answers : need (all_right tests) 11 (first_wrong tests) ends ≡ STEP file values ss mark choice
    unfolding STEP d
    answers = sym (on_accepted file _ x)

    pub step_11 : (wrong : ℕ) → ((d : Design) → check file ≡ accepted d → Some wrong ≡ wrong_at (tests_of d e)) → refused 11 wrong ≡ STEP file values ss mark choice
    step_11 wrong h = sym (need_wrong tests 11 ends wrong (h d c ∙ same_tests d values e a)) ∙ answers

    module _ (h : (d : Design) → check file ≡ accepted d → None ≡ wrong_at (tests_of d e)) (w : ℕ) (m : (d : Design) → check file ≡ accepted d → w ≡ length (movers d)) where
      after_11 : ends ≡ STEP file values ss mark choice
      after_11 = sym (need_right tests 11 ends (h d c ∙ same_tests d values e a)) ∙ answers

      pub step_12 : w ≤ choice → refused 12 0 ≡ STEP file values ss mark choice
      step_12 o = sym (need_no (ltb choice (length (movers d))) 12 0 _ (le-ltb choice (length (movers d)) (let z = m d c in omega arith))) ∙ after_11

      pub step_done : choice < w → (y : Shape) → Shaped file y → (i : ℕ) → i ≡ choice → (r : Stepped) → ((d : Design) → check file ≡ accepted d → r ≡ next d (slots_entered y e) i) → answer r ≡ STEP file values ss mark choice
      step_done o y q i t r f =
          ap answer (f d c ∙ ap (next d (slots_entered y e)) t ∙ ap (λ (s : State). next d s choice) (slots_are file d c y q values e a))
          ∙ sym (need_yes (ltb choice (length (movers d))) 12 0 (answer (next d (slots_given d values ss mark) choice)) (lt-ltb choice (length (movers d)) (let z = m d c in omega arith))) ∙ after_11

-- HOLDS
module _ (file : List ℕ) (values : List ℤ) (ss : List ℕ) (mark p : ℕ) where
  pub holds_refused : (e : Refused) → refusal_of e ≡ refusal (check file) → refused (number_of e) (place_of e) ≡ HOLDS file values ss mark p
  unfolding HOLDS
  holds_refused e q = check_handed file _ e q

  module _ (x : Accepted file) (ps : List ℕ) (a : ps ≡ map wrap values) where
    d' : Design
    d' = (read file x).tree

    c' : check file ≡ accepted d'
    unfolding d'
    c' = (read file x).is

    abbrev e' : Entries
    e' = record { patterns = ps; statuses = ss; mark = mark }

    abbrev tests' : List Bool
    tests' = entries_right d' values ss mark

    abbrev ends' : Answer Bool
    ends' = need (leb p last_state_property) 13 0 (answer (holds d' (property_of file no_piece d' p) (slots_given d' values ss mark)))

    answers' : need (all_right tests') 11 (first_wrong tests') ends' ≡ HOLDS file values ss mark p
    unfolding HOLDS d'
    answers' = sym (on_accepted file _ x)

    pub holds_11 : (wrong : ℕ) → ((d : Design) → check file ≡ accepted d → Some wrong ≡ wrong_at (tests_of d e')) → refused 11 wrong ≡ HOLDS file values ss mark p
    holds_11 wrong h = sym (need_wrong tests' 11 ends' wrong (h d' c' ∙ same_tests d' values e' a)) ∙ answers'

    module _ (h : (d : Design) → check file ≡ accepted d → None ≡ wrong_at (tests_of d e')) where
      then_11 : ends' ≡ HOLDS file values ss mark p
      then_11 = sym (need_right tests' 11 ends' (h d' c' ∙ same_tests d' values e' a)) ∙ answers'

      pub holds_13 : last_state_property < p → refused 13 0 ≡ HOLDS file values ss mark p
      holds_13 o = sym (need_no (leb p last_state_property) 13 0 _ (lt-leb p last_state_property o)) ∙ then_11

      pub holds_done : p ≤ last_state_property → (y : Shape) → Shaped file y → (r : Bool) → ((d : Design) (w : Parts file d) → r ≡ holds d (property_of file no_piece d p) (slots_entered y e')) → answer r ≡ HOLDS file values ss mark p
      holds_done o y q r f =
          ap answer (f d' (whole file d' c').parts ∙ ap (holds d' (property_of file no_piece d' p)) (slots_are file d' c' y q values e' a))
          ∙ sym (need_yes (leb p last_state_property) 13 0 (answer (holds d' (property_of file no_piece d' p) (slots_given d' values ss mark))) (le-leb p last_state_property o)) ∙ then_11
