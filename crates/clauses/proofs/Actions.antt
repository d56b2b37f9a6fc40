-- Statements, movers and properties: under any assignment that obeys its gates, what a builder leaves is what the step rule leaves.
use Rattle.std.proofs.Common.{◌≡◌, ℕ, zero, suc, ◌+◌, ◌*◌, ◌^◌, ◌<◌, Bool, true, false, cond, not, ◌&&◌, ◌||◌, eqb, List, [], ◌∷◌, ◌++◌, map, length, get_or, set, sym, refl, ap, ◌∙◌, ap₂, arith}
use mathlib.Core.List.{map-append}
use mathlib.Core.Option.{some}
use lib.Seq.{set-get_or}
use Rattle.design.specs.Tree.{BoolExpr, Stmt, Stmts, assign, assign_b, if_else, done, then, InvalidCell, Design, Mover, cell, raise, movers, bit}
use Rattle.design.specs.State.{State, Layout, layout, status_slot, status_width, widths}
use Rattle.design.specs.WellFormed.{HasMark, BoolOk, StmtOk, StmtsOk, MoverOk, MoversOk, InvalidsOk, WellFormed}
use Rattle.step.specs.Property.{Property, invariant, no_invalid_cell, constraint, PropertyOk}
use Rattle.step.specs.Evaluation.{eval_bool, passes_int, passes_bool}
use Rattle.step.specs.OneStep.{marked, marked_if, execute, execute_all, status_and_event, enabled, effect, move, no_invalid, true_at, holds}
use Rattle.clauses.specs.Literal.{Literal, negate, true_literal}
use Rattle.clauses.specs.Meaning.{Assignment, literal_true}
use Rattle.clauses.specs.Circuit.{Build, Bits}
use Rattle.clauses.specs.Expression.{Slots, constant_bits, integer_at, lowest, boolean_at, mark_at, with_mark}
use Rattle.clauses.specs.Action.{mux_bits!, muxes!, statement!, statements!, status_and_event!, enable!, effect!, mover!, movers!, no_invalid! }
use Rattle.clauses.specs.Formula.{unmarked!, property!, step_property!, step! }
use Rattle.clauses.proofs.Gates.{negate_true, and_assoc}
use Rattle.clauses.proofs.Correct.{LiteralBelow, Correct, correct_give, correct_bind, correct_weaken, correct_means, and_correct, mux_correct, negate_below}
use Rattle.clauses.proofs.Arithmetic.{BitsBelow, bits_up, Word, number}
use Rattle.clauses.proofs.Equality.{equal_correct}
use Rattle.clauses.proofs.Expressions.{state_of, SlotsBelow, slots_up, constant_word, number_constant, Fits, fits_up, fits_append, width_at_lem, value_at_lem, integer_word, integer_value, boolean_below, boolean_value, int_correct, bool_correct, test_correct}

bit_cond : (c x y : Bool) (X Y : ℕ) → bit (cond c x y) + 2 * cond c X Y ≡ cond c (bit x + 2 * X) (bit y + 2 * Y)
bit_cond true x y X Y = refl
bit_cond false x y X Y = refl

cond_same : {A : Type 0} (c : Bool) (x : A) → x ≡ cond c x x
cond_same true x = refl
cond_same false x = refl

cons_cond : (c : Bool) (x y : ℕ) (X Y : State) → cond c x y ∷ cond c X Y ≡ cond c (x ∷ X) (y ∷ Y)
cons_cond true x y X Y = refl
cons_cond false x y X Y = refl

mux_bits_correct : (c : Literal) (xs ys : Bits) (n : ℕ) → length xs ≡ length ys → LiteralBelow n c → BitsBelow n xs → BitsBelow n ys
    → Correct n (mux_bits! c xs ys n) (Word (length xs)) (λ ρ r. number ρ r ≡ cond (literal_true ρ c) (number ρ xs) (number ρ ys))
unfolding mux_bits!
mux_bits_correct c [] [] n e bc bx by = correct_give _ (record { below = tt; wide = refl }) λ ρ one. cond_same (literal_true ρ c) 0
mux_bits_correct c [] (y ∷ ys) n e bc bx by = absurd (omega arith)
mux_bits_correct c (x ∷ xs) [] n e bc bx by = absurd (omega arith)
mux_bits_correct c (x ∷ xs) (y ∷ ys) n e bc bx by =
    correct_bind _ _ (mux_correct c x y n bc bx.0 by.0) λ z k l bz.
    correct_bind _ _ (mux_bits_correct c xs ys k (omega arith) (omega arith) (bits_up l xs bx.1) (bits_up l ys by.1)) λ r k' l' br.
    correct_give _ (record { below = (omega arith, br.below); wide = ap suc br.wide }) λ ρ one er ez.
    rw (er, ez) (bit_cond (literal_true ρ c) (literal_true ρ x) (literal_true ρ y) (number ρ xs) (number ρ ys))

pub head_eq : {a b : ℕ} {l m : List ℕ} → a ∷ l ≡ b ∷ m → a ≡ b
head_eq e = cc

pub tail_eq : {a b : ℕ} {l m : List ℕ} → a ∷ l ≡ b ∷ m → l ≡ m
tail_eq e = cc

muxes_correct : (c : Literal) (s u : Slots) (n : ℕ) → map length s ≡ map length u → LiteralBelow n c → SlotsBelow n s → SlotsBelow n u
    → Correct n (muxes! c s u n) (λ k r. SlotsBelow k r × (map length r ≡ map length s)) (λ ρ r. state_of ρ r ≡ cond (literal_true ρ c) (state_of ρ s) (state_of ρ u))
unfolding muxes!
muxes_correct c [] [] n e bc bx by = correct_give _ (tt, refl) λ ρ one. cond_same (literal_true ρ c) []
muxes_correct c [] (y ∷ ys) n e bc bx by = absurd (omega (arith, ap length e))
muxes_correct c (x ∷ xs) [] n e bc bx by = absurd (omega (arith, ap length e))
muxes_correct c (x ∷ xs) (y ∷ ys) n e bc bx by =
    correct_bind _ _ (mux_bits_correct c x y n (head_eq e) bc bx.0 by.0) λ z k l bz.
    correct_bind _ _ (muxes_correct c xs ys k (tail_eq e) (omega arith) (slots_up l xs bx.1) (slots_up l ys by.1)) λ r k' l' br.
    correct_give _ ((bits_up l' z bz.below, br.0), ap₂ ◌∷◌ bz.wide br.1) λ ρ one er ez.
    rw (er, ez) (cons_cond (literal_true ρ c) (number ρ x) (number ρ y) (state_of ρ xs) (state_of ρ ys))

set_below : (n : ℕ) (s : Slots) (v : ℕ) (x : Bits) → SlotsBelow n s → BitsBelow n x → SlotsBelow n (set s v x)
set_below n [] v x b c = tt
set_below n (g ∷ gs) zero x b c = (c, b.1)
set_below n (g ∷ gs) (suc v) x b c = (b.0, set_below n gs v x b.1 c)

pub map_set : {A B : Type 0} (f : A → B) (s : List A) (v : ℕ) (x : A) → map f (set s v x) ≡ set (map f s) v (f x)
map_set f [] v x = refl
map_set f (g ∷ gs) zero x = refl
map_set f (g ∷ gs) (suc v) x = ap (λ l. f g ∷ l) (map_set f gs v x)

bit_alone : (b : Bool) → bit b + 2 * 0 ≡ bit b
bit_alone b = omega arith

abbrev pub AllFit : List ℕ → ℕ → List Slots → Type 0
AllFit ws n [] = Unit {0}
AllFit ws n (s ∷ ss) = Fits ws n s × AllFit ws n ss

module _ (ws : List ℕ) (l : Layout) where
  -- muxes between two states of the design's widths
  mux_fits : (e : Literal) (s u : Slots) (n : ℕ) → LiteralBelow n e → Fits ws n s → Fits ws n u
      → Correct n (muxes! e s u n) (Fits ws) (λ ρ r. state_of ρ r ≡ cond (literal_true ρ e) (state_of ρ s) (state_of ρ u))
  mux_fits e s u n be fs fu =
      correct_weaken (muxes_correct e s u n (fs.wide ∙ sym fu.wide) be fs.below fu.below) λ r k le q. (
        record { narrow = fs.narrow; known = omega (arith, fs.known); below = q.0; wide = q.1 ∙ fs.wide },
        λ ρ one h. h,
      )

  -- one slot set
  set_fits : (n : ℕ) (s : Slots) (v : ℕ) (x : Bits) → Fits ws n s → Word (get_or ws v 0) n x → Fits ws n (set s v x)
  set_fits n s v x f b =
      record {
        narrow = f.narrow;
        known = f.known;
        below = set_below n s v x f.below b.below;
        wide = map_set length s v x ∙ ap₂ (λ l y. set l v y) f.wide b.wide ∙ set-get_or ws v 0;
      }

  module _ (s : Slots) where
    status_and_event_correct : (m st : ℕ) (event : BoolExpr) (n : ℕ) → Fits ws n s → st < 2 ^ status_width → BoolOk ws l event
        → Correct n (status_and_event! l s m st event n) LiteralBelow (λ ρ r. literal_true ρ r ≡ status_and_event l (state_of ρ s) m st event)
    unfolding status_and_event!
    status_and_event_correct m st event n f h k =
        correct_bind _ _ (equal_correct 16 (integer_at s (status_slot l m)) (constant_bits 16 st) n f.known (integer_word (status_slot l m) f) (constant_word n 16 st f.known)) λ x n₁ l₁ bx.
        correct_bind _ _ (test_correct ws l s event n₁ (fits_up l₁ f) k) λ y n₂ l₂ by.
        correct_means (and_correct x y n₂ (omega arith) by) λ ρ r one e ey ex.
        e ∙ ap₂ ◌&&◌ (ex ∙ ap₂ eqb (integer_value ws n s (status_slot l m) f ρ one) (number_constant ρ one 16 st (omega arith))) ey

    enable_correct : (m : Mover) (n : ℕ) → Fits ws n s → MoverOk ws l m
        → Correct n (enable! l s m n) LiteralBelow (λ ρ r. literal_true ρ r ≡ enabled l (state_of ρ s) m)
    unfolding enable! enabled
    enable_correct (cell c) n f k =
        correct_bind _ _ (status_and_event_correct c.matrix c.status c.event n f k.status k.event) λ x n₁ l₁ bx.
        correct_bind _ _ (test_correct ws l s c.guard n₁ (fits_up l₁ f) k.guard) λ y n₂ l₂ by.
        correct_means (and_correct x y n₂ (omega arith) by) λ ρ r one e ey ex. e ∙ ap₂ ◌&&◌ ex ey
    enable_correct (raise v) n f k =
        correct_give _ (negate_below n (boolean_at s v) (boolean_below v f)) λ ρ one.
        negate_true ρ (boolean_at s v) ∙ ap not (boolean_value ws n s v f k.width ρ)

    no_invalid_correct : (ps : List InvalidCell) (c : Literal) (n : ℕ) → Fits ws n s → LiteralBelow n c → InvalidsOk ws l ps
        → Correct n (no_invalid! l s c ps n) LiteralBelow (λ ρ r. literal_true ρ r ≡ literal_true ρ c && no_invalid l (state_of ρ s) ps)
    unfolding no_invalid!
    no_invalid_correct [] c n f b k = correct_give _ b λ ρ one. go (literal_true ρ c)
      where
        go : (a : Bool) → a ≡ a && true
        go true = refl
        go false = refl
    no_invalid_correct (p ∷ ps) c n f b k =
        correct_bind _ _ (status_and_event_correct p.matrix p.status p.event n f k.0.status k.0.event) λ x n₁ l₁ bx.
        correct_bind _ _ (and_correct c (negate x) n₁ (omega arith) (negate_below n₁ x bx)) λ y n₂ l₂ by.
        correct_means (no_invalid_correct ps y n₂ (fits_up (omega arith) f) by k.1) λ ρ r one e ey ex.
        e ∙ ap (λ b. b && no_invalid l (state_of ρ s) ps) (ey ∙ ap (λ b. literal_true ρ c && b) (negate_true ρ x ∙ ap not ex)) ∙ and_assoc (literal_true ρ c) _ _

-- the state with its mark set where a test says so
lowest_bit : (ρ : Assignment) (g : Bits) → length g ≡ 1 → bit (literal_true ρ (lowest g)) ≡ number ρ g
lowest_bit ρ [] h = absurd (omega arith)
lowest_bit ρ (x ∷ []) h = omega arith
lowest_bit ρ (x ∷ y ∷ ys) h = absurd (omega arith)

mark_set : (S : State) (v : ℕ) (b p : Bool) → bit b ≡ get_or S v 0 → set S v (bit (b || p)) ≡ cond p (set S v 1) S
mark_set S v true true e = refl
mark_set S v false true e = refl
mark_set S v true false e = ap (set S v) e ∙ set-get_or S v 0
mark_set S v false false e = ap (set S v) e ∙ set-get_or S v 0

module _ (ws : List ℕ) (l : Layout) (has : HasMark ws l) where
  mark_fits : (n : ℕ) (s : Slots) (x : Literal) → Fits ws n s → LiteralBelow n x → Fits ws n (with_mark l x s)
  mark_fits n s x f b = set_fits ws l n s l.mark (x ∷ []) f (record { below = (b, tt); wide = sym has.width })

  mark_state : (n : ℕ) (s : Slots) (x : Literal) (p : Bool) (ρ : Assignment) → Fits ws n s → literal_true ρ x ≡ literal_true ρ (mark_at l s) || p
      → state_of ρ (with_mark l x s) ≡ marked_if p l (state_of ρ s)
  mark_state n s x p ρ f e =
      map_set (number ρ) s l.mark (x ∷ []) ∙ ap (set (state_of ρ s) l.mark) (bit_alone (literal_true ρ x) ∙ ap bit e)
      ∙ mark_set (state_of ρ s) l.mark (literal_true ρ (mark_at l s)) p
      (lowest_bit ρ (get_or s l.mark []) (width_at_lem ws n s l.mark f ∙ has.width) ∙ sym (value_at_lem ρ s l.mark))

  mutual
    unfolding statement! execute

    pub statement_correct : (x : Stmt) (s : Slots) (n : ℕ) → Fits ws n s → StmtOk ws l x
        → Correct n (statement! x l s n) (Fits ws) (λ ρ r. state_of ρ r ≡ execute x l (state_of ρ s))
    statement_correct (assign v e) s n f k =
        correct_bind _ _ (int_correct ws l s true e (mark_at l s) n f (boolean_below l.mark f) k.1) λ x n₁ l₁ bx.
        correct_give _ (set_fits ws l n₁ (with_mark l x.mark s) v x.result (mark_fits n₁ s x.mark (fits_up l₁ f) bx.mark)
        (record { below = bx.result.below; wide = bx.result.wide ∙ sym k.0.width })) λ ρ one ex.
        map_set (number ρ) (with_mark l x.mark s) v x.result
        ∙ ap₂ (λ t y. set t v y) (mark_state n s x.mark (passes_int l (state_of ρ s) e) ρ f ex.mark) ex.result
    statement_correct (assign_b v e) s n f k =
        correct_bind _ _ (bool_correct ws l s true e (mark_at l s) n f (boolean_below l.mark f) k.1) λ x n₁ l₁ bx.
        correct_give _ (set_fits ws l n₁ (with_mark l x.mark s) v (x.result ∷ []) (mark_fits n₁ s x.mark (fits_up l₁ f) bx.mark)
        (record { below = (bx.result, tt); wide = sym k.0.width })) λ ρ one ex.
        map_set (number ρ) (with_mark l x.mark s) v (x.result ∷ [])
        ∙ ap₂ (λ t y. set t v y) (mark_state n s x.mark (passes_bool l (state_of ρ s) e) ρ f ex.mark) (bit_alone (literal_true ρ x.result) ∙ ap bit ex.result)
    statement_correct (if_else c a b) s n f k =
        correct_bind _ _ (bool_correct ws l s true c (mark_at l s) n f (boolean_below l.mark f) k.0) λ x n₁ l₁ bx.
        let s₁ = with_mark l x.mark s in
        let f₁ = mark_fits n₁ s x.mark (fits_up l₁ f) bx.mark in
        correct_bind _ _ (statements_correct a s₁ n₁ f₁ k.1) λ y n₂ l₂ fy.
        correct_bind _ _ (statements_correct b s₁ n₂ (fits_up l₂ f₁) k.2) λ z n₃ l₃ fz.
        correct_means (mux_fits ws l x.result y z n₃ (omega (arith, bx.result)) (fits_up l₃ fy) fz) λ ρ r one e ez ey ex.
        let m = mark_state n s x.mark (passes_bool l (state_of ρ s) c) ρ f ex.mark in
        rw (ex.result, ey ∙ ap (execute_all a l) m, ez ∙ ap (execute_all b l) m) at e

    pub statements_correct : (xs : Stmts) (s : Slots) (n : ℕ) → Fits ws n s → StmtsOk ws l xs
        → Correct n (statements! xs l s n) (Fits ws) (λ ρ r. state_of ρ r ≡ execute_all xs l (state_of ρ s))
    statements_correct done s n f k = correct_give _ f λ ρ one. refl
    statements_correct (then x xs) s n f k =
        correct_bind _ _ (statement_correct x s n f k.0) λ s' n₁ l₁ f₁.
        correct_means (statements_correct xs s' n₁ f₁ k.1) λ ρ r one e ex. e ∙ ap (λ y. execute_all xs l y) ex

  module _ (s : Slots) where
    effect_correct : (m : Mover) (n : ℕ) → Fits ws n s → MoverOk ws l m
        → Correct n (effect! l s m n) (Fits ws) (λ ρ r. state_of ρ r ≡ effect l (state_of ρ s) m)
    unfolding effect! effect
    effect_correct (cell c) n f k =
        correct_bind _ _ (statements_correct c.action s n f k.action) λ a n₁ l₁ fa.
        let t = constant_word n₁ status_width c.target fa.known in
        let v = status_slot l c.matrix in
        correct_give _ (set_fits ws l n₁ a v (constant_bits status_width c.target) fa (record { below = t.below; wide = t.wide ∙ sym k.matrix.width })) λ ρ one ea.
        map_set (number ρ) a v (constant_bits status_width c.target)
        ∙ ap₂ (λ x y. set x v y) ea (number_constant ρ one status_width c.target k.target)
    effect_correct (raise v) n f k =
        correct_give _ (set_fits ws l n s v (true_literal ∷ []) f (record { below = (omega (arith, f.known), tt); wide = sym k.width })) λ ρ one.
        map_set (number ρ) s v (true_literal ∷ []) ∙ rw one

    mover_correct : (m : Mover) (n : ℕ) → Fits ws n s → MoverOk ws l m
        → Correct n (mover! l s m n) (Fits ws) (λ ρ r. state_of ρ r ≡ move l (state_of ρ s) m)
    unfolding mover! move
    mover_correct m n f k =
        correct_bind _ _ (enable_correct ws l s m n f k) λ e n₁ l₁ be.
        correct_bind _ _ (effect_correct m n₁ (fits_up l₁ f) k) λ a n₂ l₂ fa.
        correct_means (mux_fits ws l e a s n₂ (omega arith) fa (fits_up (omega arith) f)) λ ρ r one er ea ee. rw (ee, ea) at er

    movers_correct : (ms : List Mover) (n : ℕ) → Fits ws n s → MoversOk ws l ms
        → Correct n (movers! l s ms n) (λ k rs. AllFit ws k rs × (length rs ≡ length ms)) (λ ρ rs. map (state_of ρ) rs ≡ map (move l (state_of ρ s)) ms)
    unfolding movers!
    movers_correct [] n f k = correct_give _ (tt, refl) λ ρ one. refl
    movers_correct (m ∷ ms) n f k =
        correct_bind _ _ (mover_correct m n f k.0) λ r n₁ l₁ fr.
        correct_bind _ _ (movers_correct ms n₁ (fits_up l₁ f) k.1) λ rs n₂ l₂ frs.
        correct_give _ ((fits_up l₂ fr, frs.0), ap suc frs.1) λ ρ one es er. ap₂ ◌∷◌ er es

-- what a property says of a step from one state to another: only property 2 says anything
abbrev pub step_true : Design → Property → State → State → Bool
step_true d (invariant e) s next = true
step_true d no_invalid_cell s next = true
step_true d (constraint e) s next = true_at d (constraint e) (some s) next

-- "A property ends in an and with the mark's negation."
module _ (d : Design) (wf : WellFormed d) (s : Slots) (n : ℕ) (f : Fits (widths d) n s) where
  unmarked_correct : (test : Build Literal) (says : Assignment → Bool) → Correct n (test n) LiteralBelow (λ ρ x. literal_true ρ x ≡ says ρ)
      → Correct n (unmarked! d s test n) LiteralBelow (λ ρ x. literal_true ρ x ≡ says ρ && not (marked (layout d) (state_of ρ s)))
  unfolding unmarked!
  unmarked_correct test says c =
      let m = mark_at (layout d) s in
      correct_bind _ _ c λ x k l bx.
      correct_means (and_correct x (negate m) k bx (negate_below k m (boolean_below (layout d).mark (fits_up l f)))) λ ρ r one e ex.
      e ∙ ap₂ ◌&&◌ ex (negate_true ρ m ∙ ap not (boolean_value (widths d) n s (layout d).mark f wf.mark.width ρ))

module _ (d : Design) (wf : WellFormed d) (s : Slots) (n : ℕ) (f : Fits (widths d) n s) where
  pub property_correct : (p : Property) → PropertyOk d p → Correct n (property! d p s n) LiteralBelow (λ ρ r. literal_true ρ r ≡ holds d p (state_of ρ s))
  unfolding property! true_at PropertyOk
  property_correct (invariant e) ok = unmarked_correct d wf s n f _ _ (test_correct (widths d) (layout d) s e n f ok)
  property_correct no_invalid_cell ok =
      unmarked_correct d wf s n f _ _
      (correct_means (no_invalid_correct (widths d) (layout d) s d.invalid true_literal n f (omega (arith, f.known)) wf.invalid) λ ρ r one e.
      e ∙ ap (λ b. b && no_invalid (layout d) (state_of ρ s) d.invalid) one)
  property_correct (constraint e) ok = correct_give _ (omega (arith, f.known)) λ ρ one. one

  pub step_property_correct : (p : Property) → PropertyOk d p → (r : Slots) → Fits (widths d) n r
      → Correct n (step_property! d p s r n) LiteralBelow (λ ρ x. literal_true ρ x ≡ step_true d p (state_of ρ s) (state_of ρ r))
  unfolding step_property! true_at PropertyOk
  step_property_correct (invariant e) ok r g = correct_give _ (omega (arith, f.known)) λ ρ one. one
  step_property_correct no_invalid_cell ok r g = correct_give _ (omega (arith, f.known)) λ ρ one. one
  step_property_correct (constraint e) ok r g =
      unmarked_correct d wf r n g _ _
      (correct_means (test_correct (widths d ++ widths d) (layout d) (s ++ r) e n (fits_append f g) ok) λ ρ x one h.
      h ∙ ap (λ t. eval_bool (layout d) t e) (map-append (number ρ) s r))

  pub step_correct : Correct n (step! d s n) (λ k rs. AllFit (widths d) k rs × (length rs ≡ length (movers d)))
      (λ ρ rs. map (state_of ρ) rs ≡ map (move (layout d) (state_of ρ s)) (movers d))
  unfolding step!
  step_correct = movers_correct (widths d) (layout d) wf.mark s (movers d) n f wf.movers
