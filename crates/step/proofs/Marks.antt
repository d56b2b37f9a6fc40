-- Once set, the mark remains set: no statement, target or external names its slot. Assumes that the design is well formed.
use Rattle.std.proofs.Common.{◌≡◌, ℕ, zero, suc, ◌<◌, Bool, true, false, cond, List, [], ◌∷◌, get_or, set, refl, ap, ◌∙◌, arith, get_or-set_other}
use lib.ListN.{get_elem?}
use Rattle.design.specs.Tree.{Stmt, Stmts, assign, assign_b, if_else, done, then, Design, Mover, cell, raise, movers, truth, bit}
use Rattle.design.specs.State.{State, layout, status_slot, widths}
use Rattle.design.specs.WellFormed.{StmtOk, StmtsOk, MoverOk, MoversOk, WellFormed}
use Rattle.step.specs.Evaluation.{eval_int, eval_bool, passes_int, passes_bool}
use Rattle.step.specs.OneStep.{marked, marked_if, execute, execute_all, enabled, effect, move, moved, step}

-- a slot that is set to 1
set_one : (s : State) (i : ℕ) → truth (get_or s i 0) ≡ true → truth (get_or (set s i 1) i 0) ≡ true
set_one [] i h = h
set_one (y ∷ s) zero h = refl
set_one (y ∷ s) (suc i) h = set_one s i h

module _ (d : Design) (wf : WellFormed d) where
  abbrev IsMarked : State → Type 0
  IsMarked s = marked (layout d) s ≡ true

  either : (t : Bool) (a b : State) → IsMarked a → IsMarked b → IsMarked (cond t a b)
  either true a b p q = p
  either false a b p q = q

  mark_kept : (t : Bool) (s : State) → IsMarked s → IsMarked (marked_if t (layout d) s)
  mark_kept t s h = either t (set s (layout d).mark 1) s (set_one s (layout d).mark h) h

  elsewhere : (s : State) (i x : ℕ) → i < (layout d).mark → IsMarked s → IsMarked (set s i x)
  elsewhere s i x l h = ap truth (get_or-set_other s i (layout d).mark x 0 (λ e. omega arith)) ∙ h

  mutual
    unfolding execute

    statement_stays : (x : Stmt) (s : State) → StmtOk (widths d) (layout d) x → IsMarked s → IsMarked (execute x (layout d) s)
    statement_stays (assign v e) s k h = elsewhere (marked_if (passes_int (layout d) s e) (layout d) s) v (eval_int (layout d) s e) (omega (arith, k.0.inside, wf.mark.behind)) (mark_kept (passes_int (layout d) s e) s h)
    statement_stays (assign_b v e) s k h = elsewhere (marked_if (passes_bool (layout d) s e) (layout d) s) v (bit (eval_bool (layout d) s e)) (omega (arith, k.0.inside, wf.mark.behind)) (mark_kept (passes_bool (layout d) s e) s h)
    statement_stays (if_else c a b) s k h =
        let z = marked_if (passes_bool (layout d) s c) (layout d) s in
        let m = mark_kept (passes_bool (layout d) s c) s h in
        either (eval_bool (layout d) s c) (execute_all a (layout d) z) (execute_all b (layout d) z) (statements_stay a z k.1 m) (statements_stay b z k.2 m)

    statements_stay : (xs : Stmts) (s : State) → StmtsOk (widths d) (layout d) xs → IsMarked s → IsMarked (execute_all xs (layout d) s)
    statements_stay done s k h = h
    statements_stay (then x xs) s k h = statements_stay xs (execute x (layout d) s) k.1 (statement_stays x s k.0 h)

  effect_stays : (m : Mover) (s : State) → MoverOk (widths d) (layout d) m → IsMarked s → IsMarked (effect (layout d) s m)
  unfolding effect
  effect_stays (cell c) s k h = elsewhere (execute_all c.action (layout d) s) (status_slot (layout d) c.matrix) c.target k.matrix.inside (statements_stay c.action s k.action h)
  effect_stays (raise v) s k h = elsewhere s v 1 (omega (arith, k.inside, wf.mark.behind)) h

  move_stays : (m : Mover) (s : State) → MoverOk (widths d) (layout d) m → IsMarked s → IsMarked (move (layout d) s m)
  unfolding move
  move_stays m s k h = either (enabled (layout d) s m) (effect (layout d) s m) s (effect_stays m s k h) h

  moved_stays : (ms : List Mover) (c : ℕ) (s : State) → MoversOk (widths d) (layout d) ms → IsMarked s → IsMarked (moved (layout d) s (get_elem? ms c))
  moved_stays [] c s k h = h
  moved_stays (m ∷ ms) zero s k h = move_stays m s k.0 h
  moved_stays (m ∷ ms) (suc c) s k h = moved_stays ms c s k.1 h

  pub mark_stays : (s : State) (c : ℕ) → IsMarked s → marked (layout d) (step d s c) ≡ true
  unfolding step
  mark_stays s c h = moved_stays (movers d) c s wf.movers h
