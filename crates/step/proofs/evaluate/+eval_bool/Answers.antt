use Rattle.std.proofs.Common.{ℕ, ◌+◌, ◌-◌, true, false, ltb, get_or, sym, ap, ◌∙◌, inl, inr, arith}
use Rattle.step.specs.Evaluation.{eval_bool, passes_bool}
use Rattle.step.specs.Accepted.{past, bool_value, bool_passes}
use Rattle.step.proofs.Values.{truth_test, bool_live, bool_forward, bool_constant, bool_variable, bool_unknown, boolean_slot, not_first, not_value, logic_first, logic_second, logic_pair, compare_first, compare_second, compare_pair}
use Rattle.step.proofs.evaluate.+eval_bool.Goals as goal
use Rattle.step.proofs.evaluate.+eval_bool.Goals.{in_default-via-then-op-lt16, in_default-via-else-op-lt16+else-op-lt21+else-op-lt23}

pub bounds-text-at : goal.bounds-text-at
bounds-text-at t c = omega (arith, (bool_live _ _ _ _ _ c.requires.0.4).inside)

pub overflow_add-p : goal.overflow_add-p
overflow_add-p t c = omega (arith, (bool_live _ _ _ _ _ c.requires.0.4).inside)

pub bounds-text-p : goal.bounds-text-p
bounds-text-p t c =
    omega (arith, (bool_constant _ _ _ _ _ c.requires.0.4 c.in-16.is).0)

pub bounds-text-p-in-17 : goal.bounds-text-p-in-17
bounds-text-p-in-17 t c =
    omega (arith, (bool_variable _ _ _ _ _ c.requires.0.4 false c.in-17.is).0)

pub bounds-slots-v : goal.bounds-slots-v
bounds-slots-v t c =
    omega (
      arith,
      c.wide-v.ensures.0,
      boolean_slot c.args.text.now c.args.shape _ _ _ c.requires.0 false
          c.in-17.is,
    )

pub eval_bool-a-requires : goal.eval_bool-a-requires
eval_bool-a-requires t c = let (file, depth, later, fits, h) = c.requires.0 in
    (omega (arith, (bool_live _ _ _ _ _ h).inside), ((file, depth - 1, later, fits, not_first _ _ _ _ _ h c.in-18.is), omega arith))

pub bounds-text-p-in-23 : goal.bounds-text-p-in-23
bounds-text-p-in-23 t c =
    omega (arith, (bool_variable _ _ _ _ _ c.requires.0.4 true c.in-23.is).0)

pub bounds-slots-shape : goal.bounds-slots-shape
bounds-slots-shape t c =
    omega (
      arith,
      c.wide-v-in-23.ensures.0,
      boolean_slot c.args.text.now c.args.shape _ _ _ c.requires.0 true
          c.in-23.is,
    )

pub eval_bool-a-requires-in-19-to-20 : goal.eval_bool-a-requires-in-19-to-20
eval_bool-a-requires-in-19-to-20 t c =
    let (file, depth, later, fits, h) = c.requires.0 in (
      omega (arith, (bool_live _ _ _ _ _ h).inside),
      (
        (
          file,
          depth - 1,
          later,
          fits,
          logic_first _ _ _ _ _ h (omega arith)
              c.in-19-to-20.if-op-lt21-own.true,
        ),
        omega arith,
      ),
    )

pub eval_bool-b-requires : goal.eval_bool-b-requires
eval_bool-b-requires t c = let (file, depth, later, fits, h) = c.requires.0 in
    let first = logic_first _ _ _ _ _ h (omega arith) c.in-19-to-20.if-op-lt21-own.true in
    let next = (c.eval_bool-a-in-19-to-20.ensures file (depth - 1) later first).1 in (
      omega (arith, (bool_live _ _ _ _ _ h).inside, bool_forward _ _ _ _ _ _ first next),
      ((file, depth - 1, later, fits, logic_second _ _ _ _ _ h (omega arith) c.in-19-to-20.if-op-lt21-own.true _ next), omega arith),
    )

pub eval_int-a-requires : goal.eval_int-a-requires
eval_int-a-requires t c = let (file, depth, later, fits, h) = c.requires.0 in
    ((file, depth - 1, later, fits, compare_first _ _ _ _ _ h (omega arith) c.in-21-to-22.if-op-lt23-own.true), omega arith)

pub eval_int-b-requires : goal.eval_int-b-requires
eval_int-b-requires t c =
    let (file, depth, later, fits, h) = c.requires.0 in
    let first = compare_first _ _ _ _ _ h (omega arith) c.in-21-to-22.if-op-lt23-own.true in
    let next = (c.eval_int-a.ensures file (depth - 1) later first).1 in
    ((file, depth - 1, later, fits, compare_second _ _ _ _ _ h (omega arith) c.in-21-to-22.if-op-lt23-own.true _ next), omega arith)

pub returns-in-16 : goal.returns-in-16
unfolding eval_bool passes_bool
returns-in-16 t c =
    λ file depth later h.
    let k = bool_constant _ _ _ _ _ h c.in-16.is in (
      c.plain.ensures.0 ∙ truth_test (get_or c.args.text.now (c.args.at + 1) 0) ∙ sym (ap (bool_value _ _) k.1),
      c.plain.ensures.1 ∙ sym (ap past k.1),
      c.plain.ensures.2 ∙ sym (ap (bool_passes _ _) k.1),
    )

pub returns-in-17 : goal.returns-in-17
unfolding eval_bool passes_bool
returns-in-17 t c =
    λ file depth later h.
    let k = bool_variable _ _ _ _ _ h false c.in-17.is in (
      c.plain-in-17.ensures.0 ∙ ap (λ (v : ℕ). ltb 0 (get_or c.args.slots.now v 0)) c.wide-v.ensures.0 ∙ truth_test (get_or
          c.args.slots.now (get_or c.args.text.now (c.args.at + 1) 0) 0) ∙ sym (ap (bool_value _ _) k.2),
      c.plain-in-17.ensures.1 ∙ sym (ap past k.2),
      c.plain-in-17.ensures.2 ∙ sym (ap (bool_passes _ _) k.2),
    )

pub returns-in-18 : goal.returns-in-18
returns-in-18 t c = λ file depth later h.
    let key = c.in-18.is in
    let a = c.eval_bool-a.ensures file (depth - 1) later (not_first _ _ _ _ _ h key) in
    let k = not_value _ _ _ _ _ h key _ _ _ _ _ a.0 a.1 a.2 in
    (c.negated.ensures.0 ∙ k.0, c.negated.ensures.1 ∙ k.1, c.negated.ensures.2 ∙ k.2)

pub returns-in-23 : goal.returns-in-23
unfolding eval_bool passes_bool
returns-in-23 t c =
    λ file depth later h.
    let k = bool_variable _ _ _ _ _ h true c.in-23.is in (
      c.plain-in-23.ensures.0 ∙ ap (λ (v : ℕ). ltb 0 (get_or c.args.slots.now
          (c.args.shape.variables + c.args.shape.matrices + 1 + v) 0)) c.wide-v-in-23.ensures.0
          ∙ truth_test (get_or c.args.slots.now (c.args.shape.variables + c.args.shape.matrices + 1 + get_or c.args.text.now
          (c.args.at + 1) 0) 0) ∙ sym (ap (bool_value _ _) k.2),
      c.plain-in-23.ensures.1 ∙ sym (ap past k.2),
      c.plain-in-23.ensures.2 ∙ sym (ap (bool_passes _ _) k.2),
    )

pub returns-in-19-to-20 : goal.returns-in-19-to-20
returns-in-19-to-20 t c = λ file depth later h.
    let taken = c.in-19-to-20.if-op-lt21-own.true in
    let a = c.eval_bool-a-in-19-to-20.ensures file (depth - 1) later (logic_first _ _ _ _ _ h (omega arith) taken) in
    let b = c.eval_bool-b.ensures file (depth - 1) later (logic_second _ _ _ _ _ h (omega arith) taken _ a.1) in
    let k = logic_pair _ _ _ _ _ h (omega arith) taken _ _ _ _ _ _ _ _ a.0 a.1 a.2 b.0 b.1 b.2 in
    (c.logic.ensures.0 ∙ k.0, c.logic.ensures.1 ∙ k.1, c.logic.ensures.2 ∙ k.2)

pub returns-in-21-to-22 : goal.returns-in-21-to-22
returns-in-21-to-22 t c = λ file depth later h.
    let taken = c.in-21-to-22.if-op-lt23-own.true in
    let a = c.eval_int-a.ensures file (depth - 1) later (compare_first _ _ _ _ _ h (omega arith) taken) in
    let b = c.eval_int-b.ensures file (depth - 1) later (compare_second _ _ _ _ _ h (omega arith) taken _ a.1) in
    let k = compare_pair _ _ _ _ _ h (omega arith) taken _ _ _ _ _ _ _ _ a.0 a.1 a.2 b.0 b.1 b.2 in
    (c.compare.ensures.0 ∙ k.0, c.compare.ensures.1 ∙ k.1, c.compare.ensures.2 ∙ k.2)

pub returns-in_default : goal.returns-in_default
returns-in_default t c =
    absurd (elim c.in_default.branch [
      | in_default-via-then-op-lt16 w ↦ bool_unknown _ _ _ _ _ c.requires.0.4 (inl (omega arith))
      | in_default-via-else-op-lt16+else-op-lt21+else-op-lt23 w ↦ bool_unknown _ _ _ _ _ c.requires.0.4 (inr (omega arith))
    ])
