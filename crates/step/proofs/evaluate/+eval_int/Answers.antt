use Rattle.std.proofs.Common.{ℕ, ◌+◌, ◌-◌, true, false, get_or, sym, ap, ◌∙◌, inl, inr, arith}
use Rattle.step.specs.Evaluation.{eval_int, passes_int}
use Rattle.step.specs.Accepted.{past, int_value, int_passes}
use Rattle.step.proofs.Values.{int_live, int_forward, int_constant, int_variable, int_status, int_unknown, integer_slot, status_slot_lem, int_first, int_second, int_pair, i_product, product_first, product_value}
use Rattle.design.specs.State.{layout_of}
use Rattle.step.proofs.evaluate.+eval_int.Goals as goal
use Rattle.step.proofs.evaluate.+eval_int.Goals.{in_default-via-then-op-lt1, in_default-via-else-op-lt1+else-op-lt6}

pub bounds-text-at : goal.bounds-text-at
bounds-text-at t c = omega (arith, (int_live _ _ _ _ _ c.requires.0.4).inside)

pub overflow_add-p : goal.overflow_add-p
overflow_add-p t c = omega (arith, (int_live _ _ _ _ _ c.requires.0.4).inside)

pub word-requires : goal.word-requires
word-requires t c = omega (arith, (int_constant _ _ _ _ _ c.requires.0.4 c.in-1.is).0)

pub bounds-text-p : goal.bounds-text-p
bounds-text-p t c =
    omega (arith, (int_variable _ _ _ _ _ c.requires.0.4 false c.in-2.is).0)

pub bounds-slots-v : goal.bounds-slots-v
bounds-slots-v t c =
    omega (
      arith,
      c.wide-v.ensures.0,
      integer_slot c.args.text.now c.args.shape _ _ _ c.requires.0 false
          c.in-2.is,
    )

pub bounds-text-p-in-3 : goal.bounds-text-p-in-3
bounds-text-p-in-3 t c =
    omega (arith, (int_status _ _ _ _ _ c.requires.0.4 false c.in-3.is).0)

pub bounds-slots-shape : goal.bounds-slots-shape
bounds-slots-shape t c =
    omega (
      arith,
      c.wide-m.ensures.0,
      status_slot_lem c.args.text.now c.args.shape _ _ _ c.requires.0 false
          c.in-3.is,
    )

pub bounds-text-p-in-6 : goal.bounds-text-p-in-6
bounds-text-p-in-6 t c =
    omega (arith, (int_variable _ _ _ _ _ c.requires.0.4 true c.in-6.is).0)

pub bounds-slots-shape-in-6 : goal.bounds-slots-shape-in-6
bounds-slots-shape-in-6 t c =
    omega (
      arith,
      c.wide-v-in-6.ensures.0,
      integer_slot c.args.text.now c.args.shape _ _ _ c.requires.0 true
          c.in-6.is,
    )

pub bounds-text-p-in-7 : goal.bounds-text-p-in-7
bounds-text-p-in-7 t c =
    omega (arith, (int_status _ _ _ _ _ c.requires.0.4 true c.in-7.is).0)

pub offset_bounds-slots-shape-in-7 : goal.offset_bounds-slots-shape-in-7
offset_bounds-slots-shape-in-7 t c =
    omega (
      arith,
      c.wide-m-in-7.ensures.0,
      status_slot_lem c.args.text.now c.args.shape _ _ _ c.requires.0 true
          c.in-7.is,
    )

pub bounds-slots-shape-in-7 : goal.bounds-slots-shape-in-7
bounds-slots-shape-in-7 t c =
    omega (
      arith,
      c.wide-m-in-7.ensures.0,
      status_slot_lem c.args.text.now c.args.shape _ _ _
          c.requires.0 true c.in-7.is,
    )

pub eval_int-a-requires : goal.eval_int-a-requires
eval_int-a-requires t c =
    let (file, depth, later, fits, h) = c.requires.0 in (
      omega (arith, (int_live _ _ _ _ _ h).inside),
      ((file, depth - 1, later, fits, product_first _ _ _ _ _ h c.in-8.is), omega arith),
    )

pub word-requires-in-8 : goal.word-requires-in-8
word-requires-in-8 t c =
    omega (arith, (i_product _ _ _ _ _ c.requires.0.4 c.in-8.is).0)

pub eval_int-a-requires-in-4-to-5 : goal.eval_int-a-requires-in-4-to-5
eval_int-a-requires-in-4-to-5 t c = (
  omega (arith, (int_live _ _ _ _ _ c.requires.0.4).inside),
  (
    (
      c.requires.0.0,
      c.requires.0.1 - 1,
      c.requires.0.2,
      c.requires.0.3,
      int_first _ _ _ _ _ c.requires.0.4
          (omega arith) c.in-4-to-5.if-op-lt6-own.true,
    ),
    omega arith,
  ),
)

pub eval_int-b-requires : goal.eval_int-b-requires
eval_int-b-requires t c = let (file, depth, later, fits, h) = c.requires.0 in
    let first = int_first _ _ _ _ _ h (omega arith) c.in-4-to-5.if-op-lt6-own.true in
    let next = (c.eval_int-a-in-4-to-5.ensures file (depth - 1) later first).1 in (
      omega (arith, (int_live _ _ _ _ _ h).inside, int_forward _ _ _ _ _ _ first next),
      ((file, depth - 1, later, fits, int_second _ _ _ _ _ h (omega arith) c.in-4-to-5.if-op-lt6-own.true _ next), omega arith),
    )

pub returns-in-1 : goal.returns-in-1
unfolding eval_int passes_int
returns-in-1 t c = λ file depth later h.
    let k = int_constant _ _ _ _ _ h c.in-1.is in (
      c.plain.ensures.0 ∙ c.word.ensures.0 ∙ sym (ap (int_value (layout_of c.args.shape) c.args.slots.now) k.1),
      c.plain.ensures.1 ∙ sym (ap past k.1),
      c.plain.ensures.2 ∙ sym (ap (int_passes (layout_of c.args.shape) c.args.slots.now) k.1),
    )

pub returns-in-2 : goal.returns-in-2
unfolding eval_int passes_int
returns-in-2 t c =
    λ file depth later h.
    let k = int_variable _ _ _ _ _ h false c.in-2.is in (
      c.plain-in-2.ensures.0 ∙ ap (λ (v : ℕ). get_or c.args.slots.now (v) 0) c.wide-v.ensures.0 ∙ sym (ap (int_value (layout_of c.args.shape) c.args.slots.now)
          k.2),
      c.plain-in-2.ensures.1 ∙ sym (ap past k.2),
      c.plain-in-2.ensures.2 ∙ sym (ap (int_passes (layout_of c.args.shape) c.args.slots.now) k.2),
    )

pub returns-in-3 : goal.returns-in-3
unfolding eval_int passes_int
returns-in-3 t c =
    λ file depth later h.
    let k = int_status _ _ _ _ _ h false c.in-3.is in (
      c.plain-in-3.ensures.0 ∙ ap (λ (v : ℕ). get_or c.args.slots.now (c.args.shape.variables + v) 0)
          c.wide-m.ensures.0 ∙ sym (ap (int_value (layout_of c.args.shape) c.args.slots.now) k.2),
      c.plain-in-3.ensures.1 ∙ sym (ap past k.2),
      c.plain-in-3.ensures.2 ∙ sym (ap (int_passes (layout_of c.args.shape) c.args.slots.now) k.2),
    )

pub returns-in-6 : goal.returns-in-6
unfolding eval_int passes_int
returns-in-6 t c =
    λ file depth later h.
    let k = int_variable _ _ _ _ _ h true c.in-6.is in (
      c.plain-in-6.ensures.0 ∙ ap (λ (v : ℕ). get_or c.args.slots.now (c.args.shape.variables + c.args.shape.matrices + 1 + v) 0)
          c.wide-v-in-6.ensures.0 ∙ sym (ap (int_value (layout_of c.args.shape) c.args.slots.now) k.2),
      c.plain-in-6.ensures.1 ∙ sym (ap past k.2),
      c.plain-in-6.ensures.2 ∙ sym (ap (int_passes (layout_of c.args.shape) c.args.slots.now) k.2),
    )

pub returns-in-7 : goal.returns-in-7
unfolding eval_int passes_int
returns-in-7 t c =
    λ file depth later h.
    let k = int_status _ _ _ _ _ h true c.in-7.is in (
      c.plain-in-7.ensures.0 ∙ ap (λ (v : ℕ). get_or c.args.slots.now (c.args.shape.variables +
          (c.args.shape.variables + c.args.shape.matrices + 1 + v)) 0) c.wide-m-in-7.ensures.0 ∙ sym (ap
          (int_value (layout_of c.args.shape) c.args.slots.now) k.2),
      c.plain-in-7.ensures.1 ∙ sym (ap past k.2),
      c.plain-in-7.ensures.2 ∙ sym (ap (int_passes (layout_of c.args.shape) c.args.slots.now) k.2),
    )

pub returns-in-8 : goal.returns-in-8
returns-in-8 t c = λ file depth later h.
    let e = c.in-8.is in
    let a = c.eval_int-a.ensures file (depth - 1) later (product_first _ _ _ _ _ h e) in
    let k = product_value _ _ _ _ _ h e _ _ _ _ _ _ c.word-in-8.ensures.0 a.0 a.1 a.2 in (
      c.multiplied.ensures.0 ∙ k.0,
      c.multiplied.ensures.1 ∙ k.1,
      c.multiplied.ensures.2 ∙ k.2,
    )

pub returns-in-4-to-5 : goal.returns-in-4-to-5
returns-in-4-to-5 t c = λ file depth later h.
    let taken = c.in-4-to-5.if-op-lt6-own.true in
    let a = c.eval_int-a-in-4-to-5.ensures file (depth - 1) later (int_first _ _ _ _ _ h (omega arith) taken) in
    let b = c.eval_int-b.ensures file (depth - 1) later (int_second _ _ _ _ _ h (omega arith) taken _ a.1) in
    let k = int_pair _ _ _ _ _ h (omega arith) taken _ _ _ _ _ _ _ _ a.0 a.1 a.2 b.0 b.1 b.2 in (
      c.arithmetic.ensures.0 ∙ k.0,
      c.arithmetic.ensures.1 ∙ k.1,
      c.arithmetic.ensures.2 ∙ k.2,
    )

pub returns-in_default : goal.returns-in_default
returns-in_default t c =
    absurd (elim c.in_default.branch [
      | in_default-via-then-op-lt1 w ↦ int_unknown _ _ _ _ _ c.requires.0.4 (inl (omega arith))
      | in_default-via-else-op-lt1+else-op-lt6 w ↦ int_unknown _ _ _ _ _ c.requires.0.4 (inr (omega arith))
    ])
