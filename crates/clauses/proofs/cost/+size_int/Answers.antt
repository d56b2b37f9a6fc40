use Rattle.std.proofs.Common.{◌-◌, true, false, ◌∙◌, inl, inr, arith}
use Rattle.step.proofs.Values.{int_live, int_unknown, int_first}
use Rattle.clauses.proofs.TextGates.{int_few}
use Rattle.clauses.proofs.GateCounts.{int_next, int_then, int_number, int_name, int_joined, product_inside, product_operand, product_joined}
use Rattle.clauses.proofs.cost.+size_int.Goals as goal
use Rattle.clauses.proofs.cost.+size_int.Goals.{in_default-via-then-op-lt1, in_default-via-else-op-lt1+else-op-lt4+else-op-lt6+else-op-lt8}

pub bounds-text-at : goal.bounds-text-at
bounds-text-at t c = omega (arith, (int_live _ _ _ _ _ c.requires.0.3).inside)

pub overflow_add-at : goal.overflow_add-at
overflow_add-at t c = omega (arith, (int_number _ _ _ _ _ c.requires.0.3 c.in-1.is).0)

pub overflow_add-at-in-8 : goal.overflow_add-at-in-8
overflow_add-at-in-8 t c = omega (arith, product_inside _ _ _ _ _ c.requires.0.3 c.in-8.is)

pub size_int-a-requires : goal.size_int-a-requires
size_int-a-requires t c =
    let (file, depth, later, h) = c.requires.0 in
    let e = c.in-8.is in
    (omega (arith, c.requires.0, product_inside _ _ _ _ _ h e), ((file, depth - 1, later, product_operand _ _ _ _ _ h e), c.requires.1, c.requires.2))

pub size_product-requires : goal.size_product-requires
size_product-requires t c =
    let (file, depth, later, h) = c.requires.0 in
    let few = int_few _ _ _ c.requires.2 _ _ _ _ (c.size_int-a.ensures file (depth - 1) later (product_operand _ _ _ _ _ h c.in-8.is)) in
    record { ands = few.ands; wides = few.wides }

pub overflow_add-at-in-2-to-3 : goal.overflow_add-at-in-2-to-3
overflow_add-at-in-2-to-3 t c = omega (arith, (int_name _ _ _ _ _ c.requires.0.3 false (omega arith) (omega arith)).0)

pub overflow_add-at-in-4-to-5 : goal.overflow_add-at-in-4-to-5
overflow_add-at-in-4-to-5 t c = omega (arith, (int_live _ _ _ _ _ c.requires.0.3).inside)

pub size_int-a-requires-in-4-to-5 : goal.size_int-a-requires-in-4-to-5
size_int-a-requires-in-4-to-5 t c =
    let (file, depth, later, h) = c.requires.0 in
    (omega (arith, (int_live _ _ _ _ _ h).inside), ((file, depth - 1, later, int_first _ _ _ _ _ h (omega arith) (omega arith)), omega arith, omega arith))

pub size_int-b-requires : goal.size_int-b-requires
size_int-b-requires t c =
    let (file, depth, later, h) = c.requires.0 in
    let first = int_first _ _ _ _ _ h (omega arith) (omega arith) in
    let a = c.size_int-a-in-4-to-5.ensures file (depth - 1) later first in (
      omega (arith, (int_live _ _ _ _ _ h).inside, int_next _ _ _ _ _ first _ _ a),
      (
        (file, depth - 1, later, int_then _ _ _ _ _ h _ (omega arith) (omega arith) _ a),
        omega arith,
        omega arith,
      ),
    )

pub size_sum-requires : goal.size_sum-requires
size_sum-requires t c =
    let (file, depth, later, h) = c.requires.0 in
    let a = c.size_int-a-in-4-to-5.ensures file (depth - 1) later (int_first _ _ _ _ _ h (omega arith) (omega arith)) in
    let b = c.size_int-b.ensures file (depth - 1) later (int_then _ _ _ _ _ h _ (omega arith) (omega arith) _ a) in
    let f = int_few _ _ _ c.requires.2 _ _ _ _ a in
    let g = int_few _ _ _ c.requires.2 _ _ _ _ b in
    (record { ands = f.ands; wides = f.wides }, record { ands = g.ands; wides = g.wides })

pub overflow_add-at-in-6-to-7 : goal.overflow_add-at-in-6-to-7
overflow_add-at-in-6-to-7 t c =
    omega (arith, (int_name _ _ _ _ _ c.requires.0.3 true (omega arith) (omega arith)).0)

pub returns-in-1 : goal.returns-in-1
returns-in-1 t c = λ file depth later h. c.no_gates.ensures ∙ (int_number _ _ _ _ _ h c.in-1.is).1 _

pub returns-in-8 : goal.returns-in-8
returns-in-8 t c =
    let e = c.in-8.is in
    λ file depth later h. c.size_product.ensures ∙ product_joined _ _ _ _ _ h e _ _ (c.size_int-a.ensures file (depth - 1) later (product_operand _ _ _ _ _ h e))

pub returns-in-2-to-3 : goal.returns-in-2-to-3
returns-in-2-to-3 t c = λ file depth later h. c.no_gates-in-2-to-3.ensures ∙ (int_name _ _ _ _ _ h false (omega arith) (omega arith)).1 _

pub returns-in-4-to-5 : goal.returns-in-4-to-5
returns-in-4-to-5 t c =
    λ file depth later h. let a = c.size_int-a-in-4-to-5.ensures file (depth - 1) later (int_first _ _ _ _ _ h (omega arith) (omega arith)) in let
    b = c.size_int-b.ensures file (depth - 1) later (int_then _ _ _ _ _ h _ (omega arith) (omega arith) _ a) in c.size_sum.ensures ∙ int_joined _ _ _
    _ _ h _ (omega arith) (omega
    arith) _ _ a b

pub returns-in-6-to-7 : goal.returns-in-6-to-7
returns-in-6-to-7 t c = λ file depth later h. c.no_gates-in-6-to-7.ensures ∙ (int_name _ _ _ _ _ h true (omega arith) (omega arith)).1 _

pub returns-in_default : goal.returns-in_default
returns-in_default t c =
    absurd (elim c.in_default.branch [
      | in_default-via-then-op-lt1 w ↦ int_unknown _ _ _ _ _ c.requires.0.3 (inl (omega arith))
      | in_default-via-else-op-lt1+else-op-lt4+else-op-lt6+else-op-lt8 w ↦ int_unknown _ _ _ _ _ c.requires.0.3 (inr (omega arith))
    ])
