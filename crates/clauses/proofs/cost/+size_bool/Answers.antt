use Rattle.std.proofs.Common.{◌-◌, true, ◌∙◌, inl, inr, arith}
use Rattle.step.proofs.Values.{bool_live, bool_unknown, not_first, logic_first, compare_first}
use Rattle.clauses.proofs.TextGates.{int_few, bool_few}
use Rattle.clauses.proofs.GateCounts.{bool_next, bool_slot, bool_name, bool_negated, bool_then, bool_joined, compare_then, equal_joined, less_joined}
use Rattle.clauses.proofs.cost.+size_bool.Goals as goal
use Rattle.clauses.proofs.cost.+size_bool.Goals.{in_default-via-then-op-lt16, in_default-via-else-op-lt16+else-op-lt18+else-op-lt21+else-op-lt23}

pub bounds-text-at : goal.bounds-text-at
bounds-text-at t c = omega (arith, (bool_live _ _ _ _ _ c.requires.0.3).inside)

pub overflow_add-at : goal.overflow_add-at
overflow_add-at t c = omega (arith, (bool_live _ _ _ _ _ c.requires.0.3).inside)

pub size_bool-requires : goal.size_bool-requires
size_bool-requires t c =
    let (file, depth, later, h) = c.requires.0 in
    (omega (arith, (bool_live _ _ _ _ _ h).inside), ((file, depth - 1, later, not_first _ _ _ _ _ h c.in-18.is), omega arith, omega arith))

pub overflow_add-at-in-23 : goal.overflow_add-at-in-23
overflow_add-at-in-23 t c = omega (arith, (bool_slot _ _ _ _ _ c.requires.0.3 true c.in-23.is).0)

pub overflow_add-at-in-16-to-17 : goal.overflow_add-at-in-16-to-17
overflow_add-at-in-16-to-17 t c = omega (arith, (bool_name _ _ _ _ _ c.requires.0.3 (omega arith) (omega arith)).0)

pub overflow_add-at-in-19-to-20 : goal.overflow_add-at-in-19-to-20
overflow_add-at-in-19-to-20 t c = omega (arith, (bool_live _ _ _ _ _ c.requires.0.3).inside)

pub size_bool-a-requires : goal.size_bool-a-requires
size_bool-a-requires t c =
    let (file, depth, later, h) = c.requires.0 in
    (omega (arith, (bool_live _ _ _ _ _ h).inside), ((file, depth - 1, later, logic_first _ _ _ _ _ h (omega arith) (omega arith)), omega arith, omega arith))

pub size_bool-b-requires : goal.size_bool-b-requires
size_bool-b-requires t c =
    let (file, depth, later, h) = c.requires.0 in
    let first = logic_first _ _ _ _ _ h (omega arith) (omega arith) in
    let a = c.size_bool-a.ensures file (depth - 1) later first in (
      omega (arith, (bool_live _ _ _ _ _ h).inside, bool_next _ _ _ _ _ first _ _ a),
      (
        (file, depth - 1, later, bool_then _ _ _ _ _ h _ (omega arith) (omega arith) _ a),
        omega
            arith,
        omega arith,
      ),
    )

pub join-requires : goal.join-requires
join-requires t c =
    let (file, depth, later, h) = c.requires.0 in
    let a = c.size_bool-a.ensures file (depth - 1) later (logic_first _ _ _ _ _ h (omega arith) (omega arith)) in
    let b = c.size_bool-b.ensures file (depth - 1) later (bool_then _ _ _ _ _ h _ (omega arith) (omega arith) _ a) in
    let f = bool_few _ _ _ c.requires.2 _ _ _ _ a in
    let g = bool_few _ _ _ c.requires.2 _ _ _ _ b in
    (omega (arith, f.ands, g.ands), omega (arith, f.wides, g.wides))

pub overflow_add-at-in-21-to-22 : goal.overflow_add-at-in-21-to-22
overflow_add-at-in-21-to-22 t c = omega (arith, (bool_live _ _ _ _ _ c.requires.0.3).inside)

pub size_int-a-requires : goal.size_int-a-requires
size_int-a-requires t c =
    let (file, depth, later, h) = c.requires.0 in
    ((file, depth - 1, later, compare_first _ _ _ _ _ h (omega arith) (omega arith)), omega arith, omega arith)

pub size_int-b-requires : goal.size_int-b-requires
size_int-b-requires t c =
    let (file, depth, later, h) = c.requires.0 in
    let a = c.size_int-a.ensures file (depth - 1) later (compare_first _ _ _ _ _ h (omega arith) (omega arith)) in
    ((file, depth - 1, later, compare_then _ _ _ _ _ h _ (omega arith) (omega arith) _ a), omega arith, omega arith)

pub join-requires-then-op-eq21 : goal.join-requires-then-op-eq21
join-requires-then-op-eq21 t c =
    let (file, depth, later, h) = c.requires.0 in
    let a = c.size_int-a.ensures file (depth - 1) later (compare_first _ _ _ _ _ h (omega arith) (omega arith)) in
    let b = c.size_int-b.ensures file (depth - 1) later (compare_then _ _ _ _ _ h _ (omega arith) (omega arith) _ a) in
    let f = int_few _ _ _ c.requires.2 _ _ _ _ a in
    let g = int_few _ _ _ c.requires.2 _ _ _ _ b in
    (omega (arith, f.ands, g.ands), omega (arith, f.wides, g.wides))

pub join-requires-else-op-eq21 : goal.join-requires-else-op-eq21
join-requires-else-op-eq21 t c =
    let (file, depth, later, h) = c.requires.0 in
    let a = c.size_int-a.ensures file (depth - 1) later (compare_first _ _ _ _ _ h (omega arith) (omega arith)) in
    let b = c.size_int-b.ensures file (depth - 1) later (compare_then _ _ _ _ _ h _ (omega arith) (omega arith) _ a) in
    let f = int_few _ _ _ c.requires.2 _ _ _ _ a in
    let g = int_few _ _ _ c.requires.2 _ _ _ _ b in
    (omega (arith, f.ands, g.ands), omega (arith, f.wides, g.wides))

pub returns-in-18 : goal.returns-in-18
returns-in-18 t c =
    λ file depth later h. bool_negated _ _ _ _ _ h _ c.in-18.is _ (c.size_bool.ensures file (depth - 1) later (not_first _ _ _ _ _ h c.in-18.is))

pub returns-in-23 : goal.returns-in-23
returns-in-23 t c = λ file depth later h. c.no_gates.ensures ∙ (bool_slot _ _ _ _ _ h true c.in-23.is).1 _

pub returns-in-16-to-17 : goal.returns-in-16-to-17
returns-in-16-to-17 t c = λ file depth later h. c.no_gates-in-16-to-17.ensures ∙ (bool_name _ _ _ _ _ h (omega arith) (omega arith)).1 _

pub returns-in-19-to-20 : goal.returns-in-19-to-20
returns-in-19-to-20 t c =
    λ file depth later h. let a = c.size_bool-a.ensures file (depth - 1) later (logic_first _ _ _ _ _ h (omega arith) (omega arith)) in let b =
    c.size_bool-b.ensures file (depth - 1) later (bool_then _ _ _ _ _ h _ (omega arith) (omega arith) _ a) in c.join.ensures ∙ bool_joined _ _ _ _ _
    h _ (omega arith) (omega
    arith) _ _ a b

pub returns-then-op-eq21 : goal.returns-then-op-eq21
returns-then-op-eq21 t c =
    λ file depth later h. let a = c.size_int-a.ensures file (depth - 1) later (compare_first _ _ _ _ _ h (omega arith) (omega arith)) in let b =
    c.size_int-b.ensures file (depth - 1) later (compare_then _ _ _ _ _ h _ (omega arith) (omega arith) _ a) in c.join-then-op-eq21.ensures ∙ equal_joined _ _ _ _ _ h _
    (omega arith) (omega arith) _ _ a b c.if-op-eq21.true

pub returns-else-op-eq21 : goal.returns-else-op-eq21
returns-else-op-eq21 t c =
    λ file depth later h. let a = c.size_int-a.ensures file (depth - 1) later (compare_first _ _ _ _ _ h (omega arith) (omega arith)) in let b =
    c.size_int-b.ensures file (depth - 1) later (compare_then _ _ _ _ _ h _ (omega arith) (omega arith) _ a) in c.join-else-op-eq21.ensures ∙ less_joined _ _ _ _ _ h _
    (omega arith) (omega arith) _ _ a b c.if-op-eq21.false

pub returns-in_default : goal.returns-in_default
returns-in_default t c =
    absurd (elim c.in_default.branch [
      | in_default-via-then-op-lt16 w ↦ bool_unknown _ _ _ _ _ c.requires.0.3 (inl (omega arith))
      | in_default-via-else-op-lt16+else-op-lt18+else-op-lt21+else-op-lt23 w ↦ bool_unknown _ _ _ _ _ c.requires.0.3 (inr (omega arith))
    ])
