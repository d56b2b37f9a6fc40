use Rattle.std.proofs.Common.{◌≡◌, ℕ, ◌*◌, false, get_or, sym, ap, ◌∙◌, arith}
use Rattle.design.specs.Limits.{max_depth}
use Rattle.step.proofs.Counts.{bit_from}
use Rattle.step.proofs.Runs.{assign_inside, assign_int, runs_int, assign_bool, runs_bool}
use Rattle.step.proofs.execute.run_assign.Goals as goal

pub bounds-source-at : goal.bounds-source-at
bounds-source-at c = omega (arith, (assign_inside _ _ _ _ c.requires.0).0)

pub bounds-source-v : goal.bounds-source-v
bounds-source-v c =
    omega (arith, c.wide-v.ensures.0, (assign_inside _ _ _ _ c.requires.0).1)

pub overflow_add-at : goal.overflow_add-at
overflow_add-at c = omega (arith, (assign_inside _ _ _ _ c.requires.0).0)

pub eval_int-x-requires : goal.eval_int-x-requires
eval_int-x-requires c =
    ((
      (
        c.args.source.now.file.now,
        max_depth,
        false,
        omega arith,
        assign_int _ _ _ _ c.requires.0 (sym (ap (λ (v : ℕ). get_or c.args.source.now.file.now (3 * v) 0) c.wide-v.ensures.0) ∙ c.if-k.true),
      ),
      omega arith,
    ))

pub bounds-slots-v : goal.bounds-slots-v
bounds-slots-v c =
    omega (arith, c.wide-v.ensures.0, (assign_inside _ _ _ _ c.requires.0).1)

pub overflow_add-at-else-k : goal.overflow_add-at-else-k
overflow_add-at-else-k c = omega (arith, (assign_inside _ _ _ _ c.requires.0).0)

pub eval_bool-x-requires : goal.eval_bool-x-requires
eval_bool-x-requires c =
    ((
      (
        c.args.source.now.file.now,
        max_depth,
        false,
        omega arith,
        assign_bool _ _ _ _ c.requires.0 (λ e. c.if-k.false (ap (λ (v : ℕ). get_or c.args.source.now.file.now (3 * v) 0) c.wide-v.ensures.0 ∙ e)),
      ),
      omega arith,
    ))

pub bounds-slots-v-else-k : goal.bounds-slots-v-else-k
bounds-slots-v-else-k c =
    omega (arith, c.wide-v.ensures.0, (assign_inside _ _ _ _ c.requires.0).1)

pub returns-then-k : goal.returns-then-k
returns-then-k c =
    let kind = sym (ap (λ (v : ℕ). get_or c.args.source.now.file.now (3 * v) 0) c.wide-v.ensures.0) ∙ c.if-k.true in
    let value = c.eval_int-x.ensures c.args.source.now.file.now max_depth false (assign_int _ _ _ _ c.requires.0 kind) in
    runs_int _ _ _ _ c.requires.0 kind _ _ _ _ _ _ _ c.wide-v.ensures.0 value.0 value.1 value.2 c.mark_if.ensures

pub returns-else-k : goal.returns-else-k
returns-else-k c =
    let kind : get_or c.args.source.now.file.now (3 * get_or c.args.source.now.text.now c.args.at 0) 0 ≡ 1 → ⊥ = λ e. c.if-k.false (ap (λ (v :
    ℕ). get_or c.args.source.now.file.now (3 * v) 0) c.wide-v.ensures.0 ∙ e) in
    let value = c.eval_bool-x.ensures c.args.source.now.file.now max_depth false (assign_bool _ _ _ _ c.requires.0 kind) in
    runs_bool _ _ _ _ c.requires.0 kind _ _ _ _ _ _ _ _ c.wide-v.ensures.0 value.0 (c.from.ensures ∙ bit_from _) value.1 value.2 c.mark_if-else-k.ensures
