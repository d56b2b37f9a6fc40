use Rattle.std.proofs.Common.{◌≡◌, ℕ, ◌*◌, false, get_or, sym, ap, ◌∙◌, arith}
use Rattle.design.specs.Limits.{max_depth}
use Rattle.step.proofs.Runs.{assign_inside, assign_int, assign_bool}
use Rattle.clauses.proofs.ActionCounts.{assigned_int, assigned_bool}
use Rattle.clauses.proofs.cost.size_assign.Goals as goal

pub bounds-file-at : goal.bounds-file-at
bounds-file-at c = omega (arith, (assign_inside _ _ _ _ c.requires.readable).0)

pub bounds-file-v : goal.bounds-file-v
bounds-file-v c = omega (arith, c.wide-v.ensures.0, (assign_inside _ _ _ _ c.requires.readable).1)

pub overflow_add-at : goal.overflow_add-at
overflow_add-at c = omega (arith, (assign_inside _ _ _ _ c.requires.readable).0)

pub size_int-requires : goal.size_int-requires
size_int-requires c =
    let kind = sym (ap (λ (v : ℕ). get_or c.args.file.now (3 * v) 0) c.wide-v.ensures.0) ∙ c.if-k.true in
    ((c.args.file.now, max_depth, false, assign_int _ _ _ _ c.requires.readable kind), omega arith, omega arith)

pub overflow_add-at-else-k : goal.overflow_add-at-else-k
overflow_add-at-else-k c = omega (arith, (assign_inside _ _ _ _ c.requires.readable).0)

pub size_bool-requires : goal.size_bool-requires
size_bool-requires c =
    let kind : get_or c.args.file.now (3 * get_or c.args.file.now c.args.at 0) 0 ≡ 1 → ⊥ =
    λ e. c.if-k.false (ap (λ (v : ℕ). get_or c.args.file.now (3 * v) 0) c.wide-v.ensures.0 ∙ e) in
    ((c.args.file.now, max_depth, false, assign_bool _ _ _ _ c.requires.readable kind), omega arith, omega arith)

pub returns-then-k : goal.returns-then-k
returns-then-k c =
    let kind = sym (ap (λ (v : ℕ). get_or c.args.file.now (3 * v) 0) c.wide-v.ensures.0) ∙ c.if-k.true in
    λ bits. assigned_int _ _ _ _ c.requires.readable _ bits kind (c.size_int.ensures c.args.file.now max_depth false (assign_int _ _ _ _ c.requires.readable kind))

pub returns-else-k : goal.returns-else-k
returns-else-k c =
    let kind : get_or c.args.file.now (3 * get_or c.args.file.now c.args.at 0) 0 ≡ 1 → ⊥ =
    λ e. c.if-k.false (ap (λ (v : ℕ). get_or c.args.file.now (3 * v) 0) c.wide-v.ensures.0 ∙ e) in
    λ bits. assigned_bool _ _ _ _ c.requires.readable _ bits kind (c.size_bool.ensures c.args.file.now max_depth false (assign_bool _ _ _ _ c.requires.readable kind))
