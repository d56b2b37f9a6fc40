use Rattle.std.proofs.Common.{ℕ, ◌+◌, ◌*◌, false, get_or, refl, ap, arith}
use Rattle.design.specs.Limits.{max_depth}
use Rattle.step.proofs.Cells.{sizes, event_reads, event_value}
use Rattle.design.proofs.Indexed.{event_slot, event_inside}
use Rattle.step.proofs.machine.Machine.event_true.Goals as goal

pub overflow_mul-at : goal.overflow_mul-at
overflow_mul-at c =
    omega (arith, event_slot _ _ _ c.args.self.indexed _ _ c.requires.1 c.requires.2)

pub overflow_add-at : goal.overflow_add-at
overflow_add-at c =
    omega (arith, event_slot _ _ _ c.args.self.indexed _ _ c.requires.1 c.requires.2)

pub offset_bounds-self-m : goal.offset_bounds-self-m
offset_bounds-self-m c =
    omega (arith, event_slot _ _ _ c.args.self.indexed _ _ c.requires.1 c.requires.2)

pub bounds-self-m : goal.bounds-self-m
bounds-self-m c =
    omega (arith, event_slot _ _ _ c.args.self.indexed _ _ c.requires.1 c.requires.2)

pub bounds-self-at : goal.bounds-self-at
bounds-self-at c =
    omega (arith, event_inside _ _ _ c.args.self.indexed _ _ c.requires.1 c.requires.2, sizes _ _ _ c.args.self.indexed)

pub eval_bool-x-requires : goal.eval_bool-x-requires
eval_bool-x-requires c =
    let past = ap (λ (x : ℕ). get_or c.args.self.events.now (16 * c.args.m + c.args.e) 0 + 1 + x) c.wide.ensures.0 in (
      (c.args.self.file.now, max_depth, false, omega (arith, c.requires.0), event_reads _ _ _ c.args.self.indexed _ _ c.requires.1 c.requires.2 _ _ past refl),
      omega (
        arith,
        c.wide.ensures.0,
        event_inside _ _ _ c.args.self.indexed _ _ c.requires.1 c.requires.2,
        sizes _ _ _ c.args.self.indexed,
      ),
    )

pub returns : goal.returns
returns c =
    let past = ap (λ (x : ℕ). get_or c.args.self.events.now (16 * c.args.m + c.args.e) 0 + 1 + x) c.wide.ensures.0 in
    let reads = event_reads _ _ _ c.args.self.indexed _ _ c.requires.1 c.requires.2 _ _ past refl in
    event_value _ _ _ c.args.self.indexed _ _ _ c.requires.1 c.requires.2 _ _ past refl _ (c.eval_bool-x.ensures c.args.self.file.now max_depth false reads).0
