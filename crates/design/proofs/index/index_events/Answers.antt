use native.Mathlib.Omega.{arith}
use Prim.Native.Nat.{ℕ, ◌+◌, ◌*◌}
use mathlib.Core.Path.{ap, ◌∙◌}
use lib.ListN.{get_or}
use Rattle.design.proofs.Tables.{bounds, matrix_in, few_events, events_start_lem, row_inside, events_on, events_end}
use Rattle.design.proofs.index.index_events.Goals as goal

pub trailer_word-mats-requires : goal.trailer_word-mats-requires
trailer_word-mats-requires c = omega (arith, (bounds _ c.requires).long)

pub trailer_word-nm-requires : goal.trailer_word-nm-requires
trailer_word-nm-requires c = omega (arith, (bounds _ c.requires).long)

pub trailer_word-p-requires : goal.trailer_word-p-requires
trailer_word-p-requires c = omega (arith, (bounds _ c.requires).long)

pub loop-m-init : goal.loop-m-init
loop-m-init c = (
  c.trailer_word-mats.ensures.0,
  c.trailer_word-nm.ensures.0,
  events_start_lem _ _ _ c.trailer_word-p.ensures.0,
  (omega arith),
)

pub overflow_mul-m : goal.overflow_mul-m
overflow_mul-m c = omega (arith, (bounds _ c.requires).matrices)

pub overflow_add-mats : goal.overflow_add-mats
overflow_add-mats c =
    omega (
      arith,
      (bounds _ c.requires).matrices,
      c.trailer_word-mats.ensures.1,
    )

pub overflow_add-mats-in-loop-m : goal.overflow_add-mats-in-loop-m
overflow_add-mats-in-loop-m c =
    omega (
      arith,
      (bounds _ c.requires).matrices,
      c.trailer_word-mats.ensures.1,
    )

pub bounds-file-mats : goal.bounds-file-mats
bounds-file-mats c =
    omega (
      arith,
      (bounds _ c.requires).long,
      matrix_in _ c.requires c.loop-m.m (omega arith),
    )

pub index_row-p-requires : goal.index_row-p-requires
index_row-p-requires c =
    let e = c.wide.ensures.0 ∙ ap (λ (x : ℕ). get_or c.args.file.now
    (x + 2 * c.loop-m.m + 1) 0) c.loop-m.invariant.0 in let k = few_events _ c.requires c.loop-m.m (omega arith) in (
      omega arith,
      omega (arith, (bounds _ c.requires).matrices),
      (bounds _
          c.requires).short,
      row_inside _ c.requires _ _ _ _ c.loop-m.invariant.2 (omega arith) e,
    )

pub loop-m-preserved : goal.loop-m-preserved
loop-m-preserved c =
    let e = c.wide.ensures.0 ∙ ap (λ (x : ℕ). get_or c.args.file.now (x + 2 * c.loop-m.m + 1) 0) c.loop-m.invariant.0 in (
      c.loop-m.invariant.0,
      c.loop-m.invariant.1,
      events_on _ c.requires _ _ _ _ _ _ c.loop-m.invariant.2 (omega arith) e (c.index_row-p.ensures.0, c.index_row-p.ensures.1, c.index_row-p.ensures.2),
      omega arith,
    )

pub returns : goal.returns
returns c = events_end _ _ _ _ (omega arith) c.loop-m.invariant.2
