use native.Mathlib.Omega.{arith}
use Prim.Native.Nat.{ℕ}
use mathlib.Core.Path.{◌≡◌, ap, ◌∙◌}
use Rattle.design.specs.Places.{past_events}
use Rattle.design.proofs.Tables.{row_start, row_on}
use Rattle.design.proofs.index.index_row.Goals as goal

pub loop-i-init : goal.loop-i-init
loop-i-init c = (omega arith, row_start _ _ _ _ (omega arith))

pub overflow_cast-table : goal.overflow_cast-table
overflow_cast-table c = omega (arith, c.loop-i.invariant.1.here, c.requires.3 c.loop-i.i c.loop-i-test.true)

pub overflow_add-p : goal.overflow_add-p
overflow_add-p c = omega (arith, c.loop-i.invariant.1.here, c.requires.3 c.loop-i.i c.loop-i-test.true)

pub bounds-file-p : goal.bounds-file-p
bounds-file-p c =
    omega (
      arith,
      c.loop-i.invariant.1.here,
      c.requires.3 c.loop-i.i c.loop-i-test.true,
    )

pub overflow_add-p-in-loop-i : goal.overflow_add-p-in-loop-i
overflow_add-p-in-loop-i c =
    omega (
      arith,
      c.wide.ensures.1,
      c.loop-i.invariant.1.here,
      c.requires.3 c.loop-i.i c.loop-i-test.true,
    )

pub loop-i-preserved : goal.loop-i-preserved
loop-i-preserved c = (omega arith, row_on _ _ _ _ _ _ _ _ c.loop-i.invariant.1 (omega arith) c.wide.ensures.0)

pub returns : goal.returns
returns c =
    let z : c.loop-i.i ≡ c.args.count = omega arith in (
      c.loop-i.invariant.1.here ∙ ap (λ (n : ℕ). past_events c.args.file.now n c.args.at) z,
      (λ j l. c.loop-i.invariant.1.filled j (omega
          arith)),
      c.loop-i.invariant.1.kept,
    )
