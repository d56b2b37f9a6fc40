use mathlib.Core.Path.{refl, ◌∙◌}
use Prim.Native.Nat.{◌+◌}
use native.Mathlib.Omega.{arith}
use Rattle.text.proofs.Putting.{written_length, left_start, statuses_next, statuses_end}
use Rattle.text.proofs.writer.Writer.statuses.Goals as goal

pub loop-i-init : goal.loop-i-init
loop-i-init c =
    (left_start _ _ _, omega arith, refl)

pub byte-requires : goal.byte-requires
byte-requires c =
    omega (arith, c.loop-i.invariant.0.near, c.loop-i.invariant.0.rest.size)

pub overflow_cast-slots : goal.overflow_cast-slots
overflow_cast-slots c =
    omega (arith, c.shared_slice_known-1.given (c.args.n + c.loop-i.i))

pub decimal-requires : goal.decimal-requires
decimal-requires c =
    omega (arith, c.loop-i.invariant.0.near, c.loop-i.invariant.0.rest.size, c.byte.ensures.text.cursor, written_length c.byte.ensures.text)

pub loop-i-preserved : goal.loop-i-preserved
loop-i-preserved c = (
  statuses_next c.args.n c.args.k c.args.slots.now c.requires.0 _ c.loop-i-test.true c.loop-i.invariant.0 c.byte.ensures.text c.decimal.ensures.text,
  omega arith,
  c.decimal.ensures.same ∙ c.byte.ensures.same ∙ c.loop-i.invariant.2,
)

pub returns : goal.returns
returns c =
    record {
      same = c.loop-i.invariant.2;
      text = statuses_end c.args.n c.args.k c.args.slots.now c.requires.0 c.loop-i.i (omega arith) c.loop-i.invariant.0;
      near = omega (arith, c.loop-i.invariant.0.near);
    }
