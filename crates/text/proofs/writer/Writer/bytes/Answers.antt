use mathlib.Core.Path.{refl, ◌∙◌}
use native.Mathlib.Omega.{arith}
use lib.ListN.{length-drop}
use Rattle.text.proofs.Putting.{rest_start, bytes_next, bytes_end}
use Rattle.text.proofs.writer.Writer.bytes.Goals as goal

pub loop-b-init : goal.loop-b-init
loop-b-init c =
    (rest_start _ _ _, omega arith, refl)

pub byte-requires : goal.byte-requires
byte-requires c =
    omega (arith, c.loop-b.invariant.0.past, c.loop-b.invariant.0.size, length-drop c.loop-b.b-index c.args.bytes.now)

pub loop-b-preserved : goal.loop-b-preserved
loop-b-preserved c =
    (bytes_next c.args.bytes.now c.loop-b.b-index c.loop-b-test.true c.loop-b.invariant.0 c.byte.ensures.text, omega arith, c.byte.ensures.same ∙ c.loop-b.invariant.2)

pub returns : goal.returns
returns c =
    record { same = c.loop-b.invariant.2; text = bytes_end c.args.bytes.now c.loop-b.b-index (omega arith) c.loop-b.invariant.0 }
