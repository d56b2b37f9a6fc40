use native.Mathlib.Omega.{arith}
use Prim.Native.Nat.{◌-◌, ◌/◌}
use Rattle.text.proofs.Putting.{written_length, digits_none, digits_last, digits_more, digits_length}
use Rattle.text.proofs.writer.Writer.+digits.Goals as goal

pub returns-then-left-eq0-clause-text : goal.returns-then-left-eq0-clause-text
returns-then-left-eq0-clause-text t c =
    digits_none _ _ _ _ c.if-left-eq0.true

pub returns-then-n-lt10-clause-text : goal.returns-then-n-lt10-clause-text
returns-then-n-lt10-clause-text t c =
    digits_last _ _ c.if-left-eq0.false c.if-n-lt10.true c.byte.ensures.text

pub byte-requires-2 : goal.byte-requires-2
byte-requires-2 t c =
    omega (arith, c.digits.ensures.text.cursor, written_length c.digits.ensures.text, digits_length (c.args.left - 1) (c.args.n / 10))

pub returns-clause-text : goal.returns-clause-text
returns-clause-text t c =
    digits_more _ _ c.if-left-eq0.false c.if-n-lt10.false c.digits.ensures.text c.byte-2.ensures.text
