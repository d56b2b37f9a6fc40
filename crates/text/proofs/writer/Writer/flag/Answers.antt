use mathlib.Core.Path.{ap, sym}
use mathlib.Core.Bool.{Bool}
use Prim.Native.Nat.{◌+◌}
use native.Mathlib.Omega.{arith}
use Rattle.design.specs.Tree.{bit}
use Rattle.text.proofs.Putting.{written_length, flag_written}
use Rattle.text.proofs.writer.Writer.flag.Goals as goal

pub byte-requires-then-flag : goal.byte-requires-then-flag
byte-requires-then-flag c =
    omega (arith, c.byte.ensures.text.cursor, written_length c.byte.ensures.text)

pub returns-then-flag-clause-text : goal.returns-then-flag-clause-text
returns-then-flag-clause-text c =
    flag_written c.args.flag 49 (sym (ap (λ (b : Bool). 48 + bit b) c.if-flag.true)) c.byte.ensures.text c.byte-then-flag.ensures.text

pub returns-then-flag-clause-near : goal.returns-then-flag-clause-near
returns-then-flag-clause-near c =
    omega (arith, c.byte.ensures.text.cursor, c.byte-then-flag.ensures.text.cursor)

pub byte-requires-else-flag : goal.byte-requires-else-flag
byte-requires-else-flag c =
    omega (arith, c.byte.ensures.text.cursor, written_length c.byte.ensures.text)

pub returns-else-flag-clause-text : goal.returns-else-flag-clause-text
returns-else-flag-clause-text c =
    flag_written c.args.flag 48 (sym (ap (λ (b : Bool). 48 + bit b) c.if-flag.false)) c.byte.ensures.text c.byte-else-flag.ensures.text

pub returns-else-flag-clause-near : goal.returns-else-flag-clause-near
returns-else-flag-clause-near c =
    omega (arith, c.byte.ensures.text.cursor, c.byte-else-flag.ensures.text.cursor)
