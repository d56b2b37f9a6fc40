use native.Mathlib.Omega.{arith}
use Rattle.text.proofs.Parts.{input_refused, input_part}
use Rattle.text.proofs.writer.Writer.part_of.Goals as goal

pub returns-then-input-lt2-clause-text : goal.returns-then-input-lt2-clause-text
returns-then-input-lt2-clause-text c =
    input_refused c.args.input.now c.args.part c.if-input-lt2.true c.refused.ensures.text

pub returns-clause-text : goal.returns-clause-text
returns-clause-text c =
    input_part c.args.input.now c.args.part _ (omega arith) c.design_end-end.ensures.2 c.part.ensures.text
