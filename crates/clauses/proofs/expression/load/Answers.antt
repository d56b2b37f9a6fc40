use Rattle.clauses.proofs.EmitSlots.{loads}
use Rattle.clauses.proofs.expression.load.Goals as goal

pub returns : goal.returns
returns c = loads c.args.bits.now c.args.off c.args.w _ c.requires.0 c.requires.1 c.copy_from_slice.ensures.after
