use Rattle.std.proofs.Common.{arith}
use Rattle.clauses.proofs.EmitFormula.{start_is}
use Rattle.clauses.proofs.part.frame_start.Goals as goal

pub overflow_cast-result : goal.overflow_cast-result
overflow_cast-result c =
    omega (arith, start_is c.args.s _ _ _ c.frame_length.ensures.0 c.times.ensures.0, c.requires.2)

pub returns : goal.returns
returns c = omega (arith, start_is c.args.s _ _ _ c.frame_length.ensures.0 c.times.ensures.0)
