use Rattle.std.proofs.Common.{arith}
use Rattle.clauses.proofs.FrameNumbers.{ties_small}
use Rattle.clauses.proofs.frame.step_words.Goals as goal

pub returns : goal.returns
returns c = (
  omega (arith, c.pairs.ensures.0, c.times.ensures.0),
  omega (
    arith,
    c.pairs.ensures.1,
    c.times.ensures.0,
    ties_small _
        c.requires,
    c.requires.gates,
    c.requires.movers,
  ),
)
