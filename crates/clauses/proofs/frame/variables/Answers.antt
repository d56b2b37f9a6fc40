use Rattle.clauses.proofs.FrameNumbers.{variables_sum}
use Rattle.clauses.proofs.frame.variables.Goals as goal

pub returns : goal.returns
returns c =
    variables_sum _ c.requires.0 _ _ _ c.requires.1 c.frame_length.ensures.0 c.times.ensures.0
