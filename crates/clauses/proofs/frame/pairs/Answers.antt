use Rattle.clauses.proofs.FrameNumbers.{pairs_halved}
use Rattle.clauses.proofs.frame.pairs.Goals as goal

pub returns-else-m-eq0 : goal.returns-else-m-eq0
returns-else-m-eq0 c = pairs_halved _ _ c.requires c.times.ensures.0
