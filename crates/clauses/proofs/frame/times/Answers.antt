use Rattle.std.proofs.Common.{refl, arith}
use Rattle.clauses.proofs.FrameNumbers.{product_small}
use Rattle.clauses.proofs.frame.times.Goals as goal

pub overflow_mul-result : goal.overflow_mul-result
overflow_mul-result c = record { fits = omega (arith, product_small _ _ c.requires.0 c.requires.1) }

pub returns : goal.returns
returns c = (refl, product_small _ _ c.requires.0 c.requires.1)
