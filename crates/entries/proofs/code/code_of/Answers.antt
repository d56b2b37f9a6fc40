use Rattle.entries.specs.Code.{code}
use Rattle.entries.proofs.code.code_of.Goals as goal

pub returns : goal.returns
unfolding code
returns c = rw (c.number-number.ensures, c.min-place.ensures, c.place.ensures)
