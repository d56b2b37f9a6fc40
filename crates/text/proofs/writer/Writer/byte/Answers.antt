use mathlib.Core.Path.{refl}
use Rattle.text.proofs.Putting.{written_byte}
use Rattle.text.proofs.writer.Writer.byte.Goals as goal

pub returns-clause-text : goal.returns-clause-text
returns-clause-text c =
    written_byte _ _ _ _ refl
