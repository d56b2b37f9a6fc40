use Rattle.std.proofs.Common.{refl}
use Rattle.clauses.proofs.EmitWords.{code_yes}
use Rattle.clauses.proofs.property.no_property.Goals as goal

pub returns : goal.returns
returns c = (code_yes, refl)
