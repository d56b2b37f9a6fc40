use mathlib.Core.Path.{ap}
use Rattle.entries.specs.Owners.{owners_return, owners_entry}
use Rattle.entries.proofs.owners.stm_owners.Goals as goal

pub returns : goal.returns
unfolding owners_entry
returns c = rw c.code_alone.ensures (ap owners_return c.owners.ensures)
