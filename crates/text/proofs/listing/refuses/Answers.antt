use mathlib.Core.Path.{◌∙◌}
use Rattle.text.proofs.Parts.{refuses_told}
use Rattle.text.proofs.listing.refuses.Goals as goal

pub returns : goal.returns
returns c = c.is_err.ensures.value ∙ refuses_told _ _ _ _ _ _ _ c.encode.ensures
