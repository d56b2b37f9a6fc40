-- The code of a call by its refusal and by its answer. Assumes nothing.
use mathlib.Core.Path.{◌≡◌, refl}
use Rattle.std.specs.Prelude.{Result, Ok, Err}
use Rattle.design.specs.Answer.{told}
use Rattle.design.specs.Refusal.{turned}
use Rattle.design.specs.declared.refusal.Refused.{Refused}
use Rattle.entries.specs.Code.{code, code_of, code_told}

pub code_by : {A : Type 0} (r : Result A Refused) → code_of (turned r) ≡ code_told (told r)
unfolding code
code_by (Ok x) = refl
code_by (Err e) = refl
