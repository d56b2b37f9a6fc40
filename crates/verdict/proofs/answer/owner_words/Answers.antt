use mathlib.Core.Path.{ap, sym, ◌∙◌}
use Rattle.std.specs.Prelude.{ℕ, Result}
use Rattle.verdict.specs.declared.answer.Told.{Told}
use Rattle.verdict.specs.Answers.{numbered, owner_words}
use Rattle.verdict.proofs.OneOwner.{owner_done}
use Rattle.verdict.proofs.answer.owner_words.Goals as goal

pub returns-in-Ok : goal.returns-in-Ok
returns-in-Ok c =
    owner_done c.in-Ok.t c.verdict_number.ensures c.verdict_step.ensures ∙ sym (ap (λ (r : Result Told (ℕ × ℕ)). owner_words (numbered r)) c.in-Ok.is)
