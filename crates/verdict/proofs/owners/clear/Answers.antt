use Rattle.verdict.proofs.OneOwner.{never_refused, words_room, cleared}
use Rattle.verdict.proofs.owners.clear.Goals as goal

pub slice_bounds-fill-end : goal.slice_bounds-fill-end
slice_bounds-fill-end c =
    words_room c.requires _ (c.in-Ok.ensures)

pub returns-in-Ok : goal.returns-in-Ok
returns-in-Ok c =
    cleared c.requires _ (c.in-Ok.ensures) _ _ (c.fill.ensures.after (λ y e. e)) (c.fill-in-Ok.ensures.after (λ y e. e))

pub returns-in_default : goal.returns-in_default
returns-in_default c =
    absurd (never_refused c.requires _ _ (c.in_default.ensures))
