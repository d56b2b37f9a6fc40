use mathlib.Core.Path.{ap}
use Rattle.design.specs.Answer.{told}
use Rattle.verdict.proofs.OneOwner.{owner_refused, owner_clearable, owner_done_left}
use Rattle.verdict.proofs.owners.one_owner.Goals as goal

pub clear-requires : goal.clear-requires
clear-requires c =
    owner_clearable _ _ _ _ _ _ c.verdict-r.ensures _ (ap told c.in-Ok.is) (λ i. (c.shared_slice_known-1.given i).fits) c.last_bound.ensures

pub returns-in-Ok : goal.returns-in-Ok
returns-in-Ok c =
    owner_done_left _ _ _ _ _ _ c.verdict-r.ensures _ (ap told c.in-Ok.is) (λ i. (c.shared_slice_known-1.given i).fits) c.last_bound.ensures c.clear.ensures

pub returns-in_default : goal.returns-in_default
returns-in_default c =
    λ d e. owner_refused _ _ _ _ _ _ c.verdict-r.ensures _ _ (ap told c.in_default.is) d
