use Rattle.std.proofs.Common.{rules, tests, ◌∙◌, leb}
use Rattle.std.proofs.lemmas.Iterator.{YieldsList-from_slice}
use Rattle.std.proofs.lemmas.Iterator.Search.{position_from_yields_List}
use Rattle.step.proofs.Looking.{first_over_is}
use Rattle.step.proofs.replaying.first_over.Goals as goal

pub returns : goal.returns
returns c =
    position_from_yields_List (λ x. leb c.args.w x) _ _ _ c.position.ensures.ran (YieldsList-from_slice c.args.choices.now cc) (λ x b q k. search (rules, tests))
    ∙ first_over_is c.args.choices.now c.args.w
