use Rattle.std.proofs.Common.{◌∙◌, not, eqb, rules, tests}
use Rattle.std.proofs.lemmas.Iterator.{YieldsList-from_slice}
use Rattle.std.proofs.lemmas.Iterator.Search.{position_from_yields_List}
use Rattle.clauses.proofs.FlagChoices.{first_place}
use Rattle.clauses.proofs.decode.first_nonzero.Goals as goal

pub returns : goal.returns
returns c =
    position_from_yields_List (λ x. not (eqb x 0)) _ _ c.position.result c.position.ensures.ran (YieldsList-from_slice c.args.flags.now cc) (λ x b q k. search (rules, tests))
    ∙ first_place c.args.flags.now
