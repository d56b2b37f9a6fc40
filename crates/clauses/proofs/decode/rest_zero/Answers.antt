use Rattle.std.proofs.Common.{◌∙◌, eqb, drop, arith, length-drop, rules, tests}
use Rattle.std.proofs.lemmas.Iterator.{YieldsList-from_slice}
use Rattle.std.proofs.lemmas.Iterator.Search.{all_from_yields_List}
use Rattle.clauses.proofs.EmitLists.{take_all}
use Rattle.clauses.proofs.FlagChoices.{all_zeros}
use Rattle.clauses.proofs.decode.rest_zero.Goals as goal

pub returns : goal.returns
returns c =
    let rest = drop c.args.from c.args.flags.now in
    all_from_yields_List (λ x. eqb x 0) _ _ c.all.result c.all.ensures.ran (YieldsList-from_slice rest (c.iter.ensures.rest ∙ take_all rest _ (omega (arith, length-drop c.args.from c.args.flags.now)))) (λ x b q k. search (rules, tests)) ∙ all_zeros rest
