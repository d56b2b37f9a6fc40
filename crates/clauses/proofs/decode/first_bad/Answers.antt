use Rattle.std.proofs.Common.{refl, ◌∙◌, arith, rules}
use Rattle.std.proofs.lemmas.Iterator.{YieldsList-from_range}
use Rattle.std.proofs.lemmas.Iterator.Search.{position_from_yields_List}
use Rattle.clauses.proofs.FlagChoices.{judged, misses, first_miss}
use Rattle.clauses.proofs.decode.first_bad.Goals as goal

pub returns : goal.returns
returns c =
    let v = c.args.values.now in
    let size = c.args.size in
    let w = c.args.w in
    let k = c.args.k in
    let base = c.args.base in
    position_from_yields_List (misses v size w k base) _ _ c.position.result c.position.ensures.ran (YieldsList-from_range 0 k k refl (omega arith)) (λ j b q h. (search rules, judged v size w k base j b (search rules)))
    ∙ first_miss v size w k base
