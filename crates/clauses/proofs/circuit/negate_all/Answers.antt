use Rattle.std.proofs.Common.{◌≡◌, length, rules}
use Rattle.clauses.proofs.EmitCircuits.{negates_all}
use Rattle.clauses.proofs.circuit.negate_all.Goals as goal

pub returns : goal.returns
returns c =
    negates_all c.args.b c.map.result (let h : length c.args.b ≡ 16 = search rules in h) c.map.ensures.items.long (λ k h. search (rules, c.map.ensures.items.at k 0 0 h))
