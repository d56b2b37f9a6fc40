use Rattle.std.proofs.Common.{◌≡◌, length, rules}
use Rattle.clauses.proofs.EmitCircuits.{negate_top_lem}
use Rattle.clauses.proofs.circuit.negate_top.Goals as goal

pub returns : goal.returns
returns c =
    negate_top_lem c.args.b 15 c.negate.result (let h : length c.args.b ≡ 16 = search rules in h) c.negate.ensures
