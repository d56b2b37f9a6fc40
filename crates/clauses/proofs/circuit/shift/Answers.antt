use Rattle.std.proofs.Common.{◌≡◌, length, rules}
use Rattle.clauses.proofs.EmitCircuits.{shifts}
use Rattle.clauses.proofs.circuit.shift.Goals as goal

pub returns : goal.returns
returns c = shifts c.args.x _ (let h : length c.args.x ≡ 16 = search rules in h) c.copy_from_slice.ensures.after
