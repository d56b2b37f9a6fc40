use Rattle.std.proofs.Common.{◌≡◌, length, arith, rules}
use Rattle.clauses.proofs.EmitStates.{stored}
use Rattle.clauses.proofs.action.store_word.Goals as goal

pub returns : goal.returns
returns c =
    let long : length c.args.x ≡ 16 = search rules in
    stored c.args.state.now c.args.x c.args.off c.args.w c.copy_from_slice.new.self (omega arith) (omega arith) c.copy_from_slice.ensures.after
