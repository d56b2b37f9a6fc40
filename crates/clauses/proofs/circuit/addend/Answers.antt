use Rattle.std.proofs.Common.{◌≡◌, length, rules}
use Rattle.clauses.proofs.EmitCircuits.{addend_no, addend_yes}
use Rattle.clauses.proofs.circuit.addend.Goals as goal

pub returns-then-bit-eq0 : goal.returns-then-bit-eq0
returns-then-bit-eq0 c = addend_no _ c.args.x 16 (let h : length c.args.x ≡ 16 = search rules in h) c.if-bit-eq0.true

pub returns : goal.returns
returns c = addend_yes _ _ c.if-bit-eq0.false
