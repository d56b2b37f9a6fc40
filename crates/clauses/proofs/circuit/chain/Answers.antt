use Rattle.std.proofs.Common.{◌≡◌, length, refl, arith, rules}
use Rattle.clauses.proofs.EmitCircuits.{chaining_start, chaining_on, chaining_end}
use Rattle.clauses.proofs.circuit.chain.Goals as goal

pub loop-l-init : goal.loop-l-init
loop-l-init c = (chaining_start c.args.x (let h : length c.args.x ≡ 16 = search rules in h) _ _ _ _, refl)

pub loop-l-preserved : goal.loop-l-preserved
loop-l-preserved c = (
  chaining_on c.args.x (let h : length c.args.x ≡ 16 = search rules in h) _ _ _ _ _ c.loop-l-test.true c.loop-l.invariant.0 _ _ c.negate.ensures c.emit_and-part.ensures,
  omega arith,
)

pub returns : goal.returns
returns c =
    chaining_end c.args.x (let h : length c.args.x ≡ 16 = search rules in h) _ _ _ _ _ c.loop-l-test.false c.loop-l.invariant.0
