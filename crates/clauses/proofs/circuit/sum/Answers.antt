use Rattle.std.proofs.Common.{◌≡◌, length, refl, arith, rules}
use Rattle.clauses.proofs.EmitCircuits.{summing_start, summing_on, summing_end}
use Rattle.clauses.proofs.circuit.sum.Goals as goal

pub loop-i-init : goal.loop-i-init
loop-i-init c = (
  summing_start c.args.a c.args.b (let h : length c.args.a ≡ 16 = search rules in h) (let h : length c.args.b ≡ 16 = search rules
      in h) _ _ _ _ _ refl,
  refl,
)

pub loop-i-preserved : goal.loop-i-preserved
loop-i-preserved c = (
  summing_on c.args.a c.args.b (let h : length c.args.a ≡ 16 = search rules in h) (let h : length c.args.b ≡
      16 = search rules in h) _ _ _ _ _ _ _ c.loop-i-test.true c.loop-i.invariant.0 _ _ c.sum_bit-t.ensures,
  omega arith,
)

pub returns : goal.returns
returns c =
    summing_end c.args.a c.args.b (let h : length c.args.a ≡ 16 = search rules in h) (let h
    : length c.args.b ≡ 16 = search rules in h) _ _ _ _ _ _ _ c.loop-i-test.false c.loop-i.invariant.0
