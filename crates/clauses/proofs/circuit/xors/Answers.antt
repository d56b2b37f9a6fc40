use Rattle.std.proofs.Common.{◌≡◌, length, refl, arith, rules}
use Rattle.clauses.specs.Circuit.{xor!, xors! }
use Rattle.clauses.proofs.EmitCircuits.{rowing_start, rowing_on, rowing_all, xors_row}
use Rattle.clauses.proofs.circuit.xors.Goals as goal

pub loop-i-init : goal.loop-i-init
loop-i-init c = (
  rowing_start xor! xors! xors_row 16 c.args.a c.args.b (let h : length c.args.a ≡ 16 = search rules in h) (let h : length c.args.b
      ≡ 16 = search rules in h) _ _ _ _,
  refl,
  refl,
)

pub loop-i-preserved : goal.loop-i-preserved
loop-i-preserved c = (
  rowing_on xor! xors! xors_row 16 c.args.a c.args.b (let h :
      length c.args.a ≡ 16 = search rules in h) (let h : length c.args.b ≡ 16 = search rules in h) _ _ _ _ c.loop-i-test.true (omega arith) c.loop-i.invariant.0 _ _ _ refl refl c.emit_xor-t.ensures,
  search rules,
  omega arith,
)

pub returns : goal.returns
returns c =
    rowing_all xor! xors! xors_row 16 c.args.a c.args.b (let h : length c.args.a ≡ 16 =
    search rules in h) (let h : length c.args.b ≡ 16 = search rules in h) _ _ _ _ c.loop-i.invariant.1 c.loop-i-test.false c.loop-i.invariant.0
