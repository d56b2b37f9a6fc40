use Rattle.std.proofs.Common.{refl, arith}
use Rattle.clauses.proofs.EmitStates.{muxing_start, muxing_on, muxing_end}
use Rattle.clauses.proofs.action.muxes.Goals as goal

pub loop-i-init : goal.loop-i-init
loop-i-init c = (
  muxing_start c.args.shape.bits _ c.args.state.now c.args.other.now (omega (arith, c.requires)) (omega (arith, c.requires)) _ _ _,
  refl,
)

pub loop-i-preserved : goal.loop-i-preserved
loop-i-preserved c = (
  muxing_on c.args.shape.bits _ c.args.state.now c.args.other.now (omega (arith, c.requires)) (omega (arith, c.requires)) _ _ _ _ c.loop-i-test.true c.loop-i.invariant.0 _ c.emit_mux-t.ensures,
  omega arith,
)

pub returns : goal.returns
returns c =
    λ file e. muxing_end c.args.shape.bits _ c.args.state.now c.args.other.now (omega (arith, c.requires))
    (omega (arith, c.requires)) _ _ _ _ c.loop-i-test.false c.loop-i.invariant.0 file c.args.shape e
