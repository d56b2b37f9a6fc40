use Rattle.std.proofs.Common.{arith}
use Rattle.clauses.proofs.EmitParts.{step_out}
use Rattle.clauses.proofs.last.step_literal.Goals as goal

pub size_step_property-gates-requires : goal.size_step_property-gates-requires
size_step_property-gates-requires c = c.requires

pub overflow_add-gates : goal.overflow_add-gates
overflow_add-gates c = omega (arith, c.size_step_property-gates.ensures.0.ands, c.size_step_property-gates.ensures.0.wides)

pub encode_step_property-x-requires : goal.encode_step_property-x-requires
encode_step_property-x-requires c = c.requires

pub returns : goal.returns
returns c =
    step_out _ _ _ _ _ _ (λ i. omega (arith, c.shared_slice_known-1.given i)) c.size_step_property-gates.ensures.1 c.less_by.ensures c.encode_step_property-x.ensures
