use native.Mathlib.Omega.{arith}
use mathlib.Core.Path.{◌∙◌}
use Rattle.design.proofs.Widths.{state_size, variables_small, bits_are}
use Rattle.design.proofs.bits.state_bits.Goals as goal

pub overflow_add-result : goal.overflow_add-result
overflow_add-result c = omega (arith, c.offset.ensures, variables_small c.args.file.now 0 c.args.variables)

pub overflow_add-result-2 : goal.overflow_add-result-2
overflow_add-result-2 c = omega (arith, c.offset.ensures, variables_small c.args.file.now 0 c.args.variables)

pub returns : goal.returns
returns c =
    let size = state_size c.args.file.now c.args.variables c.args.matrices _ c.offset.ensures in
    record {
      counted = (size, omega (arith, c.offset.ensures, variables_small c.args.file.now 0 c.args.variables));
      of_design = λ d p e q. size ∙ bits_are c.args.file.now d p c.args.variables c.args.matrices e q;
    }
