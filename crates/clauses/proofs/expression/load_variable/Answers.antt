use Rattle.std.proofs.Common.{sym, ap, ◌∙◌, arith}
use Rattle.clauses.specs.Expression.{pad}
use Rattle.clauses.proofs.EmitSlots.{variable_slot, variable_inside, integer_width}
use Rattle.clauses.proofs.expression.load_variable.Goals as goal

pub overflow_add-o : goal.overflow_add-o
overflow_add-o c =
    omega (
      arith,
      variable_inside _ c.requires.0 c.first_bit.ensures c.requires.1 c.offset.ensures (integer_width c.args.file.now c.args.v c.requires.2),
    )

pub load-requires : goal.load-requires
load-requires c =
    omega (
      arith,
      variable_inside _ c.requires.0 c.first_bit.ensures c.requires.1 c.offset.ensures (integer_width c.args.file.now c.args.v c.requires.2),
    )

pub returns : goal.returns
returns c =
    λ later l. c.load.ensures ∙ ap (pad 16) (sym (variable_slot _ c.requires.0 c.first_bit.ensures c.requires.1 c.offset.ensures
    (integer_width c.args.file.now c.args.v c.requires.2) later l))
