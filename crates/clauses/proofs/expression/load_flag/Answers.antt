use Rattle.std.proofs.Common.{sym, ap, ◌∙◌, arith}
use Rattle.clauses.specs.Expression.{lowest}
use Rattle.clauses.proofs.EmitSlots.{variable_slot, variable_inside, boolean_width, lowest_one}
use Rattle.clauses.proofs.expression.load_flag.Goals as goal

pub overflow_add-o : goal.overflow_add-o
overflow_add-o c =
    omega (
      arith,
      variable_inside _ c.requires.0 c.first_bit.ensures c.requires.1 c.offset.ensures (boolean_width c.args.file.now c.args.v c.requires.2),
    )

pub offset_bounds-bits-o : goal.offset_bounds-bits-o
offset_bounds-bits-o c =
    omega (
      arith,
      variable_inside _ c.requires.0 c.first_bit.ensures c.requires.1 c.offset.ensures (boolean_width c.args.file.now c.args.v c.requires.2),
    )

pub bounds-bits-o : goal.bounds-bits-o
bounds-bits-o c =
    omega (
      arith,
      variable_inside _ c.requires.0 c.first_bit.ensures c.requires.1 c.offset.ensures (boolean_width c.args.file.now c.args.v c.requires.2),
    )

pub returns : goal.returns
returns c =
    λ later l. sym (lowest_one c.args.bits.now _ (omega (
      arith,
      variable_inside _ c.requires.0 c.first_bit.ensures c.requires.1 c.offset.ensures (boolean_width c.args.file.now c.args.v c.requires.2),
    ))) ∙ ap lowest (sym (variable_slot _ c.requires.0 c.first_bit.ensures c.requires.1 c.offset.ensures (boolean_width c.args.file.now c.args.v c.requires.2) later l))
