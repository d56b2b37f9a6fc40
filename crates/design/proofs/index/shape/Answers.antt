use native.Mathlib.Omega.{arith}
use mathlib.Core.Path.{refl}
use Rattle.design.proofs.Tables.{bounds}
use Rattle.design.proofs.Places.{read}
use Rattle.design.proofs.Indexed.{variables_inside}
use Rattle.design.proofs.index.shape.Goals as goal

pub trailer_word-variables-requires : goal.trailer_word-variables-requires
trailer_word-variables-requires c = ((bounds _ c.requires).long, omega arith)

pub trailer_word-matrices-requires : goal.trailer_word-matrices-requires
trailer_word-matrices-requires c = ((bounds _ c.requires).long, omega arith)

pub external_count-requires : goal.external_count-requires
external_count-requires c = omega (arith, (bounds _ c.requires).long, variables_inside _ c.requires, c.trailer_word-variables.ensures.0)

pub state_bits-requires : goal.state_bits-requires
state_bits-requires c = (
  omega (arith, (bounds _ c.requires).long, variables_inside _ c.requires, c.trailer_word-variables.ensures.0),
  omega (arith, c.trailer_word-variables.ensures.0, (read _ c.requires).all.variables),
  omega (arith, c.trailer_word-matrices.ensures.0, (bounds _ c.requires).matrices),
)

pub returns : goal.returns
returns c = record {
  shaped = record { variables = c.trailer_word-variables.ensures.0; matrices = c.trailer_word-matrices.ensures.0 };
  normals = refl;
  externals = c.external_count.ensures.0;
  few = c.external_count.ensures.1;
  bits = record {
    state = λ d w. c.state_bits.ensures.of_design d w c.trailer_word-variables.ensures.0 c.trailer_word-matrices.ensures.0;
    total = c.state_bits.ensures.counted.0;
    few = c.state_bits.ensures.counted.1;
  };
}
