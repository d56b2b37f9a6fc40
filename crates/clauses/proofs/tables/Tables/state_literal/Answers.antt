use Rattle.std.proofs.Common.{refl, rules}
use Rattle.clauses.proofs.EmitParts.{property_out}
use Rattle.clauses.proofs.tables.Tables.state_literal.Goals as goal

pub returns : goal.returns
returns c =
    property_out _ c.args.self.ready.shaped c.variables-bits.result c.args.property c.args.v c.args.self.shape.bits _ _ (search rules) refl c.variables-bits.ensures refl c.encode_property-x.ensures
