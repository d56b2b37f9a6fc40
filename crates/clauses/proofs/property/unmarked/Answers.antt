use Rattle.std.proofs.Common.{ap}
use Rattle.clauses.specs.Literal.{Literal}
use Rattle.clauses.specs.Circuit.{and! }
use Rattle.clauses.specs.Writing.{from_code}
use Rattle.clauses.proofs.EmitBuilds.{emits_same}
use Rattle.clauses.proofs.property.unmarked.Goals as goal

pub returns : goal.returns
returns c =
    emits_same _ _ (ap (λ (l : Literal). and! (from_code c.args.x.value) l c.args.x.pen.var) c.negate.ensures) c.emit_and.ensures
