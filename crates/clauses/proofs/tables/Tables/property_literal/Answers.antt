use Rattle.std.proofs.Common.{ℕ, ◌+◌, ap}
use Rattle.design.proofs.Sections.{whole}
use Rattle.clauses.proofs.EmitParts.{literal_of_state, literal_of_step}
use Rattle.clauses.proofs.tables.Tables.property_literal.Goals as goal

pub returns-then-property-lt-CONSTRAINT : goal.returns-then-property-lt-CONSTRAINT
returns-then-property-lt-CONSTRAINT c =
    λ d ok e fits. let w = (whole c.args.self.file.now d ok).parts in literal_of_state d _ _ _ c.if-property-lt-CONSTRAINT.true _ _ (c.args.self.ready.shaped.bits.state d w) _ (c.state_literal.ensures d w) fits

pub returns : goal.returns
returns c =
    λ d ok e fits. let at = ap (λ (k : ℕ). c.args.v + k) e in literal_of_step d _ _ _ c.if-property-lt-CONSTRAINT.false _ _
    at _ (c.step_literal.ensures d ok _ at) fits
