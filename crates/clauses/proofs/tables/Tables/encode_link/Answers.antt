use Rattle.clauses.specs.FlatState.{slots_of, layout_of}
use Rattle.clauses.proofs.EmitSteps.{link_pass, link_emits}
use Rattle.clauses.proofs.tables.Tables.encode_link.Goals as goal

pub returns-then-self-p : goal.returns-then-self-p
returns-then-self-p c =
    λ d w. link_pass (layout_of c.args.self.shape) (slots_of c.args.self.file.now c.args.self.shape c.args.bits.now) _ _ _ _ _ _ _ _ c.if-self-p.true

pub returns : goal.returns
returns c =
    λ d w. link_emits (layout_of c.args.self.shape) (slots_of c.args.self.file.now c.args.self.shape c.args.bits.now) _ _ _ _ _ _ _ c.if-self-p.false c.negate.ensures (c.status_and_event-a.ensures d w) c.emit_and.ensures
