use Rattle.clauses.specs.FlatState.{slots_of, layout_of}
use Rattle.clauses.proofs.EmitBuilds.{emits_same}
use Rattle.clauses.proofs.EmitCells.{normal_fields, enable_emits, cell_event}
use Rattle.clauses.proofs.tables.Tables.encode_enable.Goals as goal

pub status_and_event-a-requires : goal.status_and_event-a-requires
status_and_event-a-requires c = normal_fields c.args.self.ready c.args.p c.requires

pub returns : goal.returns
returns c =
    let shape = c.args.self.shape in
    λ x. enable_emits (layout_of shape) (slots_of c.args.self.file.now shape c.args.bits.now) x.cell _ _ _ (emits_same _ _ (cell_event
    c.args.self.ready c.args.p x (layout_of shape) (slots_of c.args.self.file.now shape c.args.bits.now) _) (c.status_and_event-a.ensures x.tree x.parts)) (c.encode_guard-g.ensures x) c.emit_and.ensures
