use Rattle.clauses.proofs.EmitCircuits.{bit_emits}
use Rattle.clauses.proofs.circuit.sum_bit.Goals as goal

pub returns : goal.returns
returns c =
    bit_emits _ _ _ _ _ _ _ _ _ c.emit_xor-p.ensures c.emit_xor-s.ensures c.emit_and-u.ensures c.emit_and-t.ensures c.emit_or-k.ensures
