use Rattle.clauses.proofs.EmitFormula.{PartsLeft}
use Rattle.clauses.proofs.tables.Tables.put_parts.Given as goal

abbrev pub invariant-loop-i : goal.invariant-loop-i
invariant-loop-i l = PartsLeft l.self.file.now l.piece l.inst.sizes l.inst.property l.inst.bound l.initial.buf l.buf l.at l.i
