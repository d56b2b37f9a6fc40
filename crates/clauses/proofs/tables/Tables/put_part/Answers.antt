use Rattle.std.proofs.Common.{arith}
use Rattle.clauses.proofs.EmitFormula.{first_part_lem, frame_part_lem, last_part}
use Rattle.clauses.proofs.tables.Tables.put_part.Goals as goal

pub returns-then-i-eq0 : goal.returns-then-i-eq0
returns-then-i-eq0 c = λ d ok es. first_part_lem _ _ _ _ _ _ d ok es c.if-i-eq0.true c.put_first.ensures

pub returns-then-k-i : goal.returns-then-k-i
returns-then-k-i c = λ d ok es. last_part _ _ _ _ _ _ d ok es c.if-k-i.true c.put_last.ensures

pub returns : goal.returns
returns c =
    λ d ok es. frame_part_lem _ _ _ _ _ _ d ok es c.if-i-eq0.false (omega (arith, c.if-k-i.false)) c.put_frame.ensures
