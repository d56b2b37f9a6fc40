use Rattle.std.proofs.Common.{arith}
use Rattle.clauses.proofs.EncodeCall.{encode_short, encode_done}
use Rattle.clauses.proofs.EmitFormula.{formula_ready}
use Rattle.clauses.proofs.encode.encode_admitted.Goals as goal

pub returns-then-buffer-words : goal.returns-then-buffer-words
returns-then-buffer-words c =
    encode_short _ _ _ _ _ _ c.requires.0 (λ i. omega (arith, c.shared_slice_known-1.given i)) c.requires.1 _ c.part_words-words.ensures c.if-buffer-words.true

pub put_part-requires : goal.put_part-requires
put_part-requires c =
    let z = c.instance.ensures in
    rw z.asked (
      formula_ready _ c.requires.0 (λ i. omega (arith, c.shared_slice_known-1.given i)) z.indexed z.measured,
      c.requires.0.right,
      c.requires.1,
    )

pub returns : goal.returns
returns c =
    encode_done _ _ _ _ _ _ c.requires.0 (λ i. omega (arith, c.shared_slice_known-1.given i)) c.requires.1 _ c.part_words-words.ensures c.if-buffer-words.false _ _ (rw c.instance.ensures.asked at c.put_part.ensures)
