use Rattle.clauses.proofs.EmitWords.{code_no}
use Rattle.clauses.proofs.EmitExpressions.{test_node}
use Rattle.clauses.proofs.expression.encode_test.Goals as goal

pub encode_bool-x-requires : goal.encode_bool-x-requires
encode_bool-x-requires c = c.requires

pub returns : goal.returns
returns c = let entry = c.args in
    λ later. test_node entry.text.now entry.file.now entry.shape later entry.at entry.bits.now entry.pen _ _ _ code_no (c.encode_bool-x.ensures later)
