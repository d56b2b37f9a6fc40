use Rattle.std.proofs.Common.{refl, arith}
use Rattle.clauses.proofs.EmitWords.{code_even}
use Rattle.clauses.proofs.literal.positive.Goals as goal

pub returns-then-v-lt-VARIABLE_LIMIT : goal.returns-then-v-lt-VARIABLE_LIMIT
returns-then-v-lt-VARIABLE_LIMIT c = λ h. code_even _ _ refl

pub returns-else-v-lt-VARIABLE_LIMIT : goal.returns-else-v-lt-VARIABLE_LIMIT
returns-else-v-lt-VARIABLE_LIMIT c = λ h. absurd (omega arith)
