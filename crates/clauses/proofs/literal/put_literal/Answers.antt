use Rattle.std.proofs.Common.{[], ◌∷◌, ℤ, ap, arith}
use Rattle.clauses.proofs.EmitWords.{puts_same, word_back}
use Rattle.clauses.proofs.literal.put_literal.Goals as goal

pub returns : goal.returns
returns c =
    puts_same (ap (λ (z : ℤ). z ∷ []) (word_back _ c.args.l (omega arith) c.signed.ensures)) c.store.ensures
