use Rattle.std.proofs.Common.{◌≡◌, set, ℤ, sym, ap, ◌∙◌, to_z-of_z}
use Rattle.clauses.proofs.EmitWords.{puts_one, set_past}
use Rattle.clauses.proofs.literal.store.Goals as goal
use Rattle.clauses.proofs.literal.store.Goals.{then-cur-buf, else-cur-buf}

pub returns : goal.returns
returns c =
    let stored : c.if-cur-buf.buf ≡ set c.args.buf.now c.args.cur c.args.word = elim c.if-cur-buf.branch [
      | then-cur-buf w ↦ w.buf-is ∙ ap (λ (z : ℤ). set c.args.buf.now c.args.cur z) (to_z-of_z c.ranges.word)
      | else-cur-buf w ↦ w.buf-is ∙ sym (set_past _ _ _ w.if-cur-buf.false)
    ] in
    puts_one _ _ _ _ _ stored c.advance.ensures
