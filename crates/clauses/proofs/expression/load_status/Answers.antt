use Rattle.std.proofs.Common.{ℕ, ◌+◌, ◌*◌, sym, ap, ◌∙◌, arith}
use Rattle.clauses.specs.Expression.{pad}
use Rattle.clauses.proofs.EmitSlots.{status_slot_lem, status_inside}
use Rattle.clauses.proofs.expression.load_status.Goals as goal

pub overflow_add-o : goal.overflow_add-o
overflow_add-o c =
    omega (arith, status_inside _ c.requires.0 c.first_bit.ensures c.requires.1 (ap (λ (j : ℕ). j + 4 * c.args.m) c.offset.ensures))

pub overflow_add-o-2 : goal.overflow_add-o-2
overflow_add-o-2 c =
    omega (arith, status_inside _ c.requires.0 c.first_bit.ensures c.requires.1 (ap (λ (j : ℕ). j + 4 * c.args.m) c.offset.ensures))

pub load-requires : goal.load-requires
load-requires c =
    omega (arith, status_inside _ c.requires.0 c.first_bit.ensures c.requires.1 (ap (λ (j : ℕ). j + 4 * c.args.m) c.offset.ensures))

pub returns : goal.returns
returns c =
    λ later l. c.load.ensures ∙ ap (pad 16) (sym (status_slot_lem _ c.requires.0 c.first_bit.ensures c.requires.1 (ap (λ (j : ℕ). j + 4 * c.args.m) c.offset.ensures) later l))
