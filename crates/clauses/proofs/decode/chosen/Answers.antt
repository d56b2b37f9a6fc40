use Rattle.std.proofs.Common.{◌∙◌, sym, refl, length, arith}
use Rattle.clauses.specs.Chosen.{first_nonzero}
use Rattle.clauses.proofs.FlagChoices.{found, not_found, found_at, none_found, chosen_none, chosen_odd, chosen_more, chosen_one}
use Rattle.clauses.proofs.decode.chosen.Goals as goal
use Rattle.clauses.proofs.decode.chosen.Goals.{else-flags-i-eq1-via-then-flags-i-eq1+else-rest_zero, else-flags-i-eq1-via-else-flags-i-eq1}

pub returns-in_err-i : goal.returns-in_err-i
returns-in_err-i c =
    let flags = c.args.flags.now in
    c.from_residual.ensures ∙ not_found _ _ (omega (arith, chosen_none flags (first_nonzero flags) refl (none_found (length flags) (first_nonzero flags) c.in_err-i.ensures)))

pub returns-then-rest_zero : goal.returns-then-rest_zero
returns-then-rest_zero c =
    let i = found_at _ _ _ c.in_ok-i.ensures in
    found _ _ _ (chosen_one c.args.flags.now _ i.0 i.1 c.if-flags-i-eq1.true (sym c.rest_zero.ensures ∙ c.if-rest_zero.true)) i.1

pub returns-else-flags-i-eq1 : goal.returns-else-flags-i-eq1
returns-else-flags-i-eq1 c =
    let i = found_at _ _ _ c.in_ok-i.ensures in
    elim c.else-flags-i-eq1.branch [
      | else-flags-i-eq1-via-then-flags-i-eq1+else-rest_zero w ↦ not_found _ _ (omega (arith, chosen_more c.args.flags.now _ i.0 i.1 w.if-flags-i-eq1.true (sym w.rest_zero.ensures ∙ w.if-rest_zero.false)))
      | else-flags-i-eq1-via-else-flags-i-eq1 w ↦ not_found _ _ (omega (arith, chosen_odd c.args.flags.now _ i.0 i.1 w.if-flags-i-eq1.false))
    ]
