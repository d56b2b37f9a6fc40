use native.Mathlib.Omega.{arith}
use mathlib.Core.Path.{ap, ◌∙◌}
use mathlib.Core.Logic.{inl, inr}
use Rattle.design.specs.Action.{stmt_op}
use Rattle.design.proofs.Readers.{list_past, list_begins, seq_none, seq_bad, seq_next, stmt_past, stmt_assign, stmt_second, stmt_none, stmt_flat, if_bad, if_bad_then, if_else_lem}
use Rattle.design.proofs.Forward.{bool_on, list_on, stmt_on}
use Rattle.design.proofs.source.Source.+check_list_check_stmt.Goals as goal

pub check_list-returns-then-self-at : goal.check_list-returns-then-self-at
check_list-returns-then-self-at t c = list_past _ _ _ _ _ c.if-self-at.true

pub check_list-loop-init : goal.check_list-loop-init
check_list-loop-init t c = (omega arith, list_begins _ _ _ _ _ c.if-self-at.false)

pub check_list-loop-preserved : goal.check_list-loop-preserved
check_list-loop-preserved t c =
    let g = stmt_on _ _ _ _ _ _ c.in_ok-p.ensures in (
      omega arith,
      seq_next _ _ _ _ _ _ _ _ (omega arith) c.in_ok-p.ensures ∙ c.loop.invariant.1,
    )

pub check_list-returns-in_err-p : goal.check_list-returns-in_err-p
check_list-returns-in_err-p t c =
    c.from_residual.ensures ∙ seq_bad _ _ _ _ _ _ (omega arith) c.in_err-p.ensures ∙ c.loop.invariant.1

pub check_list-returns : goal.check_list-returns
check_list-returns t c = seq_none _ _ _ _ _ _ (omega arith) ∙ c.loop.invariant.1

pub check_stmt-returns-then-self-at : goal.check_stmt-returns-then-self-at
check_stmt-returns-then-self-at t c = stmt_past _ _ _ _ _ c.if-self-at.true

pub check_stmt-returns-then-op-eq32 : goal.check_stmt-returns-then-op-eq32
unfolding stmt_op
check_stmt-returns-then-op-eq32 t c =
    c.check_assign.ensures ∙ stmt_assign _ _ _ _ _ c.if-self-at.false (ap stmt_op c.if-op-eq32.true)

pub check_stmt-returns-then-nest-eq0 : goal.check_stmt-returns-then-nest-eq0
check_stmt-returns-then-nest-eq0 t c =
    stmt_flat _ _ _ _ _ c.if-nest-eq0.true c.if-self-at.false (stmt_second _ c.in-32-to-33.if-op-lt32-own.false c.in-32-to-33.if-op-lt34-own.true c.if-op-eq32.false)

pub check_stmt-check_list-requires : goal.check_stmt-check_list-requires
check_stmt-check_list-requires t c = let g = bool_on _ _ _ _ _ _ c.in_ok-m-in-32-to-33.ensures in omega arith

pub check_stmt-check_list-requires-in-32-to-33 : goal.check_stmt-check_list-requires-in-32-to-33
check_stmt-check_list-requires-in-32-to-33 t c =
    let g = bool_on _ _ _ _ _ _ c.in_ok-m-in-32-to-33.ensures in let h = list_on _ _ _ _ _ _ c.in_ok-p-in-32-to-33.ensures in omega arith

pub check_stmt-returns-in_ok-p-in-32-to-33 : goal.check_stmt-returns-in_ok-p-in-32-to-33
check_stmt-returns-in_ok-p-in-32-to-33 t c =
    if_else_lem _ _ _ _ _ c.if-nest-eq0.false c.if-self-at.false (stmt_second _ c.in-32-to-33.if-op-lt32-own.false c.in-32-to-33.if-op-lt34-own.true
    c.if-op-eq32.false) _ _ _ c.in_ok-m-in-32-to-33.ensures c.in_ok-p-in-32-to-33.ensures c.check_list-in-32-to-33.ensures

pub check_stmt-returns-in_err-p-in-32-to-33 : goal.check_stmt-returns-in_err-p-in-32-to-33
check_stmt-returns-in_err-p-in-32-to-33 t c =
    c.from_residual-in_err-p-in-32-to-33.ensures ∙ if_bad_then _ _ _ _ _ c.if-nest-eq0.false c.if-self-at.false (stmt_second _ c.in-32-to-33.if-op-lt32-own.false
    c.in-32-to-33.if-op-lt34-own.true c.if-op-eq32.false) _ c.in_ok-m-in-32-to-33.ensures c.in_err-p-in-32-to-33.ensures

pub check_stmt-returns-in_err-m-in-32-to-33 : goal.check_stmt-returns-in_err-m-in-32-to-33
check_stmt-returns-in_err-m-in-32-to-33 t c =
    c.from_residual.ensures ∙ if_bad _ _ _ _ _ c.if-nest-eq0.false c.if-self-at.false (stmt_second _ c.in-32-to-33.if-op-lt32-own.false c.in-32-to-33.if-op-lt34-own.true c.if-op-eq32.false) c.in_err-m-in-32-to-33.ensures

pub check_stmt-returns-in_default : goal.check_stmt-returns-in_default
check_stmt-returns-in_default t c = stmt_none _ _ _ _ _ c.if-self-at.false (inl c.in_default.if-op-lt32-own.true)

pub check_stmt-returns-in_default-2 : goal.check_stmt-returns-in_default-2
check_stmt-returns-in_default-2 t c = stmt_none _ _ _ _ _ c.if-self-at.false (inr c.in_default.if-op-lt34-own.false)
