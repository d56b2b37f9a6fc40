use native.Mathlib.Omega.{arith}
use mathlib.Core.Path.{refl, ap, ◌∙◌}
use mathlib.Core.Logic.{inl, inr}
use Rattle.design.specs.Check.{names_of}
use Rattle.design.specs.Expression.{with_later, int_op}
use Rattle.design.proofs.Readers.{int_zero, int_past, int_leaf, int_pair, int_pair_bad, int_product, int_product_bad, int_none, int_illegal, int_later, status_later}
use Rattle.design.proofs.source.Source.+check_int.Goals as goal

pub returns-then-depth-eq0 : goal.returns-then-depth-eq0
returns-then-depth-eq0 t c = int_zero _ _ _ _ _ c.if-depth-eq0.true

pub returns-then-self-at : goal.returns-then-self-at
returns-then-self-at t c = int_past _ _ _ _ _ c.if-self-at.true

pub returns-then-not-later : goal.returns-then-not-later
returns-then-not-later t c =
    int_illegal _ _ _ _ _ c.if-depth-eq0.false c.if-self-at.false c.in-6-to-7.if-op-lt6-own.false c.in-6-to-7.if-op-lt8-own.true c.if-not-later.true

pub returns-in-1 : goal.returns-in-1
unfolding int_op
returns-in-1 t c =
    int_leaf _ _ _ _ _ c.if-depth-eq0.false c.if-self-at.false _ _ (ap int_op c.in-1.is) (c.read_integer_constant.ensures c.args.self.now.text.now (with_later c.args.later (names_of c.args.self.now.file.now c.args.self.now.shape)))

pub returns-in-2 : goal.returns-in-2
unfolding int_op
returns-in-2 t c =
    int_leaf _ _ _ _ _ c.if-depth-eq0.false c.if-self-at.false _ _ (ap int_op c.in-2.is) c.read_integer_variable.ensures

pub returns-in-3 : goal.returns-in-3
unfolding int_op
returns-in-3 t c =
    int_leaf _ _ _ _ _ c.if-depth-eq0.false c.if-self-at.false _ _ (ap int_op c.in-3.is) (c.read_status.ensures c.args.self.now.file.now)

pub returns-in_ok-m-in-8 : goal.returns-in_ok-m-in-8
returns-in_ok-m-in-8 t c =
    int_product _ _ _ _ _ c.if-depth-eq0.false c.if-self-at.false _ _ c.in-8.is (c.in_ok-m-in-8.ensures
    c.args.self.now.text.now (with_later c.args.later (names_of c.args.self.now.file.now c.args.self.now.shape))) c.check_int.ensures

pub returns-in_err-m-in-8 : goal.returns-in_err-m-in-8
returns-in_err-m-in-8 t c =
    c.from_residual.ensures ∙ int_product_bad _ _ _ _ _ c.if-depth-eq0.false c.if-self-at.false c.in-8.is (c.in_err-m-in-8.ensures c.args.self.now.text.now (with_later c.args.later (names_of c.args.self.now.file.now c.args.self.now.shape)))

pub returns-in_ok-m-in-4-to-5 : goal.returns-in_ok-m-in-4-to-5
returns-in_ok-m-in-4-to-5 t c =
    int_pair _ _ _ _ _ c.if-depth-eq0.false c.if-self-at.false _ _ (omega arith) c.in-4-to-5.if-op-lt6-own.true (c.in_ok-m-in-4-to-5.ensures) c.check_int-in-4-to-5-2.ensures

pub returns-in_err-m-in-4-to-5 : goal.returns-in_err-m-in-4-to-5
returns-in_err-m-in-4-to-5 t c =
    c.from_residual-in_err-m-in-4-to-5.ensures ∙ int_pair_bad _ _ _ _ _ c.if-depth-eq0.false c.if-self-at.false (omega arith) c.in-4-to-5.if-op-lt6-own.true (c.in_err-m-in-4-to-5.ensures)

pub returns-then-op-eq6 : goal.returns-then-op-eq6
returns-then-op-eq6 t c =
    int_later _ _ _ _ _ c.if-depth-eq0.false c.if-self-at.false _ c.if-op-eq6.true c.if-not-later.false c.read_integer_variable-then-op-eq6.ensures

pub returns-else-op-eq6 : goal.returns-else-op-eq6
returns-else-op-eq6 t c =
    status_later _ _ _ _ _ c.if-depth-eq0.false c.if-self-at.false _ c.in-6-to-7.if-op-lt6-own.false c.in-6-to-7.if-op-lt8-own.true c.if-op-eq6.false c.if-not-later.false (c.read_status-else-op-eq6.ensures c.args.self.now.file.now)

pub returns-in_default : goal.returns-in_default
returns-in_default t c =
    int_leaf _ _ _ _ _ c.if-depth-eq0.false c.if-self-at.false _ _ (int_none _ (inl c.in_default.if-op-lt1-own.true)) refl

pub returns-in_default-2 : goal.returns-in_default-2
returns-in_default-2 t c =
    int_leaf _ _ _ _ _ c.if-depth-eq0.false c.if-self-at.false _ _ (int_none
    _ (inr (omega arith))) refl
