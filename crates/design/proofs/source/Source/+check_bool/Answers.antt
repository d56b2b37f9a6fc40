use native.Mathlib.Omega.{arith}
use mathlib.Core.Path.{refl, ap, ◌∙◌}
use mathlib.Core.Logic.{inl, inr}
use Rattle.design.specs.Check.{names_of}
use Rattle.design.specs.Expression.{with_later, bool_op}
use Rattle.design.proofs.Readers.{bool_zero, bool_past, bool_leaf, bool_not, bool_pair, bool_pair_bad, compare_pair, compare_bad, bool_none, bool_illegal, bool_later}
use Rattle.design.proofs.source.Source.+check_bool.Goals as goal

pub returns-then-depth-eq0 : goal.returns-then-depth-eq0
returns-then-depth-eq0 t c = bool_zero _ _ _ _ _ c.if-depth-eq0.true

pub returns-then-self-at : goal.returns-then-self-at
returns-then-self-at t c = bool_past _ _ _ _ _ c.if-self-at.true

pub returns-then-not-later : goal.returns-then-not-later
returns-then-not-later t c =
    bool_illegal _ _ _ _ _ c.if-depth-eq0.false c.if-self-at.false c.in-23.is c.if-not-later.true

pub returns-in-16 : goal.returns-in-16
unfolding bool_op
returns-in-16 t c =
    bool_leaf _ _ _ _ _ c.if-depth-eq0.false c.if-self-at.false _ _ (ap bool_op c.in-16.is) (c.read_boolean_constant.ensures (with_later c.args.later (names_of c.args.self.now.file.now c.args.self.now.shape)))

pub returns-in-17 : goal.returns-in-17
unfolding bool_op
returns-in-17 t c =
    bool_leaf _ _ _ _ _ c.if-depth-eq0.false c.if-self-at.false _ _ (ap bool_op c.in-17.is) c.read_boolean_variable.ensures

pub returns-in-18 : goal.returns-in-18
unfolding bool_op
returns-in-18 t c =
    bool_not _ _ _ _ _ c.if-depth-eq0.false c.if-self-at.false _ (ap bool_op c.in-18.is) c.check_bool.ensures

pub returns-else-not-later : goal.returns-else-not-later
returns-else-not-later t c =
    bool_later _ _ _ _ _ c.if-depth-eq0.false c.if-self-at.false _ c.in-23.is c.if-not-later.false c.read_boolean_variable-in-23.ensures

pub returns-in_ok-m-in-19-to-20 : goal.returns-in_ok-m-in-19-to-20
returns-in_ok-m-in-19-to-20 t c =
    bool_pair _ _ _ _ _ c.if-depth-eq0.false c.if-self-at.false _ _ (omega arith) c.in-19-to-20.if-op-lt21-own.true (c.in_ok-m-in-19-to-20.ensures) c.check_bool-in-19-to-20-2.ensures

pub returns-in_err-m-in-19-to-20 : goal.returns-in_err-m-in-19-to-20
returns-in_err-m-in-19-to-20 t c =
    c.from_residual.ensures ∙ bool_pair_bad _ _ _ _ _ c.if-depth-eq0.false c.if-self-at.false (omega arith) c.in-19-to-20.if-op-lt21-own.true (c.in_err-m-in-19-to-20.ensures)

pub returns-in_ok-m-in-21-to-22 : goal.returns-in_ok-m-in-21-to-22
returns-in_ok-m-in-21-to-22 t c =
    compare_pair _ _ _ _ _ c.if-depth-eq0.false c.if-self-at.false _ _ c.in-21-to-22.if-op-lt21-own.false c.in-21-to-22.if-op-lt23-own.true (c.in_ok-m-in-21-to-22.ensures) c.check_int-in-21-to-22.ensures

pub returns-in_err-m-in-21-to-22 : goal.returns-in_err-m-in-21-to-22
returns-in_err-m-in-21-to-22 t c =
    c.from_residual-in_err-m-in-21-to-22.ensures ∙ compare_bad _ _ _ _ _ c.if-depth-eq0.false c.if-self-at.false c.in-21-to-22.if-op-lt21-own.false c.in-21-to-22.if-op-lt23-own.true
    (c.in_err-m-in-21-to-22.ensures)

pub returns-in_default : goal.returns-in_default
returns-in_default t c =
    bool_leaf _ _ _ _ _ c.if-depth-eq0.false c.if-self-at.false _ _ (bool_none _ (inl c.in_default.if-op-lt16-own.true)) refl

pub returns-in_default-2 : goal.returns-in_default-2
returns-in_default-2 t c =
    bool_leaf _ _ _ _ _ c.if-depth-eq0.false c.if-self-at.false _ _
    (bool_none _ (inr (omega arith))) refl
