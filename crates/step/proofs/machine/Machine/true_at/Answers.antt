use Rattle.std.proofs.Common.{sym, ltb-true, ltb-false, ap, ◌∙◌, arith}
use Rattle.design.proofs.Indexed.{sized}
use Rattle.step.specs.Property.{property_of}
use Rattle.step.specs.OneStep.{holds}
use Rattle.step.proofs.Pairs.{part_is, part_long, state_true, first_true_lem, marked_pair, pair_true}
use Rattle.step.proofs.machine.Machine.true_at.Goals as goal

pub slot_count-n-requires : goal.slot_count-n-requires
slot_count-n-requires c =
    let s = sized _ c.args.self.indexed.accepted _ c.args.self.indexed.shaped in (s.0, s.1)

pub returns-then-not-judges_steps : goal.returns-then-not-judges_steps
returns-then-not-judges_steps c =
    λ d w. c.property_true.ensures d w ∙ ap (holds d (property_of c.args.self.file.now c.args.piece.now d c.args.property)) (part_is
    _ _ c.requires.0 _ c.slot_count-n.ensures.0) ∙ state_true _ _ d _ (ltb-false _ _ (sym c.if-not-judges_steps.ensures)) _ _

pub returns-then-first : goal.returns-then-first
returns-then-first c = λ d w. first_true_lem _ _ d _ _ _ (ltb-true _ _ (sym c.if-not-judges_steps.ensures)) _ c.if-first.true

pub is_marked-requires : goal.is_marked-requires
is_marked-requires c =
    let s = sized _ c.args.self.indexed.accepted _ c.args.self.indexed.shaped in (
      s.0,
      s.1,
      omega (
        arith,
        part_long _ c.args.pair.now c.requires.0 _ c.slot_count-n.ensures.0,
      ),
    )

pub returns-then-is_marked : goal.returns-then-is_marked
returns-then-is_marked c =
    λ d w. marked_pair _ _ d _ _ w _ c.args.self.indexed.shaped _ (part_is _ _ c.requires.0 _ c.slot_count-n.ensures.0) _ c.is_marked.ensures c.if-is_marked.true _ (ltb-true _ _ (sym c.if-not-judges_steps.ensures)) _ c.if-first.false

pub returns : goal.returns
returns c =
    λ d w. pair_true _ _ d _ _ w _ c.args.self.indexed.shaped _ (part_is _ _ c.requires.0 _ c.slot_count-n.ensures.0) _ c.is_marked.ensures
    c.if-is_marked.false _ (ltb-true _ _ (sym c.if-not-judges_steps.ensures)) _ c.if-first.false _ (c.constraint_true.ensures d w)
