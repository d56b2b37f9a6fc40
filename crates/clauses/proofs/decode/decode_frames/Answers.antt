use Rattle.std.proofs.Common.{refl}
use Rattle.clauses.proofs.DecodeCall.{short_values, short_choices, frames_fit, bad_frame, good_frames}
use Rattle.clauses.proofs.decode.decode_frames.Goals as goal
use Rattle.clauses.proofs.decode.decode_frames.Goals.{then-values-variables-via-then-values-variables, then-values-variables-via-else-values-variables+then-choices-k}

pub returns-then-values-variables : goal.returns-then-values-variables
returns-then-values-variables c =
    λ d q wf e. elim c.then-values-variables.branch [
      | then-values-variables-via-then-values-variables w ↦ short_values _ _ _ d q wf _ e _ c.variables.ensures.0 w.if-values-variables.true
      | then-values-variables-via-else-values-variables+then-choices-k w ↦ short_choices _ _ _ d q wf _ e _ c.variables.ensures.0 w.if-values-variables.false w.if-choices-k.true
    ]

pub first_bad-requires : goal.first_bad-requires
first_bad-requires c =
    frames_fit c.args.values.now c.args.s c.args.bound _ _ c.variables.ensures.0 c.if-values-variables.false
    c.frame_length-size.ensures.0

pub returns-in-Some : goal.returns-in-Some
returns-in-Some c =
    λ d q wf e. bad_frame _ _ _ d q wf _ e _ c.variables.ensures.0 c.if-values-variables.false c.if-choices-k.false _ _ _ c.frame_length-size.ensures.0 refl refl _ c.in-Some.ensures

pub write_choices-requires : goal.write_choices-requires
write_choices-requires c =
    let h = frames_fit c.args.values.now c.args.s c.args.bound _ _ c.variables.ensures.0
    c.if-values-variables.false c.frame_length-size.ensures.0 in
    (h.0, h.1, c.requires.0.movers, c.if-choices-k.false)

pub returns : goal.returns
returns c =
    λ d q wf e. good_frames _ _ _ d q wf _ e _ c.variables.ensures.0 c.if-values-variables.false c.if-choices-k.false _ _ _
    c.frame_length-size.ensures.0 refl refl c.in_default.ensures _ c.write_choices.ensures
