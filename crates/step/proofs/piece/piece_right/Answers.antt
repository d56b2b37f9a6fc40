use Rattle.std.proofs.Common.{ap, ◌∙◌, arith}
use Rattle.design.specs.Answers.{shape_of}
use Rattle.design.proofs.Places.{read}
use Rattle.design.proofs.Indexed.{variables_inside}
use Rattle.step.proofs.Pieces.{piece_unread, piece_empty, piece_long, piece_found}
use Rattle.design.specs.declared.shape.Shape.{Shape}
use Rattle.step.proofs.piece.piece_right.Goals as goal

pub returns-then-property-gt0 : goal.returns-then-property-gt0
returns-then-property-gt0 c = piece_unread _ _ _ c.if-property-gt0.true

pub returns-then-len-eq0 : goal.returns-then-len-eq0
returns-then-len-eq0 c = piece_empty _ _ _ c.if-len-eq0.true

pub returns-then-len-gt-MAX_BYTES : goal.returns-then-len-gt-MAX_BYTES
returns-then-len-gt-MAX_BYTES c = piece_long _ _ _ c.if-property-gt0.false c.if-len-eq0.false c.if-len-gt-MAX_BYTES.true

pub trailer_counts-requires : goal.trailer_counts-requires
trailer_counts-requires c = (read _ c.requires).all.long

pub invariant_of-source : goal.invariant_of-source
invariant_of-source c = record {
  inside = omega arith;
  kinds = (let v = variables_inside _ c.requires in let e = ap (λ (x : Shape). x.variables)
      (c.shape_of-shape.ensures ∙ ap shape_of c.trailer_counts.ensures.0) in omega arith);
}

pub returns : goal.returns
returns c =
    c.eq.ensures ∙ piece_found _ _ _ c.if-property-gt0.false c.if-len-eq0.false c.if-len-gt-MAX_BYTES.false _
    (c.shape_of-shape.ensures ∙ ap shape_of c.trailer_counts.ensures.0) _ c.check_bool.ensures
