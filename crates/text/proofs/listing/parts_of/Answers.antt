use native.Mathlib.Omega.{arith}
use Rattle.text.proofs.Parts.{text_refused, text_joined}
use Rattle.text.proofs.listing.parts_of.Goals as goal

pub returns-then-input-lt2 : goal.returns-then-input-lt2
returns-then-input-lt2 c = text_refused _ c.if-input-lt2.true

pub returns : goal.returns
returns c =
    text_joined c.args.input.now _ _ _ (omega arith) c.design_end-end.ensures.2 c.printed_parts.ensures
