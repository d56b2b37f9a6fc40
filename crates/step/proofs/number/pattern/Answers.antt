use Rattle.std.proofs.Common.{ap, ◌∙◌, to_z-of_z, w16, of_z}
use Rattle.step.proofs.Signed.{cast_wrap}
use Rattle.step.proofs.number.pattern.Goals as goal

pub returns : goal.returns
returns c = c.cast_unsigned.ensures ∙ ap (of_z w16) (to_z-of_z c.ranges.x) ∙ cast_wrap c.args.x c.ranges.x
