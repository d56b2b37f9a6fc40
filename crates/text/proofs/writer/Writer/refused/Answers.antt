use Rattle.text.proofs.Tracing.{refusal_as}
use Rattle.text.proofs.writer.Writer.refused.Goals as goal

pub returns-clause-text : goal.returns-clause-text
returns-clause-text c = refusal_as _ _ _ _ c.number.ensures c.place.ensures c.refusal.ensures.text
