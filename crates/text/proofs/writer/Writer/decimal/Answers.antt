use Rattle.text.proofs.Putting.{decimal_past}
use Rattle.text.proofs.writer.Writer.decimal.Goals as goal

pub returns-clause-near : goal.returns-clause-near
returns-clause-near c =
    decimal_past _ c.digits.ensures.text
