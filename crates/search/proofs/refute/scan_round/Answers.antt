use borrow.Author.Rules.{rules}
use Rattle.search.specs.Memory.{value_at}
use Rattle.search.proofs.Rounds.{round_some}
use Rattle.search.proofs.refute.scan_round.Goals as goal

pub returns-in_default-2 : goal.returns-in_default-2
returns-in_default-2 c =
    round_some c.requires.0 (value_at c.args.values.now) c.args.from c.scan_two.result c.requires.1 (search rules) c.scan_two.ensures
