use native.Mathlib.Omega.{arith}
use Rattle.search.specs.Memory.{value_at}
use Rattle.search.proofs.Rounds.{two_first, two_on}
use Rattle.search.proofs.refute.scan_two.Goals as goal

pub returns-in-Nothing : goal.returns-in-Nothing
returns-in-Nothing c =
    two_on c.requires.0 (value_at c.args.values.now) c.args.from c.scan_after-in-Nothing.result (omega (
      arith,
      c.if-from-here.false,
    )) c.in-Nothing.ensures c.scan_after-in-Nothing.ensures

pub returns-in_default : goal.returns-in_default
returns-in_default c =
    two_first c.requires.0 (value_at c.args.values.now) c.args.from c.scan_from.result c.in_default.not-Nothing c.scan_from.ensures
