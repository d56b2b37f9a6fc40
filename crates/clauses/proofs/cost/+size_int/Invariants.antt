use Rattle.std.proofs.Common.{◌-◌}
use Rattle.clauses.proofs.cost.+size_int.Given as goal

abbrev pub decreases-size_int : goal.decreases-size_int
decreases-size_int l = l.end - l.at
