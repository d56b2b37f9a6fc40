use Rattle.std.proofs.Common.{◌-◌}
use Rattle.clauses.proofs.cost.+size_bool.Given as goal

abbrev pub decreases-size_bool : goal.decreases-size_bool
decreases-size_bool l = l.end - l.at
