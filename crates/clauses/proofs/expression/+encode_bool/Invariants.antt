use Rattle.std.proofs.Common.{◌-◌, length}
use Rattle.clauses.proofs.expression.+encode_bool.Given as goal

abbrev pub decreases-encode_bool : goal.decreases-encode_bool
decreases-encode_bool l = length l.text.now - l.at
