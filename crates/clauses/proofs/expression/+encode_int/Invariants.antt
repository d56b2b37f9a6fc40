use Rattle.std.proofs.Common.{◌-◌, length}
use Rattle.clauses.proofs.expression.+encode_int.Given as goal

abbrev pub decreases-encode_int : goal.decreases-encode_int
decreases-encode_int l = length l.text.now - l.at
