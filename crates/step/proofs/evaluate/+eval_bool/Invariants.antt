use Rattle.std.proofs.Common.{◌-◌}
use Rattle.step.proofs.evaluate.+eval_bool.Given as goal

abbrev pub decreases-eval_bool : goal.decreases-eval_bool
decreases-eval_bool l = l.end - l.at
