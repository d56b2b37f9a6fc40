use Rattle.std.proofs.Common.{◌-◌}
use Rattle.step.proofs.evaluate.+eval_int.Given as goal

abbrev pub decreases-eval_int : goal.decreases-eval_int
decreases-eval_int l = l.end - l.at
