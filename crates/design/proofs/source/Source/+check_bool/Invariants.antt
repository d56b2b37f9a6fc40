use Rattle.design.proofs.source.Source.+check_bool.Given as goal

abbrev pub decreases-check_bool : goal.decreases-check_bool
decreases-check_bool l = l.depth
