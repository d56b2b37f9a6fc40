use Rattle.design.proofs.source.Source.+check_int.Given as goal

abbrev pub decreases-check_int : goal.decreases-check_int
decreases-check_int l = l.depth
