use Rattle.clauses.proofs.circuit.+product.Given as goal

abbrev pub decreases-product : goal.decreases-product
decreases-product l = l.left
