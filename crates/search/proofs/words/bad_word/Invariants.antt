use Rattle.search.proofs.BadWords.{Reads}
use Rattle.search.proofs.words.bad_word.Given as goal

abbrev pub invariant-loop-i : goal.invariant-loop-i
invariant-loop-i l = Reads l.n l.words l.i l.begun
