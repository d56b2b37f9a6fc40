-- The code's answers, of what the definitions say.
use Rattle.search.specs.Search.{Answer, SAT, UNSAT, SPENT, Outcome}
use Rattle.search.specs.declared.Answered.{Answered}
use Rattle.search.specs.declared.Answered.TheVariants.{Sat, Unsat, Spent}
use Rattle.search.specs.declared.Solved.{Solved}

-- document 01's SAT, UNSAT and SPENT. What values SAT leaves is said by `values_left`
abbrev pub declared_answer : Answer → Answered
declared_answer (SAT ss) = Sat
declared_answer UNSAT = Unsat
declared_answer SPENT = Spent

abbrev pub declared_solved : Outcome → Solved
declared_solved o = record { answer = declared_answer o.answer; tries = o.tries }
