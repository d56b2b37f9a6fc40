-- What the entries of START, STEP, HOLDS and REPLAY return and leave: the code, and the lent arrays, which a refusal does not change.
use Rattle.std.specs.Prelude.{Option, Some, None, Bool, List, [], ◌∷◌, ℕ, ℤ, get_or}
use Rattle.design.specs.Answer.{Answer, refused, answer}
use Rattle.design.specs.Tree.{bit}
use Rattle.step.specs.Operations.{START, STEP, HOLDS, REPLAY}
use Rattle.step.specs.declared.Started.{Started}
use Rattle.step.specs.declared.Stepped.{Stepped}
use Rattle.step.specs.declared.Replayed.{Replayed}
use Rattle.entries.specs.Code.{code, code_told, written}

-- START writes the first state; the mark (document 02, R-5) is an array of one
pub record StartReturn : Type 0 where
  pub code : ℕ
  pub values : List ℤ
  pub statuses : List ℕ
  pub mark : List ℕ

abbrev pub start_return : List ℤ → List ℕ → List ℕ → Answer Started → StartReturn
start_return values statuses mark (refused number place) = record { code = code number place; values = values; statuses = statuses; mark = mark }
start_return values statuses mark (answer r) = record { code = 0; values = r.values; statuses = r.statuses; mark = r.mark ∷ [] }

unfoldable pub start_entry : List ℕ → List ℤ → List ℕ → List ℕ → StartReturn
start_entry file values statuses mark = start_return values statuses mark (START file)

-- STEP replaces the state, and tells whether the choice was idle
pub record StepReturn : Type 0 where
  pub code : ℕ
  pub values : List ℤ
  pub statuses : List ℕ
  pub mark : List ℕ
  pub idle : List ℕ

abbrev pub step_return : List ℤ → List ℕ → List ℕ → List ℕ → Answer Stepped → StepReturn
step_return values statuses mark idle (refused number place) =
    record { code = code number place; values = values; statuses = statuses; mark = mark; idle = idle }
step_return values statuses mark idle (answer r) =
    record { code = 0; values = r.values; statuses = r.statuses; mark = r.mark ∷ []; idle = bit r.idle ∷ [] }

unfoldable pub step_entry : List ℕ → List ℤ → List ℕ → List ℕ → ℕ → List ℕ → StepReturn
step_entry file values statuses mark choice idle = step_return values statuses mark idle (STEP file values statuses (get_or mark 0 0) choice)

-- HOLDS tells whether the property is true; it takes the mark as a number
pub record HoldsReturn : Type 0 where
  pub code : ℕ
  pub holds : List ℕ

abbrev pub holds_return : List ℕ → Answer Bool → HoldsReturn
holds_return holds reply = record { code = code_told reply; holds = written (λ (b : Bool). bit b ∷ []) reply holds }

unfoldable pub holds_entry : List ℕ → List ℤ → List ℕ → ℕ → ℕ → List ℕ → HoldsReturn
holds_entry file values statuses mark p holds = holds_return holds (HOLDS file values statuses mark p)

-- REPLAY tells 1 and the first breaking step, or 0 and 0; then the events read and the guards read
pub record ReplayReturn : Type 0 where
  pub code : ℕ
  pub answer : List ℕ

abbrev pub broken_words : Option ℕ → List ℕ → List ℕ
broken_words (Some i) rest = 1 ∷ i ∷ rest
broken_words None rest = 0 ∷ 0 ∷ rest

abbrev pub replay_words : Replayed → List ℕ
replay_words r = broken_words r.broken (r.events ∷ r.guards ∷ [])

abbrev pub replay_return : List ℕ → Answer Replayed → ReplayReturn
replay_return old reply = record { code = code_told reply; answer = written replay_words reply old }

unfoldable pub replay_entry : List ℕ → List ℕ → ℕ → List ℕ → List ℕ → ReplayReturn
replay_entry file piece p choices old = replay_return old (REPLAY file piece p choices)
