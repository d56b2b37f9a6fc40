-- What the Replay program prints (document 01, "Programs").
use Rattle.std.specs.Prelude.{Option as Maybe, Some, None, ◌≡◌, refl, Bool, false, cond, List, [], ◌∷◌, ◌++◌, map, ℕ, suc, ◌+◌, leb, pos, length, get_or, take, drop}
use Rattle.std.proofs.Math.Option.{Option, none, some}
use Rattle.design.specs.Limits.{max_bytes}
use Rattle.design.specs.Tree.{Design}
use Rattle.design.specs.State.{State, layout, statuses_in, start}
use Rattle.design.specs.Check.{Checked, refused, accepted, check, checking}
use Rattle.design.specs.Answer.{Answer, answer, on_design}
use Rattle.design.specs.Answer as call
use Rattle.design.specs.DesignA.{bytes_a}
use Rattle.design.specs.Refusal.{Refusal}
use Rattle.step.specs.Piece.{no_piece, piece_right}
use Rattle.step.specs.Property.{Property, property_of}
use Rattle.step.specs.Gate.{gate}
use Rattle.step.specs.Pattern.{signed}
use Rattle.step.specs.OneStep.{step, idle, true_at, stepping}
use Rattle.step.specs.Operations.{first_break, REPLAY}
use Rattle.step.specs.declared.Replayed.{Replayed}
use Rattle.text.specs.Text.{digits, decimal}
use Rattle.text.specs.Line.{spaced, head, tail, line}

module _ (d : Design) (q : Property) where
  -- the line of a state, with the step and the mover that led to it, and the state before: variables as signed numbers, then statuses. The mark (document 02,
  -- R-5) is not shown, but whether the property is true follows it.
  unfoldable pub state_line : ℕ → ℕ → Bool → Option State → State → List ℕ
  state_line i mover idled before s = line i mover idled (true_at d q before s) (take (length d.variables) (map signed s)) (map pos (statuses_in (layout d) s))

  -- the lines after step i: "Every choice is printed, past a break too."
  unfoldable pub next_lines : ℕ → State → List ℕ → List ℕ
  next_lines i s [] = []
  next_lines i s (c ∷ cs) = state_line (suc i) c (idle d s c) (some s) (step d s c) ++ next_lines (suc i) (step d s c) cs

  -- the first state, and the state after each choice; property 2 is about two states, and "traces show true at step 0"
  unfoldable pub state_lines : List ℕ → List ℕ
  state_lines cs = state_line 0 0 false none (start d) ++ next_lines 0 (start d) cs

-- "broken at N", "holds", "refused N at P"; each ends with a newline
unfoldable pub result_text : Maybe ℕ → List ℕ
result_text (Some i) = (98 ∷ 114 ∷ 111 ∷ 107 ∷ 101 ∷ 110 ∷ 32 ∷ 97 ∷ 116 ∷ 32 ∷ []) ++ (decimal i ++ (10 ∷ []))
result_text None = 104 ∷ 111 ∷ 108 ∷ 100 ∷ 115 ∷ 10 ∷ []

abbrev pub refused_at : ℕ → ℕ → Refusal
refused_at number place = record { number = number; place = place }

unfoldable pub refusal_text : Refusal → List ℕ
refusal_text r = (114 ∷ 101 ∷ 102 ∷ 117 ∷ 115 ∷ 101 ∷ 100 ∷ 32 ∷ []) ++ (decimal r.number ++ ((32 ∷ 97 ∷ 116 ∷ 32 ∷ []) ++ (decimal r.place ++ (10 ∷ []))))

-- of a file, by CHECK's answer and REPLAY's: a refusal is printed alone; the program takes no piece
abbrev pub traced : List ℕ → Checked → Answer Replayed → ℕ → List ℕ → List ℕ
traced file (refused number place) r p cs = refusal_text (refused_at number place)
traced file (accepted d) (call.refused number place) p cs = refusal_text (refused_at number place)
traced file (accepted d) (answer told) p cs = state_lines d (property_of file no_piece d p) cs ++ result_text told.broken

unfoldable pub trace : List ℕ → ℕ → List ℕ → List ℕ
trace file p cs = traced file (check file) (REPLAY file no_piece p cs) p cs

-- "Design bytes past the first 16,385 are not read."
abbrev pub max_read : ℕ
max_read = max_bytes + 1

-- "Replay reads property byte, count byte, choices, design."
-- "An input too short for the bytes before the design gives `refused 1 at 0`."
unfoldable pub replay_text : List ℕ → List ℕ
replay_text input =
    let count = get_or input 1 0 in
    cond (leb (2 + count) (length input))
    (trace (take max_read (drop (2 + count) input)) (get_or input 0 0) (take count (drop 2 input)))
    (refusal_text (refused_at 1 0))

-- Document 01's run of Design A, property 0 with 2, 0, 1, a line each: "0 - 0 1 0 0 | 0", "1 2 0 1 1 0 | 0", "2 0 0 1 1 1 | 1", "3 1 0 0 1 2 | 0", "broken at 3"
replay_a : replay_text (0 ∷ 3 ∷ 2 ∷ 0 ∷ 1 ∷ bytes_a) ≡
    48 ∷ 32 ∷ 45 ∷ 32 ∷ 48 ∷ 32 ∷ 49 ∷ 32 ∷ 48 ∷ 32 ∷ 48 ∷ 32 ∷ 124 ∷ 32 ∷ 48 ∷ 10 ∷
    49 ∷ 32 ∷ 50 ∷ 32 ∷ 48 ∷ 32 ∷ 49 ∷ 32 ∷ 49 ∷ 32 ∷ 48 ∷ 32 ∷ 124 ∷ 32 ∷ 48 ∷ 10 ∷
    50 ∷ 32 ∷ 48 ∷ 32 ∷ 48 ∷ 32 ∷ 49 ∷ 32 ∷ 49 ∷ 32 ∷ 49 ∷ 32 ∷ 124 ∷ 32 ∷ 49 ∷ 10 ∷
    51 ∷ 32 ∷ 49 ∷ 32 ∷ 48 ∷ 32 ∷ 48 ∷ 32 ∷ 49 ∷ 32 ∷ 50 ∷ 32 ∷ 124 ∷ 32 ∷ 48 ∷ 10 ∷
    98 ∷ 114 ∷ 111 ∷ 107 ∷ 101 ∷ 110 ∷ 32 ∷ 97 ∷ 116 ∷ 32 ∷ 51 ∷ 10 ∷ []
unfolding replay_text trace state_line next_lines state_lines result_text line head tail spaced digits signed REPLAY piece_right gate on_design first_break stepping checking bytes_a
replay_a = refl
