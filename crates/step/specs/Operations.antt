-- START, STEP, HOLDS and REPLAY: the whole answer of each call (document 01, "Turned-back calls").
use Rattle.std.specs.Prelude.{Option as Maybe, Some, None, ℕ, suc, Bool, cond, ltb, List, [], ◌∷◌, map, length, ℤ, ◌==◌, nat_le, nat_lt}
use Rattle.std.proofs.Math.Option.{Option, none, some}
use Rattle.design.specs.Tree.{Design, movers}
use Rattle.design.specs.State.{State, start}
use Rattle.design.specs.Answer.{Answer, answer, need, on_design}
use Rattle.step.specs.Limits.{last_state_property}
use Rattle.step.specs.Piece.{no_piece}
use Rattle.step.specs.Property.{Property, property_of}
use Rattle.step.specs.OneStep.{step, idle, true_at, holds}
use Rattle.step.specs.StatusEventGuard.{events_read, guards_read}
use Rattle.step.specs.Gate.{gate}
use Rattle.step.specs.Interface.{first_wrong, entries_right, slots_given, entries_of}
use Rattle.step.specs.declared.Started.{Started}
use Rattle.step.specs.declared.Stepped.{Stepped}
use Rattle.step.specs.declared.Replayed.{Replayed}

-- every test of a list holds
abbrev pub all_right : List Bool → Bool
all_right ts = first_wrong ts == length ts

-- START "answers the first state"; "START and STEP return the mark, STEP and HOLDS take it" (document 02, R-5).
unfoldable pub START : List ℕ → Answer Started
START file = on_design file λ d. answer (entries_of d (start d))

-- STEP "answers the next state and whether the choice was idle".
abbrev pub stepped : Started → Bool → Stepped
stepped e i = record { values = e.values; statuses = e.statuses; mark = e.mark; idle = i }

abbrev pub next : Design → State → ℕ → Stepped
next d s choice = stepped (entries_of d (step d s choice)) (idle d s choice)

-- STEP: 11; "12 choice not below w (place 0)". Of the file, the state's values, statuses and mark, and the choice.
unfoldable pub STEP : List ℕ → List ℤ → List ℕ → ℕ → ℕ → Answer Stepped
STEP file values statuses mark choice =
    on_design file λ d.
    need (all_right (entries_right d values statuses mark)) 11 (first_wrong (entries_right d values statuses mark))
    (need (nat_lt choice (length (movers d))) 12 0
    (answer (next d (slots_given d values statuses mark) choice)))

-- HOLDS "(a state and a property: 11; 13) answers whether the property is true there". Property 2 is about two states, and gets 13 here. HOLDS takes no piece (document 02, R-4).
-- Of the file, the values, statuses and mark, and the property.
unfoldable pub HOLDS : List ℕ → List ℤ → List ℕ → ℕ → ℕ → Answer Bool
HOLDS file values statuses mark p =
    on_design file λ d.
    need (all_right (entries_right d values statuses mark)) 11 (first_wrong (entries_right d values statuses mark))
    (need (nat_le p last_state_property) 13 0
    (answer (holds d (property_of file no_piece d p) (slots_given d values statuses mark))))

-- the first step, from step i on, at which the property is false; `before` is the state before step i
module _ (d : Design) (q : Property) where
  unfoldable pub first_break : Option State → State → List ℕ → ℕ → Option ℕ
  first_break before s [] i = cond (true_at d q before s) none (some i)
  first_break before s (c ∷ cs) i = cond (true_at d q before s) (first_break (some s) (step d s c) cs (suc i)) (some i)

abbrev pub choices_right : Design → List ℕ → List Bool
choices_right d cs = map (λ (c : ℕ). ltb c (length (movers d))) cs

-- as the code has it
abbrev pub break_told : Option ℕ → Maybe ℕ
break_told none = None
break_told (some i) = Some i

-- REPLAY "answers the first breaking step, or none", and (document 02, R-3) "two counts more: its choices of normal cells whose status stood (events read) and those of
-- them whose event was true (guards read)": of the run from a state.
abbrev pub run_told : Design → Property → State → List ℕ → Replayed
run_told d q s cs = record { broken = break_told (first_break d q none s cs 0); events = events_read d s cs; guards = guards_read d s cs }

-- REPLAY: "13 property over 1; 14 over 100 choices; 12 (place: first such)." 8, of the piece, is between 13 and 14 (document 02, R-4). Of the file, the piece, the property and the choices.
unfoldable pub REPLAY : List ℕ → List ℕ → ℕ → List ℕ → Answer Replayed
REPLAY file piece p cs =
    gate file piece p (length cs) λ d q.
    need (all_right (choices_right d cs)) 12 (first_wrong (choices_right d cs))
    (answer (run_told d q (start d) cs))
