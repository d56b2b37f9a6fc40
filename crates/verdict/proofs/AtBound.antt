-- The loop's invariant: what it gives to the calls of a bound, and how it is kept.
use mathlib.Core.Path.{◌≡◌, refl, ap, ◌∙◌}
use mathlib.Core.List.{List, ◌++◌}
use Prim.Native.Nat.{ℕ, ◌+◌, ◌-◌, ◌^◌, ◌<◌, ◌≤◌}
use native.Mathlib.Omega.{arith}
use lib.IntN.{ℤ}
use lib.ListN.{length, take, drop}
use Rattle.design.specs.Tree.{Design}
use Rattle.design.specs.WellFormed.{WellFormed}
use Rattle.design.proofs.WellFormed.{well_formed}
use Rattle.step.specs.Property.{property_of}
use Rattle.clauses.specs.Words.{words}
use Rattle.clauses.specs.Formula.{n, formula}
use Rattle.clauses.specs.Decode.{decode}
use Rattle.clauses.specs.Theorem.{Theorem}
use Rattle.clauses.proofs.Theorem.{theorem_of_file}
use Rattle.clauses.specs.Limits.{last_variable}
use Rattle.search.specs.Memory.{Fresh, outcome, Leaves}
use Rattle.search.specs.declared.Answered.TheVariants.{Sat, Unsat, Spent}
use Rattle.search.specs.declared.Solved.{Solved}
use Rattle.verdict.specs.Verdict.{Memory, verdict}
use Rattle.verdict.specs.Answers.{exit}
use Rattle.clauses.specs.Ready.{Written}
use Rattle.verdict.specs.Loop.{ReadyMemory, Tried, AtBound}
use Rattle.verdict.specs.declared.answer.Verdict.TheVariants.{Violated, Clean, Spent as SpentAt}
use Rattle.verdict.proofs.Calls.{Room, room_for_lem}
use Rattle.clauses.proofs.Within.{n_up}
use Rattle.verdict.proofs.Searching.{fresh_bound, tried}
use Rattle.verdict.proofs.Loop.{judging_start, words_fit, values_fit, trail_fit, tries_fit, judging_next, lengths_kept, ends_sat, ends_spent, ends_clean}
use Rattle.design.specs.Answer.{answer}

module _ {file piece : List ℕ} {p k : ℕ} {lent : Memory} (r : ReadyMemory file piece p k lent) where
  abbrev d : Design
  d = r.design

  wf : WellFormed d
  wf = well_formed file r.bytes d r.accepted

  theorem : (i : ℕ) → Theorem d (property_of file piece d p) i
  theorem = theorem_of_file file piece r.bytes r.piece_bytes d r.accepted p

  room : Room d (property_of file piece d p) k lent
  room = room_for_lem d (property_of file piece d p) k lent r.room

pub standing_start : {file piece : List ℕ} {p k : ℕ} {lent : Memory} (budget : ℕ) → ReadyMemory file piece p k lent → AtBound file piece p k budget lent 0 0 lent.clauses lent.values lent.trail lent.choices
standing_start {file = file} {piece = piece} {p = p} {k = k} {lent = lent} budget r = record { ready = r; judging = judging_start file piece r.design (wf r) p k budget lent (room r); choices_kept = refl }

module _
    {file piece : List ℕ} {p k budget : ℕ} {lent : Memory} {i t : ℕ} {clauses : List ℤ} {values trail choices : List ℕ}
    (s : AtBound file piece p k budget lent i t clauses values trail choices)
  where
    -- the formula for bound i may be written
    pub bound_low : i ≤ k
    bound_low = s.judging.low

    pub bound_numbers : n s.ready.design (property_of file piece s.ready.design p) i ≤ last_variable
    bound_numbers = omega (arith, n_up s.ready.design (property_of file piece s.ready.design p) i k bound_low, s.ready.numbers)

    pub bound_room : length (words (formula s.ready.design (property_of file piece s.ready.design p) i)) ≤ length clauses
    bound_room = words_fit file piece s.ready.design (wf s.ready) p k budget lent (room s.ready) s.judging

    module _ {clauses' : List ℤ} {m v : ℕ} (w : Written s.ready.design (property_of file piece s.ready.design p) i clauses clauses' m v) where
      pub words_in_lem : length clauses' ≡ length clauses → m ≤ length clauses'
      words_in_lem e = omega (arith, bound_room, w.counted)

      pub values_in_lem : v ≤ length values
      values_in_lem = omega (arith, values_fit file piece s.ready.design (wf s.ready) p k budget lent (room s.ready) s.judging, w.numbered)

      pub trail_in : v ≤ length trail
      trail_in = omega (arith, trail_fit file piece s.ready.design (wf s.ready) p k budget lent (room s.ready) s.judging, w.numbered)

      pub search_may : Fresh (take m clauses') (take v values) (take v trail)
      search_may =
          let small : n s.ready.design (property_of file piece s.ready.design p) i < 2 ^ 31 = omega (arith, bound_numbers) in
          fresh_bound s.ready.design (property_of file piece s.ready.design p) k budget lent i t (theorem s.ready i) clauses clauses' values trail m v w.counted w.numbered w.written
          (values_fit file piece s.ready.design (wf s.ready) p k budget lent (room s.ready) s.judging) small
          (trail_fit file piece s.ready.design (wf s.ready) p k budget lent (room s.ready) s.judging)

      module _ {r : Solved} {vs₂ tr₂ : List ℕ} (h : Leaves (outcome (take v values) (take m clauses') (budget - t)) (length (take v values)) r vs₂ tr₂) where
        x : Tried s.ready.design (property_of file piece s.ready.design p) k budget lent i t clauses values trail r clauses' (vs₂ ++ drop v values) (tr₂ ++ drop v trail)
        x =
            tried s.ready.design (property_of file piece s.ready.design p) k budget lent i t (theorem s.ready i) clauses clauses' values trail m v w.counted w.numbered w.written
            (values_fit file piece s.ready.design (wf s.ready) p k budget lent (room s.ready) s.judging) h

        pub tries_in : t + r.tries ≤ budget
        tries_in = tries_fit file piece s.ready.design (wf s.ready) p k budget lent (room s.ready) s.judging x

        pub kept : (length clauses' ≡ length lent.clauses) × (length (vs₂ ++ drop v values) ≡ length lent.values) × (length (tr₂ ++ drop v trail) ≡ length lent.trail)
        kept = lengths_kept file piece s.ready.design (wf s.ready) p k budget lent (room s.ready) s.judging x

        pub standing_next : r.answer ≡ Unsat → (i ≡ k → ⊥) → AtBound file piece p k budget lent (i + 1) (t + r.tries) clauses' (vs₂ ++ drop v values) (tr₂ ++ drop v trail) choices
        standing_next q ne = record { ready = s.ready; choices_kept = s.choices_kept; judging = judging_next file piece s.ready.design (wf s.ready) p k budget lent (room s.ready) s.judging x q ne }

        -- what the call answers and leaves
        pub standing_sat : {choices' : List ℕ} → r.answer ≡ Sat → choices' ≡ (decode file piece p i (vs₂ ++ drop v values) choices).choices
            → record { reply = answer (record { verdict = Violated i; tries = t + r.tries }); memory = record { clauses = clauses'; values = vs₂ ++ drop v values; trail = tr₂ ++ drop v trail; choices = choices' } }
            ≡ exit (verdict file piece p k budget lent)
        standing_sat q c =
            ends_sat file piece s.ready.design (wf s.ready) p k budget lent (room s.ready) s.judging x s.ready.accepted s.ready.property s.ready.right s.ready.bound s.ready.numbers q
            (c ∙ ap (λ (y : List ℕ). (decode file piece p i (vs₂ ++ drop v values) y).choices) s.choices_kept)

        pub standing_spent : r.answer ≡ Spent
            → record { reply = answer (record { verdict = SpentAt i; tries = t + r.tries }); memory = record { clauses = clauses'; values = vs₂ ++ drop v values; trail = tr₂ ++ drop v trail; choices = choices } }
            ≡ exit (verdict file piece p k budget lent)
        standing_spent q =
            rw s.choices_kept
            (ends_spent file piece s.ready.design (wf s.ready) p k budget lent (room s.ready) s.judging x s.ready.accepted s.ready.property s.ready.right s.ready.bound s.ready.numbers q)

        pub standing_clean : r.answer ≡ Unsat → i ≡ k
            → record { reply = answer (record { verdict = Clean; tries = t + r.tries }); memory = record { clauses = clauses'; values = vs₂ ++ drop v values; trail = tr₂ ++ drop v trail; choices = choices } }
            ≡ exit (verdict file piece p k budget lent)
        standing_clean q e =
            rw s.choices_kept
            (ends_clean file piece s.ready.design (wf s.ready) p k budget lent (room s.ready) s.judging x s.ready.accepted s.ready.property s.ready.right s.ready.bound s.ready.numbers q e)
