-- Demand 3 of document 01, whole: "one claim about such lists as wholes, not one for each choice". A list's choices are movers' numbers,
-- idle ones included (`AllBelow (length (movers d)) cs`). `Breaking d q k cs`: cs is a list of just k choices that breaks property q; `Breakable d q k`: some
-- list of at most k does. `p` is the number of a property: 0, 1, and 2 for the constraint of a version 2 file (document 02, R-1: "Demand 3 covers it."), and `piece` the bytes
-- that are lent beside the file (document 02, R-4: "Demand 3 covers pieces."). The formula is one of whole numbers: what is said of it holds for every bound and however large n
-- is, also where calls are refused by 19 (document 02, R-2: "demand 3's formula is then the same clauses in whole numbers, which no call writes"). It asks for no right number
-- and no right piece either: where calls are refused by 13 or 8, `property_of` still names some property, and it holds of that one.
use Rattle.std.specs.Prelude.{◌≡◌, ◌↔◌, true, false, List, [], ◌++◌, ℕ, zero, suc, ◌+◌, ◌<◌, ◌≤◌, ℤ, length, take, drop}
use Rattle.design.specs.Tree.{Design, movers}
use Rattle.design.specs.State.{start}
use Rattle.step.specs.Piece.{piece_right}
use Rattle.step.specs.Property.{Property, property_of}
use Rattle.step.specs.OneStep.{breaks_at}
use Rattle.step.specs.Breaking.{AllBelow, Breaking, Breakable}
use Rattle.step.specs.Strict.{idles_from, ThesisRuns, StrictBreaking, StrictBreakable, StrictBreakingStep, Smallest, ReadingsAgree}
use Rattle.clauses.specs.Meaning.{Assignment, satisfies, Satisfiable, Within}
use Rattle.clauses.specs.Formula.{n, formula, choices}
use Rattle.clauses.specs.Words.{words, clauses_of}
use Rattle.design.specs.Answer.{answer}
use Rattle.step.specs.Limits.{last_state_property, last_property, max_bound}
use Rattle.clauses.specs.Limits.{last_variable}
use Rattle.clauses.specs.Encode.{encode}
use Rattle.clauses.specs.Decode.{decode}
use Rattle.clauses.specs.Theorem.{Stored}
use Rattle.search.specs.Search.{turn, Budget, no_budget, Ends}
use Rattle.search.specs.Refutation.{refute}
use Rattle.search.specs.declared.refute.Judged.TheVariants.{Accepted}
use Rattle.verdict.specs.Verdict.{Verdict, VIOLATED, CLEAN, SPENT-AT, Told, Memory, searched, verdict}
use Rattle.verdict.specs.Owners.{Owner, Buffers, owners}
use Rattle.verdict.specs.Isolation.{Owns, result_of}

-- just one satisfying assignment of the formula for bound k decodes to a list: any other gives each of the variables 1..n the same value
pub record JustOne (d : Design) (q : Property) (k : ℕ) (cs : List ℕ) : Type 0 where
  pub assignment : Assignment
  pub satisfying : satisfies assignment (formula d q k) ≡ true
  pub decodes : choices d q assignment k ≡ cs
  pub only : (ρ : Assignment) → satisfies ρ (formula d q k) ≡ true → choices d q ρ k ≡ cs → (v : ℕ) → 0 < v → v ≤ n d q k → ρ v ≡ assignment v

pub record OfFormula (d : Design) (q : Property) (k : ℕ) : Type 0 where
  -- the formula has a satisfying assignment exactly when some list of at most k choices breaks the property
  pub satisfiable : Satisfiable (formula d q k) ↔ Breakable d q k
  -- for every list of just k choices that breaks it, just one satisfying assignment decodes to it
  pub decoded : (cs : List ℕ) → Breaking d q k cs → JustOne d q k cs
  -- and every satisfying assignment decodes to such a list
  pub decodes : (ρ : Assignment) → satisfies ρ (formula d q k) ≡ true → Breaking d q k (choices d q ρ k)
  -- an assignment is one of variables 1..n: the formula names no other
  pub within : Within (n d q k) (formula d q k)
  -- the formula's words, which ENCODE's parts come to where it is not refused, say just these clauses
  pub words : clauses_of (words (formula d q k)) ≡ formula d q k
  -- The search of the formula ends by itself, with the budget given or with none: "Repeat" comes in finitely many turns to the answer, the tries and the
  -- values that `searched` tells, "SPENT exactly when a try beyond the budget would be needed", and never by a count of turns.
  pub ends : (b : Budget) → Ends (n d q k) (formula d q k) b 0 (turn (n d q k) (formula d q k) []) (searched d q b k)

-- DECODE's call: "It decodes to the k choices whose choice j, from 0, is the mover with the one true flag of frame j; DECODE, if not refused, writes them."
-- On values that store a satisfying assignment, with room for k choices, it is not refused. "All else keeps."
abbrev pub Decodes : List ℕ → List ℕ → Design → ℕ → ℕ → Type 0
Decodes file piece d p k = (ρ : Assignment) (values lent : List ℕ) → satisfies ρ (formula d (property_of file piece d p) k) ≡ true → Stored (n d (property_of file piece d p) k) ρ values
    → k ≤ length lent → decode file piece p k values lent ≡ record { answer = answer tt; choices = choices d (property_of file piece d p) ρ k ++ drop k lent }

-- What an ENCODE call that was not refused has written of part i: as many words as it answers, at the front of the buffer that it was lent.
pub record Wrote (file piece : List ℕ) (p k i : ℕ) (ws : List ℤ) : Type 0 where
  pub lent : List ℤ
  pub count : (encode file piece p k i lent).answer ≡ answer (length ws)
  pub written : take (length ws) (encode file piece p k i lent).buffer ≡ ws

-- "ENCODE's joined parts" (document 02, R-7): what such calls have written of parts i, i + 1, .., i + m - 1, one after the other
abbrev pub Joined : List ℕ → List ℕ → ℕ → ℕ → ℕ → ℕ → List ℤ → Type 0
Joined file piece p k zero i ws = ws ≡ []
Joined file piece p k (suc m) i ws = (part : List ℤ) × (rest : List ℤ) × Wrote file piece p k i part × Joined file piece p k m (suc i) rest × (ws ≡ part ++ rest)

-- the words of the formula for a bound
abbrev pub formula_words : Design → Property → ℕ → List ℤ
formula_words d q k = words (formula d q k)

module _ (d : Design) (q : Property) where
  -- "A bound's tries are those the search makes on its formula with no budget set." That search ends (`ends`).
  abbrev pub tries_of : ℕ → ℕ
  tries_of i = (searched d q no_budget i).tries

  -- the tries of bounds 0, 1, .., i - 1
  abbrev pub tries_below : ℕ → ℕ
  tries_below zero = 0
  tries_below (suc i) = tries_below i + tries_of i

  -- no list of fewer than i choices breaks the property
  abbrev pub NoneShorter : ℕ → Type 0
  NoneShorter i = (j : ℕ) → j < i → Breakable d q j → ⊥

  -- some list of i choices breaks it, and no shorter one
  pub record FirstBreak (k i : ℕ) : Type 0 where
    pub within : i ≤ k
    pub some : Breakable d q i
    pub none : NoneShorter i

  -- "for some bound up to its own with no smaller one SAT, the tries of bounds 0 up to that one total more than the budget": of bound i
  pub record Exceeds (k budget i : ℕ) : Type 0 where
    pub within : i ≤ k
    pub none : NoneShorter i
    pub more : budget < tries_below (suc i)

  -- the search needs no try beyond the budget
  abbrev pub Enough : ℕ → ℕ → Type 0
  Enough k budget = (i : ℕ) → Exceeds k budget i → ⊥

  -- what each verdict says
  abbrev pub Says : ℕ → ℕ → Verdict → Type 0
  Says k budget (VIOLATED i) = Enough k budget × FirstBreak k i
  Says k budget CLEAN = Enough k budget × (Breakable d q k → ⊥)
  -- "The first such bound is the one named"
  Says k budget (SPENT-AT i) = Smallest (Exceeds k budget) i

  -- "the tries answered are then the budget; otherwise they are the total over the bounds solved"
  abbrev pub tries_told : ℕ → ℕ → Verdict → ℕ
  tries_told k budget (VIOLATED i) = tries_below (suc i)
  tries_told k budget CLEAN = tries_below (suc k)
  tries_told k budget (SPENT-AT i) = budget

  -- the choices written are i movers' numbers that break the property at step i
  pub record Witness (i : ℕ) (lent left : List ℕ) : Type 0 where
    pub list : List ℕ
    pub written : left ≡ list ++ drop i lent
    pub long : length list ≡ i
    pub movers : AllBelow (length (movers d)) list
    pub breaks : breaks_at d q list i ≡ true

  -- of an answer, and the choices before and after the call
  pub record OfVerdict (k budget : ℕ) (told : Told) (lent left : List ℕ) : Type 0 where
    -- the verdict is SPENT exactly when the search needs a try beyond the budget, else VIOLATED or CLEAN exactly as the runs say
    pub verdict : (v : Verdict) → (told.verdict ≡ v) ↔ Says k budget v
    -- the tries are those the search made
    pub tries : told.tries ≡ tries_told k budget told.verdict
    -- VIOLATED i gives i choices that break at i
    pub witness : (i : ℕ) → told.verdict ≡ VIOLATED i → Witness i lent left

-- What an answer on property 0 or 1 says to readers of the thesis (document 02, R-8), whose runs are strict: of the verdict, and the choices after the call
pub record OfStrictRuns (d : Design) (q : Property) (k : ℕ) (told : Told) (left : List ℕ) : Type 0 where
  -- CLEAN: no strict run of at most k choices breaks the property
  pub clean : told.verdict ≡ CLEAN → StrictBreakable d q k → ⊥
  -- VIOLATED i: step i is the smallest at which a strict run breaks it,
  pub violated : (i : ℕ) → told.verdict ≡ VIOLATED i → Smallest (StrictBreakingStep d q) i
  -- and the i choices written are such a run, and never idle
  pub witness : (i : ℕ) → told.verdict ≡ VIOLATED i → StrictBreaking d q i (take i left) × (idles_from d (start d) (take i left) ≡ false)

-- of a file, a piece, and the file's design; and, of several owners (document 02, R-6), each one whose piece this is
pub record Demand3 (file piece : List ℕ) (d : Design) : Type 0 where
  pub formula : (p k : ℕ) → OfFormula d (property_of file piece d p) k
  -- for every call that is not refused for its property, its piece, its bound or its n: "13 property over 1", with a constraint over 2; "refusal 8" of a piece; "14 bound over 100"; "19
  -- when n exceeds 2^31-1"
  pub decode : (p k : ℕ) → p ≤ last_property file → piece_right file piece p ≡ true → k ≤ max_bound → n d (property_of file piece d p) k ≤ last_variable → Decodes file piece d p k
  pub verdict : (p k budget : ℕ) (lent : Memory) (told : Told) → (verdict file piece p k budget lent).answer ≡ answer told
      → OfVerdict d (property_of file piece d p) k budget told lent.choices (verdict file piece p k budget lent).memory.choices
  -- what VERDICT's answer says, each owner's says: with its own budget, and the choices are its own
  pub owners : (k count : ℕ) (lent : Buffers) (pieces : List (List ℕ)) (budgets : List ℕ) (choices : List (List ℕ)) (i : ℕ) (o : Owner) → Owns i count pieces budgets choices o → o.piece ≡ piece
      → (told : Told) → (result_of i (owners file k lent count pieces budgets choices)).answer ≡ answer told
      → OfVerdict d (property_of file piece d 0) k o.budget told o.choices (result_of i (owners file k lent count pieces budgets choices)).choices
  -- where ENCODE is not refused for what `decode` names, its joined parts are the formula's words: parts 0 to k + 2
  pub joined : (p k : ℕ) → p ≤ last_property file → piece_right file piece p ≡ true → k ≤ max_bound → n d (property_of file piece d p) k ≤ last_variable
      → (list : List ℤ) → Joined file piece p k (k + 3) 0 list ↔ (list ≡ formula_words d (property_of file piece d p) k)
  -- Document 02, R-7: "Over ENCODE's joined parts, acceptance means that no run within the bound breaks the property." What R-7 says of REFUTE on any clause list
  -- is `Right` (search/specs/Refutation).
  pub refuted : (p k : ℕ) (list : List ℤ) → Joined file piece p k (k + 3) 0 list → (variables : ℕ) (refutation : List ℤ) (values : List ℕ)
      → (refute variables list refutation values).reply ≡ answer Accepted → Breakable d (property_of file piece d p) k → ⊥
  -- Document 02, R-8, for property 0 or 1: both readings of an idle step agree on what is broken, and at which step first (step/specs/Strict). Property 2 is left out, as R-8 leaves it out: of it
  -- this is not so (the table has the smallest design that shows it).
  pub readings : (p : ℕ) → p ≤ last_state_property → ReadingsAgree d (property_of file piece d p)
  -- strict runs are the runs of the thesis' formula,
  pub thesis : ThesisRuns d
  -- and what VERDICT's or an owner's answer says (`verdict` and `owners` above), it says of strict runs, too
  pub strict : (p : ℕ) → p ≤ last_state_property → (k budget : ℕ) (told : Told) (lent left : List ℕ) → OfVerdict d (property_of file piece d p) k budget told lent left
      → OfStrictRuns d (property_of file piece d p) k told left
