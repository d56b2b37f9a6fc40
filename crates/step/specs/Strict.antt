-- Both readings of an idle step (document 02, R-8): "Readers of the thesis idle only when no mover is enabled: strict runs." The thesis is source 000. In our reading, source 001's, a
-- disabled mover may be named anywhere: "A disabled choice is idle and changes nothing" (document 01). What is proved of strict runs is `ThesisRuns`, and of both readings, for properties 0 and
-- 1, `ReadingsAgree`.
use Rattle.std.specs.Prelude.{◌≡◌, ℕ, ◌<◌, Bool, true, false, not, ◌&&◌, ◌||◌, ◌⊎◌, ◌↔◌, List, [], ◌∷◌, length}
use Rattle.std.proofs.Math.Option.{some}
use Rattle.std.proofs.Math.ListN.{get_elem?}
use Rattle.design.specs.Tree.{Design, Mover, movers}
use Rattle.design.specs.State.{State, Layout, layout, start}
use Rattle.step.specs.Property.{Property}
use Rattle.step.specs.OneStep.{enabled, effect, step, idle, breaks_at}
use Rattle.step.specs.Breaking.{AllBelow, Breaking, Breakable}

-- "the case when no rules could be enabled" (source 000, section 3.3.2): the and of every rule's condition negated. Its rules are our movers, normal cells and external events; its child
-- matrices, and with them the flags of which matrix is called, are out (document 01).
abbrev pub none_enabled : Layout → State → List Mover → Bool
none_enabled l s [] = true
none_enabled l s (m ∷ ms) = not (enabled l s m) && none_enabled l s ms

module _ (d : Design) where
  -- A choice is strict in a state if it does not idle there, or no mover is enabled. Where none is, the step idles whatever number it names (`ThesisRuns`, `idles`).
  unfoldable pub strict_at : State → ℕ → Bool
  strict_at s c = not (idle d s c) || none_enabled (layout d) s (movers d)

  unfoldable pub strict_from : State → List ℕ → Bool
  strict_from s [] = true
  strict_from s (c ∷ cs) = strict_at s c && strict_from (step d s c) cs

  -- a strict run: a list of choices in which a choice idles only where no mover is enabled
  unfoldable pub strict : List ℕ → Bool
  strict cs = strict_from (start d) cs

  -- some choice of a list idles
  unfoldable pub idles_from : State → List ℕ → Bool
  idles_from s [] = false
  idles_from s (c ∷ cs) = idle d s c || idles_from (step d s c) cs

  -- Source 000's step formula, of the configurations s before the step and t after it. Its first two cases: the rule of a flag, "condition and effects formulas" both.
  pub record RuleApplied (flag : ℕ) (s t : State) : Type 0 where
    pub rule : Mover
    pub named : get_elem? (movers d) flag ≡ some rule
    pub condition : enabled (layout d) s rule ≡ true
    pub effects : t ≡ effect (layout d) s rule

  -- The third: "no rules could be enabled .. In this case, we let all variables have their values unchanged." It asks for no flag. Its formula numbers the conditions k-1, which by the letter
  -- is one step too early, since condition[k] reads step k-1 already; the sentence speaks of the depth before the step, and so do we.
  pub record NoRule (s t : State) : Type 0 where
    pub no_condition : none_enabled (layout d) s (movers d) ≡ true
    pub unchanged : t ≡ s

  -- Of the flags of a step at most one is true: source 000 has a formula of its own for that. So a choice's number stands for the step's flag, and one that is no mover's for none.
  abbrev pub ThesisStep : ℕ → State → State → Type 0
  ThesisStep c s t = RuleApplied c s t ⊎ NoRule s t

  -- a run of such steps, one for each choice
  abbrev pub ThesisRun : State → List ℕ → Type 0
  ThesisRun s [] = Unit {0}
  ThesisRun s (c ∷ cs) = (t : State) × ThesisStep c s t × ThesisRun t cs

  -- Strict runs are the runs of source 000's formula.
  pub record ThesisRuns : Type 0 where
    -- with a choice's flag the formula leads from s to t exactly when the choice is strict and leads there,
    pub steps : (s t : State) (c : ℕ) → ThesisStep c s t ↔ ((strict_at s c ≡ true) × (step d s c ≡ t))
    pub runs : (s : State) (cs : List ℕ) → ThesisRun s cs ↔ (strict_from s cs ≡ true)
    -- and no mover is enabled exactly where every number idles
    pub idles : (s : State) → (none_enabled (layout d) s (movers d) ≡ true) ↔ ((c : ℕ) → idle d s c ≡ true)

module _ (d : Design) (q : Property) where
  -- a strict run of just k choices, or of at most k, that breaks the property
  pub record StrictBreaking (k : ℕ) (cs : List ℕ) : Type 0 where
    pub breaking : Breaking d q k cs
    pub strict : strict d cs ≡ true

  pub record StrictBreakable (k : ℕ) : Type 0 where
    pub breakable : Breakable d q k
    pub strict : strict d breakable.list ≡ true

  -- a step at which some run breaks the property, and one at which some strict run does
  pub record BreakingStep (i : ℕ) : Type 0 where
    pub list : List ℕ
    pub movers : AllBelow (length (movers d)) list
    pub breaks : breaks_at d q list i ≡ true

  pub record StrictBreakingStep (i : ℕ) : Type 0 where
    pub breaking : BreakingStep i
    pub strict : strict d breaking.list ≡ true

-- the smallest number of a kind
pub record Smallest (Kind : ℕ → Type 0) (i : ℕ) : Type 0 where
  pub some : Kind i
  pub none : (j : ℕ) → j < i → Kind j → ⊥

-- Of an accepted design, with its property 0 or 1, mark and piece included. Of property 2 it is not so: a constraint can break by an idle step alone, also where some mover is enabled. The
-- table of cases (verdict/specs/Table) has the smallest design that shows it.
pub record ReadingsAgree (d : Design) (q : Property) : Type 0 where
  -- "a strict run of at most that length breaks the property exactly when a run in our reading does"
  pub same : (k : ℕ) → StrictBreakable d q k ↔ Breakable d q k
  -- Source 000's formula for a bound is about runs of just so many steps. It asks the same, since a strict run that is too short can go on, and stays broken.
  pub exactly : (k : ℕ) → ((cs : List ℕ) × StrictBreaking d q k cs) ↔ StrictBreakable d q k
  -- "the smallest breaking step is the same"
  pub smallest : (i : ℕ) → Smallest (StrictBreakingStep d q) i ↔ Smallest (BreakingStep d q) i
  -- "no breaking run of that length idles"
  pub idle_free : (i : ℕ) → Smallest (BreakingStep d q) i → (cs : List ℕ) → Breaking d q i cs → idles_from d (start d) cs ≡ false
