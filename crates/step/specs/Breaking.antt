-- Lists of movers' numbers that break a property.
use Rattle.std.specs.Prelude.{◌≡◌, ℕ, ◌<◌, ◌≤◌, true, List, [], ◌∷◌, length}
use Rattle.design.specs.Tree.{Design, movers}
use Rattle.step.specs.Property.{Property}
use Rattle.step.specs.OneStep.{breaks}

-- every choice is a mover's number
abbrev pub AllBelow : ℕ → List ℕ → Type 0
AllBelow w [] = Unit {0}
AllBelow w (c ∷ cs) = (c < w) × AllBelow w cs

-- a list of k choices, each a mover's number, that breaks the property
pub record Breaking (d : Design) (p : Property) (k : ℕ) (cs : List ℕ) : Type 0 where
  pub long : length cs ≡ k
  pub movers : AllBelow (length (movers d)) cs
  pub breaks : breaks d p cs ≡ true

-- a list of at most k choices that breaks the property
pub record Breakable (d : Design) (p : Property) (k : ℕ) : Type 0 where
  pub list : List ℕ
  pub short : length list ≤ k
  pub movers : AllBelow (length (movers d)) list
  pub breaks : breaks d p list ≡ true
