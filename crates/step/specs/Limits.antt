-- The limits of the calls with a property and a bound. Those of the design file are in the file reader.
use Rattle.std.specs.Prelude.{ℕ, cond, List}
use Rattle.design.specs.Check.{has_constraint}

-- "13 property over 1": HOLDS takes no other, since it has one state (document 02, R-1: "property 2, which HOLDS refuses by 13")
abbrev pub last_state_property : ℕ
last_state_property = 1

-- of the other calls: "In version 1 property 2 gets refusal 13."
abbrev pub last_property : List ℕ → ℕ
last_property file = cond (has_constraint file) 2 last_state_property

-- "14 bound over 100", and of REPLAY "14 over 100 choices"
abbrev pub max_bound : ℕ
max_bound = 100
