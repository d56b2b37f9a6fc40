-- Whether an entry is right, by the file's bytes; and of the entries that a call takes, their tests and the state that they give.
use Rattle.std.specs.Prelude.{ℕ, ◌+◌, ◌*◌, Bool, true, cond, List, [], ◌∷◌, ◌++◌, take, ◌==◌, nat_le, nat_lt, slice_index}
use Rattle.design.specs.Tree.{Design}
use Rattle.design.specs.State.{State}
use Rattle.design.specs.declared.shape.Shape.{Shape}
use Rattle.step.specs.Interface.{values_right, statuses_right}
use Rattle.step.specs.declared.interface.Entries.{Entries}

-- value i, with its pattern p
abbrev pub value_right : List ℕ → ℕ → ℕ → ℕ → Bool
value_right file nv i p = cond (nat_lt i nv) (cond (slice_index file (3 * i) == 1) true (nat_le p 1)) (p == 0)

-- the status s of matrix m; the matrices stand at `mats`
abbrev pub status_right : List ℕ → ℕ → ℕ → ℕ → ℕ → Bool
status_right file mats nm m s = cond (nat_lt m nm) (nat_lt s (slice_index file (mats + 2 * m))) (s == 0)

-- entries_right and slots_given, by patterns
abbrev pub tests_of : Design → Entries → List Bool
tests_of d e = values_right d.variables e.patterns ++ (statuses_right d.statuses e.statuses ++ (nat_le e.mark 1 ∷ []))

abbrev pub slots_entered : Shape → Entries → State
slots_entered h e = take h.variables e.patterns ++ (take h.matrices e.statuses ++ (e.mark ∷ []))
