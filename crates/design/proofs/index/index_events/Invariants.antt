use mathlib.Core.Path.{◌≡◌}
use lib.ListN.{length}
use Rattle.design.specs.Check.{matrices_offset, matrix_count}
use Rattle.design.proofs.Tables.{EventsGoing}
use Rattle.design.specs.Limits.{event_places}
use Rattle.design.proofs.index.index_events.Given as goal

abbrev pub invariant-loop-m : goal.invariant-loop-m
invariant-loop-m l = (l.mats ≡ matrices_offset l.file) × (l.nm ≡ matrix_count l.file) × EventsGoing l.file l.p l.m l.table × (length l.table ≡ event_places)
