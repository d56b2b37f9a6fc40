use mathlib.Core.Path.{◌≡◌}
use lib.ListN.{length}
use Rattle.text.proofs.Parts.{Fine}
use Rattle.text.proofs.listing.printed_parts.Given as goal

abbrev pub invariant-loop-i : goal.invariant-loop-i
invariant-loop-i l = Fine l.file l.property l.bound l.i × (length l.words ≡ length l.initial.words)
