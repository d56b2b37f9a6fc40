use native.Mathlib.Omega.{arith}
use mathlib.Core.Path.{refl, sym, ◌∙◌}
use Rattle.text.proofs.Parts.{fine_start, fine_on, parts_refused, parts_printed}
use Rattle.text.proofs.listing.printed_parts.Goals as goal

pub loop-i-init : goal.loop-i-init
loop-i-init c = (fine_start _ _ _, refl)

pub shape_of-words-then-refuses : goal.shape_of-words-then-refuses
shape_of-words-then-refuses c = omega (arith, c.loop-i.invariant.1)

pub returns-then-refuses : goal.returns-then-refuses
returns-then-refuses c =
    parts_refused _ _ _ _ _ c.loop-i-test.true (omega (arith, c.loop-i.invariant.1))
    (sym c.if-refuses.true ∙ c.refuses.ensures)

pub loop-i-preserved : goal.loop-i-preserved
loop-i-preserved c = (
  fine_on _ _ _ _ _ c.loop-i.invariant.0 c.loop-i-test.true (omega (arith, c.loop-i.invariant.1)) (sym c.if-refuses.false ∙ c.refuses.ensures),
  omega (arith, c.loop-i.invariant.1),
)

pub shape_of-words : goal.shape_of-words
shape_of-words c = c.loop-i.invariant.1

pub returns : goal.returns
returns c = parts_printed _ _ _ c.loop-i.i c.loop-i.invariant.0 (omega arith)
