use native.Mathlib.Omega.{arith}
use mathlib.Core.Path.{sym, refl}
use Rattle.text.proofs.Parts.{is_encoded, part_refused, part_written}
use Rattle.text.proofs.writer.Writer.part.Goals as goal

pub slice_bounds-words-end : goal.slice_bounds-words-end
slice_bounds-words-end c = (is_encoded _ _ _ _ _ _ _ c.in-Ok.ensures _ refl).room

pub slice_bounds-words-end-in-Ok : goal.slice_bounds-words-end-in-Ok
slice_bounds-words-end-in-Ok c =
    sym (is_encoded _ _ _ _ _ _ _ c.in-Ok.ensures _ refl).size

pub words-requires : goal.words-requires
words-requires c =
    let t = is_encoded _ _ _ _ _ _ _ c.in-Ok.ensures _ refl
    in omega (arith, t.room, t.size)

pub returns-in-Err-clause-text : goal.returns-in-Err-clause-text
returns-in-Err-clause-text c =
    part_refused _ _ _ _ _ _ _ c.in-Err.ensures c.requires.0 _ _ refl c.refused.ensures.text

pub returns-in-Ok-clause-text : goal.returns-in-Ok-clause-text
returns-in-Ok-clause-text c =
    part_written _ _ _ _ _ _ _ c.in-Ok.ensures c.requires.0 _ refl c.words.ensures.text

pub returns-in-Ok-clause-near : goal.returns-in-Ok-clause-near
returns-in-Ok-clause-near c =
    let t = is_encoded _ _ _ _ _ _ _ c.in-Ok.ensures _ refl in omega (arith, c.words.ensures.near, t.room, t.size)
