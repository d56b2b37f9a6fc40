use mathlib.Core.Path.{refl, ◌∙◌}
use native.Mathlib.Omega.{arith}
use Rattle.text.proofs.Parts.{words_start, words_next, words_end}
use Rattle.text.proofs.writer.Writer.words.Goals as goal

pub loop-i-init : goal.loop-i-init
loop-i-init c =
    (words_start _ _ _, omega arith, refl)

pub word-requires : goal.word-requires
word-requires c =
    (omega (arith, c.loop-i.invariant.0.near, c.loop-i.invariant.0.rest.size), c.loop-i-test.true)

pub loop-i-preserved : goal.loop-i-preserved
loop-i-preserved c = (
  words_next c.args.words.now _ c.loop-i-test.true c.loop-i.invariant.0 c.word.ensures.text c.word.ensures.near,
  omega arith,
  c.word.ensures.same ∙ c.loop-i.invariant.2,
)

pub returns : goal.returns
returns c =
    record {
      same = c.loop-i.invariant.2;
      text = words_end c.args.words.now c.loop-i.i (omega arith) c.loop-i.invariant.0;
      near = omega (arith, c.loop-i.invariant.0.near);
    }
