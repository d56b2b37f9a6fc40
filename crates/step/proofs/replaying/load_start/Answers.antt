use Rattle.step.proofs.Replays.{loading_inside, loading_on, loading_end}
use Rattle.step.proofs.replaying.load_start.Goals as goal

pub word-requires : goal.word-requires
word-requires c =
    (loading_inside _ c.requires.0 _ _ c.requires.1.variables c.requires.1.matrices c.loop-v.v c.loop-v-test.true).0

pub loop-v-preserved : goal.loop-v-preserved
loop-v-preserved c =
    loading_on _ c.requires.0 _ _ c.requires.1.variables c.requires.1.matrices _ _ _ c.loop-v-test.true c.word.ensures.0 c.loop-v.invariant

pub returns : goal.returns
returns c =
    loading_end _ c.requires.0 _ _ c.requires.1.variables c.requires.1.matrices _ _ c.loop-v-test.false c.loop-v.invariant
