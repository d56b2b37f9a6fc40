use Rattle.std.proofs.Common.{◌≤◌, ◌<◌, length, refl, arith, length-take-le}
use Rattle.std.proofs.lemmas.List.{get_or-take}
use Rattle.clauses.proofs.EmitFrames.{tied_start, tied_on, tied_end}
use Rattle.clauses.proofs.clause.put_all_ties.Goals as goal

pub loop-first-init : goal.loop-first-init
loop-first-init c = (tied_start _ _ _ _ _ _ _, refl)

pub loop-first-preserved : goal.loop-first-preserved
loop-first-preserved c =
    let few : c.args.all ≤ length c.args.firsts.now = omega (arith, c.requires.0) in
    let h : c.loop-first.first-index < c.args.all = omega (arith, c.loop-first-test.true, length-take-le c.args.all c.args.firsts.now few) in (
      tied_on _ _ _ _ _ _ _ h few c.loop-first.invariant.0 _ c.next-x.ensures (rw (get_or-take c.args.all c.args.firsts.now c.loop-first.first-index 0 h) at c.put_ties-at.ensures),
      omega arith,
    )

pub returns : goal.returns
returns c =
    tied_end _ _ _ _ _ _ _ (omega (arith, c.loop-first-test.false, length-take-le c.args.all c.args.firsts.now (omega (arith, c.requires.0)))) c.loop-first.invariant.0
