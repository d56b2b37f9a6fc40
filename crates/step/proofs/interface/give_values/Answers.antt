use Rattle.std.proofs.Common.{◌≡◌, ℕ, ◌-◌, ◌++◌, map, take, replicate, pos, ap, ◌∙◌, arith}
use Rattle.step.specs.Pattern.{signed}
use Rattle.step.proofs.Signed.{stored}
use Rattle.step.proofs.Entries.{copying_mapped, copied}
use Rattle.design.specs.Limits.{max_variables}
use Rattle.step.proofs.interface.give_values.Goals as goal

pub loop-i-preserved : goal.loop-i-preserved
loop-i-preserved c =
    copying_mapped max_variables signed (pos 0) 0 c.args.slots.now c.loop-i.i c.loop-i.out _ (omega arith) (omega arith) (stored _ _ (omega (
      arith,
      c.type_inv.slots c.loop-i.i,
    )) c.integer.ensures) c.loop-i.invariant

pub returns : goal.returns
returns c =
    copied max_variables _ (pos 0) (map signed c.args.slots.now) _ (omega arith) c.loop-i.invariant ∙ ap (λ (k : ℕ). take k (map
    signed c.args.slots.now) ++ replicate (max_variables - k) (pos 0)) (let z : c.loop-i.i ≡ c.args.n = omega arith in z)
