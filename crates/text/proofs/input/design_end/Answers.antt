use native.Mathlib.Omega.{arith}
use mathlib.Core.Path.{refl}
use Prim.Native.Nat.{◌+◌}
use lib.ListN.{length}
use Rattle.text.proofs.Tracing.{read_part}
use Rattle.text.proofs.input.design_end.Goals as goal

pub returns-then-input-start-gt-MAX_READ : goal.returns-then-input-start-gt-MAX_READ
returns-then-input-start-gt-MAX_READ c = (
  omega arith,
  omega arith,
  read_part c.args.input.now c.args.start (c.args.start + 16385) (λ h. absurd (omega
      arith)) (λ h. omega arith),
)

pub returns : goal.returns
returns c = (
  omega arith,
  omega arith,
  read_part c.args.input.now c.args.start (length c.args.input.now) (λ h. refl) (λ h.
      absurd (omega arith)),
)
