use Rattle.std.proofs.Common.{◌≡◌, length, refl, arith, rules}
use Rattle.design.specs.Limits.{max_bits}
use Rattle.clauses.proofs.EmitFormula.{frame_at, property_written, frame_last, frame_more}
use Rattle.clauses.proofs.FrameNumbers.{start_low}
use Rattle.clauses.proofs.tables.Tables.put_frame.Goals as goal

pub frame_start-v-requires : goal.frame_start-v-requires
frame_start-v-requires c =
    let small = c.requires.0.small in (
      small.sizes,
      omega (arith, c.requires.2, small.bound),
      omega (
        arith,
        start_low small _ _ _ c.requires.2
            refl refl,
      ),
    )

pub overflow_add-pen : goal.overflow_add-pen
overflow_add-pen c =
    omega (arith, start_low c.requires.0.small _ _ _ c.requires.2 refl c.frame_start-v.ensures, c.requires.0.small.sizes.bits)

pub put_step-requires : goal.put_step-requires
put_step-requires c = (
  c.requires.0,
  start_low c.requires.0.small _ _ _ c.requires.2 refl c.frame_start-v.ensures,
)

pub returns-then-j-k : goal.returns-then-j-k
returns-then-j-k c =
    λ d ok es. frame_more _ _ _ _ (property_written _ c.args.self.ready c.args.self.bytes c.requires.0 _ _ _ _ c.variables-bits.result c.frame_start-v.ensures
    refl c.requires.2 (let h : length c.variables-bits.result ≡ max_bits = search rules in h) c.variables-bits.ensures d ok es
    refl c.encode_property-x.ensures) c.if-j-k.true (c.put_step.ensures _ d _ ok es c.if-j-k.true (frame_at _ c.args.self.ready c.args.self.bytes c.requires.0 _ _ _ _ c.variables-bits.result c.frame_start-v.ensures refl c.requires.2 (let h : length
    c.variables-bits.result ≡ max_bits = search rules in h) c.variables-bits.ensures d ok es))

pub returns-else-j-k : goal.returns-else-j-k
returns-else-j-k c =
    λ d ok es. frame_last _ _ _ _ (property_written _ c.args.self.ready c.args.self.bytes c.requires.0 _ _ _ _
    c.variables-bits.result c.frame_start-v.ensures refl
    c.requires.2 (let h : length c.variables-bits.result ≡ max_bits = search rules in h) c.variables-bits.ensures d ok es refl c.encode_property-x.ensures) c.if-j-k.false
