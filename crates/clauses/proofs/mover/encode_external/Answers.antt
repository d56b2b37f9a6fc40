use Rattle.std.proofs.Common.{false, [], ◌∷◌, set, refl, ap, ◌∙◌, arith, rules}
use Rattle.clauses.specs.Literal.{Literal, negate}
use Rattle.clauses.specs.FlatState.{slots_of, layout_of}
use Rattle.clauses.proofs.EmitWords.{code_yes}
use Rattle.clauses.proofs.EmitStates.{boolean_room, boolean_set}
use Rattle.clauses.proofs.CellCounts.{sizes, kinds}
use Rattle.clauses.proofs.EmitCells.{few_bits, slotted, muxes_first, external_emits}
use Rattle.clauses.proofs.mover.encode_external.Goals as goal

pub load_flag-requires : goal.load_flag-requires
load_flag-requires c = (
  (slotted c.requires.0 c.args.bits.now (search rules)),
  c.requires.1,
  (λ e. omega
      (arith, e, c.requires.2)),
)

pub offset-o-requires : goal.offset-o-requires
offset-o-requires c =
    omega (arith, kinds c.requires.0, sizes c.requires.0, c.requires.1)

pub offset_bounds-state-o : goal.offset_bounds-state-o
offset_bounds-state-o c =
    omega (
      arith,
      boolean_room c.args.file.now c.args.shape c.args.v c.args.v c.offset-o.result c.args.bits.now refl c.requires.1 c.offset-o.ensures (slotted c.requires.0 c.args.bits.now (search rules)).bits (λ e. omega (
        arith,
        e,
        c.requires.2,
      )),
    )

pub bounds-state-o : goal.bounds-state-o
bounds-state-o c =
    omega (
      arith,
      boolean_room c.args.file.now c.args.shape c.args.v c.args.v c.offset-o.result c.args.bits.now refl c.requires.1 c.offset-o.ensures (slotted c.requires.0 c.args.bits.now (search rules)).bits (λ e. omega (
        arith,
        e,
        c.requires.2,
      )),
    )

pub muxes-x-requires : goal.muxes-x-requires
muxes-x-requires c =
    c.requires.0.bits.few

pub returns : goal.returns
returns c =
    let bits = c.args.bits.now in
    let file = c.args.file.now in
    let shape = c.args.shape in
    let v = c.args.v in
    external_emits (layout_of shape) (slots_of file shape bits) v _ _ (c.negate-e.ensures ∙ ap negate (c.load_flag.ensures false refl)) (boolean_set file shape v v c.offset-o.result bits
    refl c.requires.1 c.offset-o.ensures (slotted c.requires.0 bits (search rules)).bits 2 _ (λ e. omega (
      arith,
      e,
      c.requires.2,
    )) refl ∙ ap (λ (l : Literal). set (slots_of file shape bits) v (l ∷ [])) code_yes)
    (muxes_first file shape _ _ bits (few_bits c.requires.0) (search rules) (search rules)
    (c.muxes-x.ensures file c.requires.0.bits.total))
