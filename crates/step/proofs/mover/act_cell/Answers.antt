use Rattle.std.proofs.Common.{ℕ, ◌+◌, ap, ap₂, arith}
use Rattle.design.proofs.Indexed.{normal_fields}
use Rattle.step.proofs.Cells.{sizes, kinds, action_reads, acted}
use Rattle.step.proofs.mover.act_cell.Goals as goal

pub invariant_of-source : goal.invariant_of-source
invariant_of-source c = record {
  inside = omega (
    arith,
    c.wide.ensures.0,
    c.word.ensures.0,
    (normal_fields _ _ _ c.requires.0.1.indexed _ c.requires.1).past,
    sizes _ _ _ c.requires.0.1.indexed,
  );
  kinds = kinds _ _ _ c.requires.0.1.indexed;
}

pub run_list-requires : goal.run_list-requires
run_list-requires c = (
  action_reads _ _ _ c.requires.0.1.indexed _ c.requires.1 _ _ (ap (λ (k : ℕ). c.args.p + 8 + k) c.wide.ensures.0) (ap₂ (λ
      (k j : ℕ). c.args.p + 8 + k + j) c.wide.ensures.0 c.word.ensures.0),
  omega (arith, c.requires.0.1.size),
)

pub returns : goal.returns
returns c =
    λ x. acted _ _ _ c.requires.0.1.indexed _ _ x _ _ (ap (λ (k : ℕ). c.args.p + 8 + k) c.wide.ensures.0) (ap₂ (λ (k j : ℕ). c.args.p +
    8 + k + j) c.wide.ensures.0 c.word.ensures.0) _ c.run_list.ensures.0 _ _ c.wide-m.ensures.0 c.from.ensures
