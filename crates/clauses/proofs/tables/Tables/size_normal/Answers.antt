use Rattle.std.proofs.Common.{ℕ, ◌+◌, ap, ap₂, arith}
use Rattle.clauses.specs.declared.cost.GatesAt.{GatesAt}
use Rattle.clauses.proofs.TextGates.{list_few}
use Rattle.clauses.proofs.CellCounts.{sizes, kinds, normal_fields, action_reads, normal_gates}
use Rattle.clauses.proofs.tables.Tables.size_normal.Goals as goal

pub size_place-event-requires : goal.size_place-event-requires
size_place-event-requires c = normal_fields _ _ _ c.args.self.ready _ c.requires

pub size_list-action-requires : goal.size_list-action-requires
size_list-action-requires c = record {
  readable = action_reads _ _ _ c.args.self.ready _ c.requires _ _ (ap (λ (i : ℕ). c.args.p + 8 + i) c.wide.ensures.0) (ap₂ (λ (i j : ℕ).
      c.args.p + 8 + i + j) c.wide.ensures.0 c.word.ensures.0);
  in_bounds = (
    omega (
      arith,
      c.wide.ensures.0,
      c.word.ensures.0,
      (normal_fields _ _ _ c.args.self.ready _ c.requires).past,
    ),
    omega (
      arith,
      c.wide.ensures.0,
      c.word.ensures.0,
      (normal_fields _ _ _ c.args.self.ready _ c.requires).past,
      sizes c.args.self.ready.shaped,
    ),
    kinds c.args.self.ready.shaped,
    c.args.self.ready.shaped.bits.few,
  );
}

pub join-requires-2 : goal.join-requires-2
join-requires-2 c =
    let f = list_few _ _ _ (omega (
      arith,
      c.wide.ensures.0,
      c.word.ensures.0,
      (normal_fields _ _ _ c.args.self.ready _ c.requires).past,
      sizes c.args.self.ready.shaped,
    )) _ c.args.self.ready.shaped.bits.few _ _ _ c.size_list-action.ensures in (
      omega (
        arith,
        f.ands,
        c.size_place-event.ensures.0.ands,
        c.size_guard-guard.ensures.0.ands,
        ap (λ (z : GatesAt). z.ands) c.join.ensures,
      ),
      omega (
        arith,
        f.wides,
        c.args.self.ready.shaped.bits.few,
        c.size_place-event.ensures.0.wides,
        c.size_guard-guard.ensures.0.wides,
        ap (λ (z : GatesAt). z.wides) c.join.ensures,
      ),
    )

pub returns : goal.returns
returns c =
    λ x. normal_gates _ _ _ c.args.self.ready _ x _ _ (ap (λ (i : ℕ). c.args.p + 8 + i) c.wide.ensures.0) (ap₂ (λ (i j : ℕ). c.args.p
    + 8 + i + j) c.wide.ensures.0 c.word.ensures.0) _ _ _ _ _ c.size_place-event.ensures.1 (c.size_guard-guard.ensures.1 x) c.size_list-action.ensures c.join.ensures c.join-2.ensures
