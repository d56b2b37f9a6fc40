use Rattle.std.proofs.Common.{ℕ, ◌+◌, ◌∙◌, ap₂, arith}
use Rattle.clauses.proofs.CellCounts.{none_gates, more_gates, here_fields, here_normal, normal_passed, invalid_passed, normal_counted, invalid_counted}
use Rattle.clauses.proofs.tables.Tables.size_cell.Goals as goal

pub returns-then-invalid : goal.returns-then-invalid
returns-then-invalid c =
    let z = none_gates _ _ c.no_gates-none.ensures in (
      z.2 ∙ ap₂ (λ (i j : ℕ). c.args.p + 8 + i + j) c.wide.ensures.0 c.word.ensures.0,
      normal_passed _ _ _ c.args.self.ready _ c.if-self-p.true _ c.if-invalid.true _ z.0 z.1,
    )

pub size_normal-requires : goal.size_normal-requires
size_normal-requires c =
    here_normal _ _ _ c.args.self.ready _ c.requires c.if-self-p.true

pub join-requires : goal.join-requires
join-requires c =
    let z = none_gates _ _ c.no_gates-none.ensures in (
      omega (arith, z.0, c.size_normal.type_inv),
      omega (
        arith,
        z.1,
        c.size_normal.type_inv,
      ),
    )

pub returns-then-self-p : goal.returns-then-self-p
returns-then-self-p c =
    let z = more_gates c.size_normal.result _ _ _ _ c.no_gates-none.ensures c.join.ensures in (
      z.2
          ∙ ap₂ (λ (i j : ℕ). c.args.p + 8 + i + j) c.wide.ensures.0 c.word.ensures.0,
      normal_counted _ _ _ c.args.self.ready _ c.if-self-p.true _
          c.if-invalid.false _ _ c.size_normal.ensures z.0 z.1,
    )

pub size_place-requires : goal.size_place-requires
size_place-requires c =
    here_fields _ _ _ c.args.self.ready _ c.requires

pub join-requires-then-invalid-2 : goal.join-requires-then-invalid-2
join-requires-then-invalid-2 c =
    let z = none_gates _ _ c.no_gates-none.ensures in (
      omega (arith, z.0, c.size_place.ensures.0.ands),
      omega (
        arith,
        z.1,
        c.size_place.ensures.0.wides,
      ),
    )

pub returns-then-invalid-2 : goal.returns-then-invalid-2
returns-then-invalid-2 c =
    let z = more_gates c.size_place.result _ _ _ _ c.no_gates-none.ensures c.join-then-invalid-2.ensures in (
      z.2
          ∙ ap₂ (λ (i j : ℕ). c.args.p + 8 + i + j) c.wide.ensures.0 c.word.ensures.0,
      invalid_counted _ _ _ c.args.self.ready _ c.if-self-p.false _
          c.if-invalid-2.true _ _ c.size_place.ensures.1 z.0 z.1,
    )

pub returns-else-invalid-2 : goal.returns-else-invalid-2
returns-else-invalid-2 c =
    let z = none_gates _ _ c.no_gates-none.ensures in (
      z.2 ∙ ap₂ (λ (i j : ℕ). c.args.p + 8 + i + j) c.wide.ensures.0 c.word.ensures.0,
      invalid_passed _ _ _ c.args.self.ready _ c.if-self-p.false _ c.if-invalid-2.false _ z.0 z.1,
    )
