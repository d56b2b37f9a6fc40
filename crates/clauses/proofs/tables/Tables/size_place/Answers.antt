use Rattle.std.proofs.Common.{refl, arith}
use Rattle.clauses.proofs.CellCounts.{place_range, place_gates}
use Rattle.clauses.proofs.tables.Tables.size_place.Goals as goal

pub size_event-x-requires : goal.size_event-x-requires
size_event-x-requires c =
    let q = place_range _ _ _ c.args.self.ready _ _ _ c.wide-m.ensures.0 c.wide-e.ensures.0 c.requires in (
      q.0,
      q.1,
    )

pub returns : goal.returns
returns c = (
  record {
    ands = omega (arith, c.size_event-x.ensures.0.ands);
    wides = omega (
      arith,
      c.size_event-x.ensures.0.wides,
    );
  },
  place_gates _ _ _ c.args.self.ready _ _ _ c.wide-m.ensures.0 c.wide-e.ensures.0 _ _ c.size_event-x.ensures.1 refl refl,
)
