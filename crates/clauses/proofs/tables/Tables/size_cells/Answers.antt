use Rattle.std.proofs.Common.{arith}
use Rattle.clauses.proofs.CellCounts.{sizes, walking_start, cell_here, sum_few, walking_on, all_counted}
use Rattle.clauses.proofs.tables.Tables.size_cells.Goals as goal

pub trailer_word-end-requires : goal.trailer_word-end-requires
trailer_word-end-requires c = ((sizes c.args.self.ready.shaped).0, omega arith)

pub trailer_word-requires : goal.trailer_word-requires
trailer_word-requires c = ((sizes c.args.self.ready.shaped).0, omega arith)

pub loop-init : goal.loop-init
loop-init c = walking_start _ _ _ _ _ _ (omega (arith, c.trailer_word-end.ensures.0)) c.no_gates-sum.ensures c.trailer_word.ensures.0

pub size_cell-x-requires : goal.size_cell-x-requires
size_cell-x-requires c =
    cell_here _ _ _ c.args.self.ready c.args.self.bytes _ _ _ (omega arith) c.loop.invariant

pub join-sum-requires : goal.join-sum-requires
join-sum-requires c =
    let f = sum_few _ _ _ c.args.self.ready c.args.self.bytes _ _ _ (omega arith) c.loop.invariant _ c.size_cell-x.ensures in (
      omega
          (arith, f.0),
      omega (arith, f.1),
    )

pub loop-preserved : goal.loop-preserved
loop-preserved c =
    walking_on _ _ _ _ _ (omega arith) c.loop.invariant _ c.size_cell-x.ensures.0 c.size_cell-x.ensures.1 _ c.join-sum.ensures _ (omega arith)

pub returns : goal.returns
returns c =
    all_counted _ _ _ c.args.self.ready c.args.self.bytes _ _ _ (omega arith) c.loop.invariant
