use Rattle.std.proofs.Common.{ℕ, ◌+◌, ap₂, arith}
use Rattle.step.proofs.Cells.{sizes}
use Rattle.step.proofs.Scanning.{scanning_start, scan_fields, scan_room, scan_found, scan_normal, scan_invalid, scanning_end}
use Rattle.step.proofs.machine.Machine.no_invalid.Goals as goal
use Rattle.step.proofs.machine.Machine.no_invalid.Goals.{else-invalid-via-then-invalid+else-status_and_event, else-invalid-via-else-invalid}

pub trailer_word-count-requires : goal.trailer_word-count-requires
trailer_word-count-requires c = omega (arith, sizes _ _ _ c.args.self.indexed)

pub trailer_word-p-requires : goal.trailer_word-p-requires
trailer_word-p-requires c = omega (arith, sizes _ _ _ c.args.self.indexed)

pub loop-init : goal.loop-init
loop-init c = (c.trailer_word-count.ensures.0, scanning_start _ _ _ _ c.trailer_word-p.ensures.0)

pub overflow_add-invalid : goal.overflow_add-invalid
overflow_add-invalid c = omega (arith, scan_room _ _ _ _ c.args.self.indexed _ _ c.loop.invariant.1 (omega arith))

pub bounds-self-p : goal.bounds-self-p
bounds-self-p c = omega (arith, scan_room _ _ _ _ c.args.self.indexed _ _ c.loop.invariant.1 (omega arith))

pub status_and_event-requires : goal.status_and_event-requires
status_and_event-requires c = (c.requires, scan_fields _ _ _ _ c.args.self.indexed _ _ c.loop.invariant.1 (omega arith))

pub returns-then-status_and_event : goal.returns-then-status_and_event
returns-then-status_and_event c =
    scan_found _ _ _ _ c.args.self.indexed _ _ c.loop.invariant.1 (omega arith) c.if-invalid.true _ c.status_and_event.ensures c.if-status_and_event.true

pub overflow_add-p : goal.overflow_add-p
overflow_add-p c = omega (arith, scan_room _ _ _ _ c.args.self.indexed _ _ c.loop.invariant.1 (omega arith))

pub overflow_add-p-in-loop : goal.overflow_add-p-in-loop
overflow_add-p-in-loop c = omega (arith, scan_room _ _ _ _ c.args.self.indexed _ _ c.loop.invariant.1 (omega arith))

pub bounds-self-p-in-loop : goal.bounds-self-p-in-loop
bounds-self-p-in-loop c = omega (arith, scan_room _ _ _ _ c.args.self.indexed _ _ c.loop.invariant.1 (omega arith))

pub overflow_add-p-in-loop-2 : goal.overflow_add-p-in-loop-2
overflow_add-p-in-loop-2 c = omega (arith, c.wide.ensures.1, scan_room _ _ _ _ c.args.self.indexed _ _ c.loop.invariant.1 (omega arith))

pub overflow_add-p-in-loop-3 : goal.overflow_add-p-in-loop-3
overflow_add-p-in-loop-3 c = omega (arith, scan_room _ _ _ _ c.args.self.indexed _ _ c.loop.invariant.1 (omega arith))

pub word-requires : goal.word-requires
word-requires c = omega (arith, scan_room _ _ _ _ c.args.self.indexed _ _ c.loop.invariant.1 (omega arith))

pub overflow_add-p-in-loop-4 : goal.overflow_add-p-in-loop-4
overflow_add-p-in-loop-4 c = omega (arith, c.wide.ensures.1, c.word.ensures.1, scan_room _ _ _ _ c.args.self.indexed _ _ c.loop.invariant.1 (omega arith))

pub loop-preserved : goal.loop-preserved
loop-preserved c =
    let q = ap₂ (λ (x y : ℕ). c.loop.p + 8 + x + y) c.wide.ensures.0 c.word.ensures.0 in (
      c.loop.invariant.0,
      elim c.else-invalid.branch [
        | else-invalid-via-then-invalid+else-status_and_event w ↦ scan_invalid _ _ _ _ c.args.self.indexed _ _ c.loop.invariant.1 (omega arith) w.if-invalid.true _ w.status_and_event.ensures w.if-status_and_event.false _ q
        | else-invalid-via-else-invalid w ↦ scan_normal _ _ _ _ c.args.self.indexed _ _ c.loop.invariant.1 (omega arith) w.if-invalid.false _ q
      ],
    )

pub returns : goal.returns
returns c = scanning_end _ _ _ _ c.args.self.indexed _ _ (omega arith) c.loop.invariant.1
