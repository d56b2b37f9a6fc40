use Rattle.std.proofs.Common.{◌≡◌, ◌+◌, ◌-◌, ◌*◌, length}
use Rattle.clauses.proofs.EmitActions.{Listing}
use Rattle.clauses.proofs.action.+encode_list_encode_stmt.Given as goal

abbrev pub decreases-encode_list : goal.decreases-encode_list
decreases-encode_list l = 2 * (length l.file.now - l.at) + 1

abbrev pub decreases-encode_stmt : goal.decreases-encode_stmt
decreases-encode_stmt l = 2 * (length l.file.now - l.at)

abbrev pub invariant-encode_list-loop : goal.invariant-encode_list-loop
invariant-encode_list-loop l = Listing l.file l.shape l.fn.at l.initial.state l.initial.done.pen.var l.initial.buf l.initial.done.pen.cur (l.end - l.counter) l.done.next l.state l.buf l.done.pen.cur l.done.pen.var × (length l.state ≡ length l.initial.state) × (length l.buf ≡ length l.initial.buf)
