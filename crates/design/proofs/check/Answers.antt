use native.Mathlib.Omega.{arith}
use mathlib.Core.Path.{refl}
use Rattle.design.proofs.Told.{turned_on}
use lib.ListN.{length}
use Rattle.design.proofs.File.{length_low, tail_room, tail_fits, whole_length, whole_tail, whole_version, whole_counts, whole_stopped, whole_movers, whole_accepted}
use Rattle.design.proofs.check.Goals as goal

pub returns-then-not-length_right : goal.returns-then-not-length_right
returns-then-not-length_right c =
    whole_length c.args.file.now _ c.length_right.ensures c.if-not-length_right.true

pub overflow_sub-trailer : goal.overflow_sub-trailer
overflow_sub-trailer c =
    omega (arith, length_low _ (length c.args.file.now) c.length_right.ensures c.if-not-length_right.false)

pub word-version-requires : goal.word-version-requires
word-version-requires c =
    omega (arith, length_low _ (length c.args.file.now) c.length_right.ensures c.if-not-length_right.false)

pub returns-then-len-tail_bytes : goal.returns-then-len-tail_bytes
returns-then-len-tail_bytes c =
    whole_tail c.args.file.now _ c.length_right.ensures c.if-not-length_right.false _ c.word-version.ensures.0 _
    c.tail_bytes.ensures c.if-len-tail_bytes.true

pub returns-then-not-version_right : goal.returns-then-not-version_right
returns-then-not-version_right c =
    whole_version c.args.file.now _ c.length_right.ensures
    c.if-not-length_right.false _ c.word-version.ensures.0 _
    c.tail_bytes.ensures c.if-len-tail_bytes.false _ c.version_right.ensures
    c.if-not-version_right.true

pub trailer_counts-counts-requires : goal.trailer_counts-counts-requires
trailer_counts-counts-requires c =
    length_low _ (length c.args.file.now) c.length_right.ensures c.if-not-length_right.false

pub returns-then-not-counts_right : goal.returns-then-not-counts_right
returns-then-not-counts_right c =
    whole_counts c.args.file.now _ c.length_right.ensures c.if-not-length_right.false _
    c.word-version.ensures.0 _ c.tail_bytes.ensures c.if-len-tail_bytes.false _ c.version_right.ensures c.if-not-version_right.false _
    c.trailer_counts-counts.ensures.0 _ c.counts_right.ensures c.if-not-counts_right.true

pub items_end-requires : goal.items_end-requires
items_end-requires c =
    tail_fits c.args.file.now _ _ c.word-version.ensures.0 c.tail_bytes.ensures c.if-len-tail_bytes.false

pub trailer_offsets-requires : goal.trailer_offsets-requires
trailer_offsets-requires c =
    tail_fits c.args.file.now _ _ c.word-version.ensures.0 c.tail_bytes.ensures c.if-len-tail_bytes.false

pub check_sections-requires : goal.check_sections-requires
check_sections-requires c = (
  tail_room c.args.file.now (tail_fits c.args.file.now _ _ c.word-version.ensures.0 c.tail_bytes.ensures c.if-len-tail_bytes.false) _ c.items_end.ensures,
  c.trailer_counts-counts.ensures.1,
)

pub returns-then-movers_right : goal.returns-then-movers_right
returns-then-movers_right c =
    whole_accepted c.args.file.now _ c.length_right.ensures c.if-not-length_right.false _
    c.word-version.ensures.0 _ c.tail_bytes.ensures c.if-len-tail_bytes.false _ c.version_right.ensures c.if-not-version_right.false _
    c.trailer_counts-counts.ensures.0 _ c.counts_right.ensures c.if-not-counts_right.false _ c.items_end.ensures _ c.trailer_offsets.ensures _ _ _
    c.in_ok-movers.ensures refl _ c.movers_right.ensures c.if-movers_right.true

pub returns-else-movers_right : goal.returns-else-movers_right
returns-else-movers_right c =
    whole_movers c.args.file.now _ c.length_right.ensures c.if-not-length_right.false _ c.word-version.ensures.0
    _ c.tail_bytes.ensures c.if-len-tail_bytes.false _ c.version_right.ensures c.if-not-version_right.false _ c.trailer_counts-counts.ensures.0 _
    c.counts_right.ensures c.if-not-counts_right.false _ c.items_end.ensures _ c.trailer_offsets.ensures _ _ _ c.in_ok-movers.ensures refl _ c.movers_right.ensures c.if-movers_right.false

pub returns-in_err-movers : goal.returns-in_err-movers
returns-in_err-movers c =
    turned_on _ _ c.from_residual.ensures.1 _ (whole_stopped c.args.file.now _ c.length_right.ensures c.if-not-length_right.false _ c.word-version.ensures.0 _
    c.tail_bytes.ensures c.if-len-tail_bytes.false _ c.version_right.ensures c.if-not-version_right.false _ c.trailer_counts-counts.ensures.0 _
    c.counts_right.ensures c.if-not-counts_right.false _ c.items_end.ensures _ c.trailer_offsets.ensures _ _ _ c.in_err-movers.ensures refl)
