-- The entry's kinds, then its order; it has no schedules.
use mathlib.Core.Path.{refl}
use mathlib.Core.Bool.{true}
use native.Mathlib.Omega.{arith}
use Rattle.dayformat.specs.declared.form.Tag.TheVariants.{Entry}
use Rattle.dayrows.specs.Test.{some_idle}
use Rattle.dayruns.proofs.BodyReading.{body-read}
use Rattle.dayruns.proofs.RowReading.{placed_as, ready-room, unread, row_plain}
use Rattle.dayruns.proofs.row.see_entry_row.Goals as goal

pub returns-then-not-is_ready : goal.returns-then-not-is_ready
returns-then-not-is_ready c = unread _ _ _ _ _ _

pub overflow_add-from : goal.overflow_add-from
overflow_add-from c =
    omega (arith, (ready-room _ _ _ _ true _ (c.is_ready.ensures c.if-not-is_ready.false)).0, c.well_formed.1.0.0)

pub read_entry-read-requires : goal.read_entry-read-requires
read_entry-read-requires c = ready-room _ _ _ _ true _ (c.is_ready.ensures c.if-not-is_ready.false)

pub is_next-requires : goal.is_next-requires
is_next-requires c = (
  (placed_as _ _ _ c.requires c.args.field.now.placed).0,
  omega (arith, (c.is_ready.ensures c.if-not-is_ready.false).1, c.read_entry-read.auto.numbers),
)

pub returns : goal.returns
unfolding some_idle
returns c =
    let ready = c.is_ready.ensures c.if-not-is_ready.false in
    row_plain _ _ Entry _ _ _ (placed_as _ _ _ c.requires c.args.field.now.placed).0 ready
    (body-read Entry c.read_entry-read.ensures (ready-room _ _ _ _ true _ ready)) c.is_next.ensures refl c.both.ensures
