-- The body, its order, then its schedules.
use mathlib.Core.Path.{◌∙◌}
use mathlib.Core.Bool.{true}
use native.Mathlib.Omega.{arith}
use Rattle.dayruns.proofs.RowReading.{ready-room, unread, row_read}
use Rattle.dayruns.proofs.row.see_row.Goals as goal

pub returns-then-not-is_ready : goal.returns-then-not-is_ready
returns-then-not-is_ready c = unread _ _ _ _ _ _

pub overflow_add-from : goal.overflow_add-from
overflow_add-from c =
    omega (arith, (ready-room _ _ _ _ true _ (c.is_ready.ensures c.if-not-is_ready.false)).0, c.well_formed.1.0.0)

pub read_body-kept-requires : goal.read_body-kept-requires
read_body-kept-requires c = ready-room _ _ _ _ true _ (c.is_ready.ensures c.if-not-is_ready.false)

pub is_next-next-requires : goal.is_next-next-requires
is_next-next-requires c =
    (c.args.field.now.placed.0, omega (arith, (c.is_ready.ensures c.if-not-is_ready.false).1, c.read_body-kept.auto.numbers))

pub is_fed-requires : goal.is_fed-requires
is_fed-requires c = omega (arith, (c.is_ready.ensures c.if-not-is_ready.false).1, c.read_body-kept.auto.numbers)

pub returns : goal.returns
returns c =
    row_read _ _ _ _ _ _ c.args.field.now.placed.0 (c.is_ready.ensures c.if-not-is_ready.false) c.read_body-kept.ensures
    c.is_next-next.ensures c.is_fed.ensures (c.both-2.ensures ∙ rw c.both.ensures)
