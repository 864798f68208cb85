-- The text is counted, then refused or laid.
use Rattle.lines.proofs.Answers.{too_long, fits}
use Rattle.lines.proofs.list.Goals as goal

pub returns-then-room-size : goal.returns-then-room-size
returns-then-room-size g c =
    too_long c.put-size.ensures _ c.plain.ensures c.if-room-size.true

pub returns : goal.returns
returns g c =
    fits c.put-size.ensures c.if-room-size.false c.put.ensures
