-- A number beyond 32 bits is refused; else the row's day is taken in.
use Rattle.monthlisting.proofs.Taking.{beyond, within}
use Rattle.monthlisting.proofs.rows.take_row.Goals as goal

pub returns-then-number : goal.returns-then-number
returns-then-number c = beyond _ _ _ c.plain.ensures c.if-number.true

pub returns : goal.returns
returns c =
    within _ _ _ c.if-number.false c.day_of.ensures c.take_in.ensures
