-- While each day is accepted the account is the one after the rows gone over; the first refusal ends it.
use Rattle.monthlisting.proofs.Handing.{Handing}
use Rattle.monthlisting.proofs.rows.hand_in.Given as goal

abbrev pub invariant-loop-row : goal.invariant-loop-row
invariant-loop-row l = Handing l.numbers l.row l.account
