-- Each case is packed as its own; a day has so many numbers as its counts say.

use Rattle.cormcushion.proofs.answers.of_reading.Goals as goal

pub returns-in-Err : goal.returns-in-Err
returns-in-Err c = rw c.in-Err.is c.refused.ensures

pub returns-in-Ok : goal.returns-in-Ok
returns-in-Ok c =
    rw c.in-Ok.is (rw c.numbers_of.ensures.0 at c.accepted.ensures)
