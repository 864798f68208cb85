-- Each case is packed as its own.

use Rattle.cormcushion.proofs.answers.of_listing.Goals as goal

pub returns-in-Err : goal.returns-in-Err
returns-in-Err c = rw c.in-Err.is c.refused.ensures

pub returns-in-Ok : goal.returns-in-Ok
returns-in-Ok c = rw c.in-Ok.is c.accepted.ensures
