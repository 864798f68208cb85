-- A day that is read has its figures laid; a refusal lays nothing.

use Rattle.cormcushion.proofs.day.put_day.Goals as goal

pub returns-in-Ok : goal.returns-in-Ok
returns-in-Ok c = rw c.in-Ok.is c.figures_of.ensures
