-- A refusal is packed; overruns are priced.
use mathlib.Core.Path.{refl}
use Rattle.cormcushion.proofs.meter.price_day.Goals as goal

pub returns-in-Err : goal.returns-in-Err
returns-in-Err c =
    let is = c.in-Err.is in
    record { value = rw is c.refused.ensures; lent_after = rw is refl }

pub returns-in-Ok : goal.returns-in-Ok
returns-in-Ok c =
    let is = c.in-Ok.is in
    record { value = rw is c.price.ensures.value; lent_after = rw is c.price.ensures.lent_after }
