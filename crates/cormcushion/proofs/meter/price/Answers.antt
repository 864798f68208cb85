-- The charge, packed, with the overruns in the lent list where it is not refused.
use mathlib.Core.Path.{refl, sym, ◌∙◌}
use Rattle.cormcushion.proofs.meter.price.Goals as goal

pub returns-in-Err : goal.returns-in-Err
returns-in-Err c =
    let is = sym c.overrun_charge.ensures ∙ c.in-Err.is in
    record { value = rw is c.refused.ensures; lent_after = rw is refl }

pub returns-in-Ok : goal.returns-in-Ok
returns-in-Ok c =
    let is = sym c.overrun_charge.ensures ∙ c.in-Ok.is in
    record { value = rw is c.accepted.ensures; lent_after = rw is c.figures_of.ensures }
