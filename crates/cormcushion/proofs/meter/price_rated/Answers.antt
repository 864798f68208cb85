-- A rate beyond its bound is refused first; else the day is priced.
use mathlib.Core.Path.{sym, ◌∙◌}
use Rattle.cormcushion.proofs.Charging.{refused-rate, charged}
use Rattle.cormcushion.proofs.meter.price_rated.Goals as goal

pub returns-in-Err : goal.returns-in-Err
returns-in-Err c =
    refused-rate (sym c.keep.ensures ∙ c.in-Err.is) c.refused.ensures

pub returns-in-Ok : goal.returns-in-Ok
returns-in-Ok c =
    let is = sym c.keep.ensures ∙ c.in-Ok.is in
    charged is c.price_day.ensures.value c.price_day.ensures.lent_after
