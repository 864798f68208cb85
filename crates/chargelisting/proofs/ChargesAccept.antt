-- At any rate within its bound, the charge of every shipper's greatest overrun is accepted.
use Rattle.std.specs.Prelude.{Ok}
use mathlib.Core.Path.{◌≡◌, refl}
use Prim.Native.Nat.{◌≤◌}
use borrow.Author.Tests.{le-leb}
use Rattle.units.specs.declared.Rate.{Rate}
use Rattle.units.specs.Bound.{most_rate}
use Rattle.units.proofs.Checks.{accepts-both, accepts-kept}
use Rattle.tariff.specs.Charges.{overrun_check}
use Rattle.overruns.specs.declared.day.ShipperDay.{ShipperDay}
use Rattle.overruns.specs.Day.{day_verdict}
use Rattle.overruns.specs.declared.day.ExcusedHours.{ExcusedHours}
use Rattle.overruns.specs.Excused.{excused_day_answer}
use Rattle.overruns.proofs.Promises.{excused-day-kept}

pub charges_accept : (rate : Rate) (D : ShipperDay) (E : ExcusedHours) → rate.0 ≤ most_rate
    → overrun_check rate (day_verdict (excused_day_answer D E)).figures.greatest ≡ Ok tt
unfolding overrun_check
charges_accept rate D E l =
    accepts-both (accepts-both refl (accepts-kept 3 (le-leb _ _ l))) (accepts-kept 3 (le-leb _ _ (excused-day-kept D E refl).chargeable))
