-- One shipper's metered day as numbers, its overruns and their charge.
use Rattle.std.specs.Prelude.{◌≡◌, List, [], ◌∷◌, ℕ, ◌+◌, leb, Result, Ok, Err}
use Rattle.columns.specs.Column.{col, listed}
use Rattle.units.specs.declared.Megajoules.{Megajoules}
use Rattle.units.specs.declared.Rate.{Rate}
use Rattle.units.specs.Bound.{most_rate}
use Rattle.units.specs.Refusals.{◌then◌, keep, accepted_or, Check}
use Rattle.tariff.specs.Charges.{overrun_cents, overrun_charge}
use Rattle.metered.specs.declared.Side.{Side}
use Rattle.overruns.specs.declared.day.Overruns.{Overruns}
use Rattle.overruns.specs.declared.day.ShipperDay.{ShipperDay}
use Rattle.overruns.specs.Day.{day_overruns, day_check, day_answer}
use Rattle.overruns.specs.declared.day.ExcusedHours.{ExcusedHours}
use Rattle.overruns.specs.Excused.{excused_day_overruns, excused_day_check, excused_day_answer}
use Rattle.daymeters.specs.Hours.{megajoules}
use Rattle.cormcushion.specs.Packed.{accepted, refused}
use Rattle.units.specs.declared.Cents.{Cents}
use Rattle.units.specs.declared.refusal.Refusal.{Refusal}

-- a side's single figures: schedules of both sides, forward then backhaul, and the backhaul metered
abbrev pub side_of : List ℕ → List ℕ → ℕ → Side
side_of schedules metered side = record {
  forward = record { 0 = col schedules side };
  backhaul = record { 0 = col schedules (2 + side) };
  metered = record { 0 = col metered side };
}

-- the first so many hours of a list
abbrev pub hours_of : ℕ → List ℕ → List Megajoules
hours_of many figures = megajoules (listed many (col figures))

abbrev pub shipper_day : ℕ → ℕ → List ℕ → List ℕ → List ℕ → List ℕ → List ℕ → ShipperDay
shipper_day p m yesterday delivered received schedules metered = record {
  p = record { 0 = p };
  m = record { 0 = m };
  yesterday = hours_of 11 yesterday;
  hours = hours_of 24 delivered ∷ hours_of 24 received ∷ [];
  receipt = side_of schedules metered 0;
  delivery = side_of schedules metered 1;
}

-- hourly, twelve-hourly, daily receipt, daily delivery, the greatest
abbrev pub overrun_figures : Overruns → List ℕ
overrun_figures over =
    over.hourly.0
    ∷ over.twelve_hourly.0
    ∷ over.daily_receipt.0
    ∷ over.daily_delivery.0
    ∷ over.greatest.0
    ∷ []

abbrev pub rate_of : ℕ → Rate
rate_of rate = record { 0 = rate }

-- ---- the charge for overruns, packed; where it is not refused they go to the lent list
abbrev pub of_charge : Result Cents Refusal → ℕ
of_charge (Err refusal) = refused refusal
of_charge (Ok cents) = accepted cents.0

abbrev pub with_charge : Result Cents Refusal → Overruns → List ℕ → List ℕ
with_charge (Err refusal) over lent = lent
with_charge (Ok cents) over lent = overrun_figures over

-- ---- the same of a day's overruns, where they are not refused themselves
abbrev pub of_overruns : ℕ → Result Overruns Refusal → ℕ
of_overruns rate (Err refusal) = refused refusal
of_overruns rate (Ok over) = of_charge (overrun_charge (rate_of rate) over.greatest)

abbrev pub with_overruns : ℕ → Result Overruns Refusal → List ℕ → List ℕ
with_overruns rate (Err refusal) lent = lent
with_overruns rate (Ok over) lent = with_charge (overrun_charge (rate_of rate) over.greatest) over lent

-- the rate is a single figure, so it is tested before the hours
unfoldable pub rate_check : ℕ → Check
rate_check rate = Ok tt then keep (leb rate most_rate) 3

abbrev pub of_rated : Check → ℕ → ℕ
of_rated (Ok _) next = next
of_rated (Err refusal) next = refused refusal

-- the statement of a call, whatever its day's overruns: the charge, packed, and the lent list afterwards
pub record PricePacked (rate : ℕ) (over : Result Overruns Refusal) (lent : List ℕ) (packed : ℕ) (after : List ℕ) : Type 0 where
  pub answers : packed ≡ of_rated (rate_check rate) (of_overruns rate over)
  pub leaves : after ≡ accepted_or (rate_check rate) (with_overruns rate over lent) lent

-- the charge for the greatest overrun in cents
abbrev pub cents_for : ℕ → Overruns → ℕ
cents_for rate over = (overrun_cents (rate_of rate) over.greatest).0

-- ---- `cormcushion_overruns`: its statement, all its tests, its charge
abbrev pub ChargePacked : ℕ → ShipperDay → List ℕ → ℕ → List ℕ → Type 0
ChargePacked rate D = PricePacked rate (day_answer D)

abbrev pub charge_check : ℕ → ShipperDay → Check
charge_check rate D = rate_check rate then day_check D

abbrev pub charge_cents : ℕ → ShipperDay → ℕ
charge_cents rate D = cents_for rate (day_overruns D)

-- ---- `cormcushion_overruns_excused`: the same with hours excused
abbrev pub excused_of : List ℕ → List ℕ → List ℕ → ExcusedHours
excused_of yesterday delivered received =
    record { yesterday = hours_of 11 yesterday; hours = hours_of 24 delivered ∷ hours_of 24 received ∷ [] }

abbrev pub ExcusedChargePacked : ℕ → ShipperDay → ExcusedHours → List ℕ → ℕ → List ℕ → Type 0
ExcusedChargePacked rate D E = PricePacked rate (excused_day_answer D E)

abbrev pub excused_charge_check : ℕ → ShipperDay → ExcusedHours → Check
excused_charge_check rate D E = rate_check rate then excused_day_check D E

abbrev pub excused_charge_cents : ℕ → ShipperDay → ExcusedHours → ℕ
excused_charge_cents rate D E = cents_for rate (excused_day_overruns D E)
