-- A shipper's whole day: the answer from what was found, and the four overruns as one.
use Rattle.std.specs.Prelude.{Ok, Err}
use mathlib.Core.Path.{◌≡◌, ap, sym, ◌∙◌}
use mathlib.Core.List.{List, ◌++◌}
use Prim.Native.Nat.{ℕ}
use lib.ListN.{length}
use Rattle.columns.specs.Column.{col}
use Rattle.units.specs.declared.refusal.Refusal.{Refusal}
use Rattle.excesses.specs.TwelveHourly.{twelve_hourly}
use Rattle.excesses.specs.Greatest.{greatest}
use Rattle.metered.specs.Hours.{bare_hours, delivered, received}
use Rattle.metered.specs.Excused.{compared}
use Rattle.metered.specs.Private.{Within, RowsWithin, ComparedWithin, BackhaulWithin}
use Rattle.metered.proofs.Comparing.{length-compared}
use Rattle.overruns.specs.declared.day.Overruns.{Overruns}
use Rattle.overruns.specs.Daily.{daily}
use Rattle.overruns.specs.declared.day.ShipperDay.{ShipperDay}
use Rattle.overruns.specs.Day.{with_greatest}
use Rattle.overruns.specs.declared.day.ExcusedHours.{ExcusedHours}
use Rattle.overruns.specs.Excused.{excused_hourly, excused_day_check, excused_day_answer}
use Rattle.overruns.proofs.Accepting.{excused-day-accepting}
use Rattle.units.specs.Refusals.{Check}

-- ---- the day is tested, its delivered hours joined to yesterday's, and so those excused
pub record Tested : Type 0 where
  pub D : ShipperDay
  pub E : ExcusedHours
  pub both : List ℕ
  pub joined : both ≡ bare_hours D.yesterday ++ delivered D.hours
  pub excused_both : List ℕ
  pub excused_joined : excused_both ≡ bare_hours E.yesterday ++ delivered E.hours
  pub found : Check
  pub checked : found ≡ excused_day_check D E

module _ (T : Tested) where
  open T use {D, E, both, joined, excused_both, excused_joined, found, checked}

  pub day-refused : {x : Refusal} → found ≡ Err x → Err x ≡ excused_day_answer D E
  day-refused e = rw (← checked, e)

  module _ (accepted : found ≡ Ok tt) {days : List ℕ} (less_days : days ≡ compared both excused_both) where
    pub day-fits : length both ≡ 35
        → ((length days ≡ 35) × Within days)
        × (ComparedWithin D.hours E.hours × (RowsWithin D.hours × BackhaulWithin D.receipt D.delivery))
    day-fits long =
        let a = excused-day-accepting D E (sym checked ∙ accepted) in (
          (ap length less_days ∙ length-compared both excused_both ∙ long, rw (less_days, joined, excused_joined) a.both_days),
          (a.rows, (a.metered.rows, a.metered.backhaul)),
        )

    pub day-over : {x : Overruns}
        → x ≡ with_greatest (excused_hourly D.m D.hours E.hours).0
        (twelve_hourly D.p.0 D.m.0 (col days))
        (daily (col (received D.hours)) D.receipt)
        (daily (col (delivered D.hours)) D.delivery)
        → Ok x ≡ excused_day_answer D E
    day-over e = rw (← checked, accepted, e, less_days, joined, excused_joined)

-- ---- the four as one answer
module _ (x : Overruns) (hourly twelve_hourly receipt delivery : ℕ) where
  pub same-overruns : x.hourly.0 ≡ hourly → x.twelve_hourly.0 ≡ twelve_hourly
      → x.daily_receipt.0 ≡ receipt → x.daily_delivery.0 ≡ delivery
      → x.greatest.0 ≡ greatest x.hourly.0 x.twelve_hourly.0 x.daily_receipt.0 x.daily_delivery.0
      → x ≡ with_greatest hourly twelve_hourly receipt delivery
  same-overruns h t r d g =
      let all : x.greatest.0 ≡ greatest hourly twelve_hourly receipt delivery = g ∙ rw (h, t, r, d) in
      λ i. record {
        hourly = record { 0 = h i };
        twelve_hourly = record { 0 = t i };
        daily_receipt = record { 0 = r i };
        daily_delivery = record { 0 = d i };
        greatest = record { 0 = all i };
      }
