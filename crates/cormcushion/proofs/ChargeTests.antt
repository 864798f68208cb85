-- The tests of `cormcushion_overruns_excused`: they refuse by 3 alone, a single figure or one of 24 hours; what they accept is charged.
use Rattle.std.specs.Prelude.{Ok, Err}
use mathlib.Core.Path.{◌≡◌, refl, ap}
use mathlib.Core.Bool.{Bool}
use mathlib.Core.List.{List}
use Prim.Native.Nat.{ℕ, ◌≤◌}
use native.Mathlib.Omega.{arith}
use borrow.Author.Tests.{leb-true}
use lib.ListN.{length}
use Rattle.columns.specs.Column.{col}
use Rattle.columns.proofs.Lists.{length-listed}
use Rattle.units.specs.declared.Gigajoules.{Gigajoules}
use Rattle.units.specs.declared.Megajoules.{Megajoules}
use Rattle.units.specs.declared.refusal.Refusal.{Refusal}
use Rattle.units.specs.Above.{first_above}
use Rattle.units.specs.Bound.{most_hour, most_rate, most_chargeable}
use Rattle.units.specs.Refusals.{◌then◌, keep, within, Check, first_refusal}
use Rattle.units.proofs.Checks.{both-accepted, kept}
use Rattle.units.proofs.Places.{PlacedTo}
use Rattle.units.proofs.Verdicts.{Refuses, refuses_none, refuses_then, refuses_keep, refuses_clear, AllNumbered}
use Rattle.tariff.proofs.Charged.{overrun_charged}
use Rattle.metered.specs.declared.Side.{Side}
use Rattle.metered.specs.Hours.{bare_hours, delivered, received, hours_check}
use Rattle.metered.specs.Excused.{both_have, first_above_metered, excused_check, excused_hours_check}
use Rattle.metered.specs.Singles.{mdqs_check, side_check, sides_check}
use Rattle.overruns.specs.declared.day.ShipperDay.{ShipperDay}
use Rattle.overruns.specs.Day.{day_check, day_where}
use Rattle.overruns.specs.declared.day.ExcusedHours.{ExcusedHours}
use Rattle.overruns.specs.Excused.{excused_day_overruns, excused_day_check, excused_day_answer}
use Rattle.overruns.proofs.Promises.{excused-day-kept}
use Rattle.chargelisting.proofs.OverrunsAccept.{same-figures}
use Rattle.chargelisting.proofs.Sizes.{most_cents, cents-most}
use Rattle.cormcushion.specs.Packed.{packed_check}
use Rattle.cormcushion.specs.Meter.{hours_of, shipper_day, rate_of, of_charge, of_overruns, rate_check, of_rated}
use Rattle.cormcushion.specs.Meter.{excused_charge_check, excused_charge_cents}

-- ---- 3 alone
abbrev Third : Refusal → Type 0
Third refusal = (refusal.number ≡ 3) × (refusal.place ≤ 23)

infixl 20 ◌also◌
◌also◌ : {a b : Check} → Refuses Third a → Refuses Third b → Refuses Third (a then b)
◌also◌ {a} {b} A B = refuses_then Third a b A (λ accepted. B)

no_test : Refuses Third (Ok tt)
no_test = refuses_none Third

single : (kept : Bool) → Refuses Third (keep kept 3)
single kept = refuses_keep Third kept 3 (refl, omega arith)

hours : (list : List ℕ) → length list ≤ 24 → Refuses Third (within most_hour list)
hours list few = refuses_clear Third (length list) (first_above most_hour list) 3 (λ inside. (refl, omega (arith, inside, few)))

mdqs-third : (p m : Gigajoules) → Refuses Third (mdqs_check p m)
unfolding mdqs_check
mdqs-third p m = no_test also single _ also single _

side-third : (side : Side) → Refuses Third (side_check side)
unfolding side_check
side-third side = no_test also single _ also single _ also single _

sides_third : (receipt delivery : Side) → Refuses Third (sides_check receipt delivery)
unfolding sides_check
sides_third receipt delivery = side-third receipt also side-third delivery

rows-third : (rows : List (List Megajoules)) → length (delivered rows) ≤ 24 → length (received rows) ≤ 24 → Refuses Third (hours_check rows)
unfolding hours_check
rows-third rows d r = no_test also hours (delivered rows) d also hours (received rows) r

excused-third : (metered excused : List ℕ) → length metered ≤ 24 → Refuses Third (excused_check metered excused)
excused-third metered excused few =
    refuses_clear Third (both_have metered excused) (first_above_metered metered excused) 3 (λ inside. (refl, omega (arith, inside, few)))

excused-rows-third : (rows excused : List (List Megajoules)) → length (delivered rows) ≤ 24 → length (received rows) ≤ 24
    → Refuses Third (excused_hours_check rows excused)
unfolding excused_hours_check
excused-rows-third rows excused d r =
    excused-third (delivered rows) (delivered excused) d also excused-third (received rows) (received excused) r

module _ (rate p m : ℕ) (yesterday delivered received schedules metered : List ℕ) (E : ExcusedHours) where
  abbrev D : ShipperDay
  D = shipper_day p m yesterday delivered received schedules metered

  few : (many : ℕ) (list : List ℕ) → many ≤ 24 → length (bare_hours (hours_of many list)) ≤ 24
  few many list l = rw (same-figures, length-listed many (col list)) l

  charge-third : Refuses Third (excused_charge_check rate D E)
  unfolding rate_check day_check excused_day_check
  charge-third =
      let y = few 11 yesterday (omega arith) in
      let d = few 24 delivered (omega arith) in
      let r = few 24 received (omega arith) in
      (no_test also single _)
      also
      (mdqs-third D.p D.m
      also sides_third D.receipt D.delivery
      also hours (bare_hours D.yesterday) y
      also rows-third D.hours d r
      also excused-third (bare_hours D.yesterday) (bare_hours E.yesterday) y
      also excused-rows-third D.hours E.hours d r)

  pub charge_numbered : AllNumbered (excused_charge_check rate D E)
  charge_numbered refusal e =
      record { least = omega (arith, (charge-third refusal e).0); most = omega (arith, (charge-third refusal e).0) }

  pub charge-placed : PlacedTo 23 (excused_charge_check rate D E)
  charge-placed refusal e = (charge-third refusal e).1

-- ---- what is accepted
module _ (rate : ℕ) (D : ShipperDay) (E : ExcusedHours) where
  rate-kept : rate_check rate ≡ Ok tt → rate ≤ most_rate
  unfolding rate_check
  rate-kept e = leb-true _ _ (kept _ _ (both-accepted _ _ e).1)

  greatest-kept : excused_day_check D E ≡ Ok tt → (excused_day_overruns D E).greatest.0 ≤ most_chargeable
  greatest-kept e = (rw e at (excused-day-kept D E refl)).chargeable

  pub charge-packs : of_rated (rate_check rate) (of_overruns rate (excused_day_answer D E))
      ≡ packed_check (excused_charge_check rate D E) (excused_charge_cents rate D E)
  unfolding first_refusal
  charge-packs = by_rate (rate_check rate) refl
    where
      by_day : rate ≤ most_rate → (found : Check) → excused_day_check D E ≡ found
          → of_overruns rate (day_where found (excused_day_overruns D E)) ≡ packed_check found (excused_charge_cents rate D E)
      by_day l (Ok _) e = ap of_charge (overrun_charged (rate_of rate) (excused_day_overruns D E).greatest l (greatest-kept e))
      by_day l (Err refusal) e = refl

      by_rate : (found : Check) → rate_check rate ≡ found
          → of_rated found (of_overruns rate (excused_day_answer D E))
          ≡ packed_check (found then excused_day_check D E) (excused_charge_cents rate D E)
      by_rate (Ok _) e = by_day (rate-kept e) (excused_day_check D E) refl
      by_rate (Err refusal) e = refl

  pub charge-most : excused_charge_check rate D E ≡ Ok tt → excused_charge_cents rate D E ≤ most_cents
  charge-most e =
      let both = both-accepted (rate_check rate) (excused_day_check D E) e in
      cents-most (rate_of rate) (excused_day_overruns D E).greatest (rate-kept both.0) (greatest-kept both.1)
