-- A shipper's figures are refused by 3 alone, so the number of each test's answer is 0 exactly where it accepts.
use mathlib.Core.Path.{◌≡◌}
use mathlib.Core.List.{List}
use Prim.Native.Nat.{ℕ}
use Rattle.units.specs.declared.Gigajoules.{Gigajoules}
use Rattle.units.specs.declared.Megajoules.{Megajoules}
use Rattle.units.specs.Verdict.{of_check, Decided}
use Rattle.units.proofs.Verdicts.{AllNumbered, none, ◌and◌, kept_by, cleared_by, checked}
use Rattle.metered.specs.declared.Side.{Side}
use Rattle.metered.specs.Hours.{delivered, received, hours_check}
use Rattle.metered.specs.Excused.{excused_check, excused_hours_check}
use Rattle.metered.specs.Singles.{mdqs_check, side_check, sides_check}
use Rattle.units.specs.Refusals.{Check}

pub rows_numbered : (hours : List (List Megajoules)) → AllNumbered (hours_check hours)
unfolding hours_check
rows_numbered hours = none and cleared_by _ _ 3 tt tt and cleared_by _ _ 3 tt tt

pub rows_decided : (hours : List (List Megajoules)) {found : Check} → found ≡ hours_check hours
    → Decided (hours_check hours) tt tt (of_check found)
rows_decided hours = checked (rows_numbered hours)

pub mdqs_numbered : (p m : Gigajoules) → AllNumbered (mdqs_check p m)
unfolding mdqs_check
mdqs_numbered p m = none and kept_by _ 3 tt tt and kept_by _ 3 tt tt

pub mdqs_decided : (p m : Gigajoules) {found : Check} → found ≡ mdqs_check p m → Decided (mdqs_check p m) tt tt (of_check found)
mdqs_decided p m = checked (mdqs_numbered p m)

side_numbered : (side : Side) → AllNumbered (side_check side)
unfolding side_check
side_numbered side = none and kept_by _ 3 tt tt and kept_by _ 3 tt tt and kept_by _ 3 tt tt

pub sides_numbered : (receipt delivery : Side) → AllNumbered (sides_check receipt delivery)
unfolding sides_check
sides_numbered receipt delivery = side_numbered receipt and side_numbered delivery

pub sides_decided : (receipt delivery : Side) {found : Check} → found ≡ sides_check receipt delivery
    → Decided (sides_check receipt delivery) tt tt (of_check found)
sides_decided receipt delivery = checked (sides_numbered receipt delivery)

pub excused_numbered : (metered excused : List ℕ) → AllNumbered (excused_check metered excused)
excused_numbered metered excused = cleared_by _ _ 3 tt tt

pub excused_decided : (metered excused : List ℕ) {found : Check} → found ≡ excused_check metered excused
    → Decided (excused_check metered excused) tt tt (of_check found)
excused_decided metered excused = checked (excused_numbered metered excused)

pub excused_hours_numbered : (hours excused : List (List Megajoules)) → AllNumbered (excused_hours_check hours excused)
unfolding excused_hours_check
excused_hours_numbered hours excused =
    excused_numbered (delivered hours) (delivered excused) and excused_numbered (received hours) (received excused)

pub excused_hours_decided : (hours excused : List (List Megajoules)) {found : Check} → found ≡ excused_hours_check hours excused
    → Decided (excused_hours_check hours excused) tt tt (of_check found)
excused_hours_decided hours excused = checked (excused_hours_numbered hours excused)
