-- A day's table is refused by one of 01's numbers, so that of `examine_day`'s answer is 0 exactly where the table is accepted; a refused
-- row is one of 64.
use mathlib.Core.Path.{◌≡◌, refl}
use Prim.Native.Nat.{ℕ}
use Rattle.units.specs.Verdict.{of_check, Decided}
use Rattle.units.proofs.Checks.{both-accepted}
use Rattle.units.proofs.Places.{PlacedTo, nowhere, ◌then_if◌, plainly, at_one_of, counted, counted-list}
use Rattle.units.proofs.Verdicts.{AllNumbered, none, ◌and◌, kept_by, cleared_by, checked}
use Rattle.daytable.specs.Table.{Table}
use Rattle.daytable.specs.Acceptance.{lengths_check, bounds_check, table_check}
use Rattle.daytable.proofs.Accepting.{Long, long, bounded}
use Rattle.units.specs.Refusals.{Check}

lengths_numbered : (T : Table) → AllNumbered (lengths_check T)
unfolding lengths_check
lengths_numbered T = none and kept_by _ 9 tt tt and kept_by _ 9 tt tt and kept_by _ 9 tt tt and kept_by _ 9 tt tt

figures_numbered : (T : Table) → AllNumbered (bounds_check T)
unfolding bounds_check
figures_numbered T =
    none
    and kept_by _ 3 tt tt
    and kept_by _ 3 tt tt
    and kept_by _ 3 tt tt
    and cleared_by _ _ 3 tt tt
    and cleared_by _ _ 3 tt tt
    and cleared_by _ _ 3 tt tt
    and cleared_by _ _ 3 tt tt
    and cleared_by _ _ 3 tt tt

pub check_numbered : (T : Table) (firm_room auction_room lower_tier_room : ℕ)
    → AllNumbered (table_check T firm_room auction_room lower_tier_room)
unfolding table_check
check_numbered T firm_room auction_room lower_tier_room =
    lengths_numbered T
    and figures_numbered T
    and cleared_by _ _ 4 tt tt
    and cleared_by _ _ 4 tt tt
    and kept_by _ 7 tt tt
    and kept_by _ 7 tt tt
    and kept_by _ 7 tt tt

pub table_decided : (T : Table) (firm_room auction_room lower_tier_room : ℕ) {found : Check}
    → found ≡ table_check T firm_room auction_room lower_tier_room
    → Decided (table_check T firm_room auction_room lower_tier_room) tt tt (of_check found)
table_decided T firm_room auction_room lower_tier_room = checked (check_numbered T firm_room auction_room lower_tier_room)

-- ---- a row is looked at after the lengths and the count
lengths_placed : (T : Table) → PlacedTo 63 (lengths_check T)
unfolding lengths_check
lengths_placed T = nowhere then_if plainly _ 9 then_if plainly _ 9 then_if plainly _ 9 then_if plainly _ 9

figures-placed : (T : Table) → Long T → PlacedTo 63 (bounds_check T)
unfolding bounds_check
figures-placed T L =
    (counted-list
    (counted-list
    (counted-list
    (counted-list
    (counted-list (counted (nowhere then_if plainly _ 3 then_if plainly _ 3)) _ T.firm_mdq (λ e. refl))
    _ T.auction_mdq (λ e. L.auction_mdq))
    _ T.firm_schedule (λ e. L.firm_schedule))
    _ T.auction_schedule (λ e. L.auction_schedule))
    _ T.lower_tier_schedule (λ e. L.lower_tier_schedule)
    ).placed

pub table-placed : (T : Table) (firm_room auction_room lower_tier_room : ℕ)
    → PlacedTo 63 (table_check T firm_room auction_room lower_tier_room)
unfolding table_check
table-placed T firm_room auction_room lower_tier_room =
    lengths_placed T
    then_if (λ e. figures-placed T (long T e))
    then_if (λ e. at_one_of _ _ 4 (bounded T (both-accepted _ _ e).1).few)
    then_if (λ e. at_one_of _ _ 4 (bounded T (both-accepted _ _ (both-accepted _ _ e).0).1).few)
    then_if plainly _ 7
    then_if plainly _ 7
    then_if plainly _ 7
