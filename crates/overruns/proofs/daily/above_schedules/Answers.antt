-- The gas of the 24 hours with the backhaul, less a thousandfold of both schedules.
use Prim.Native.Nat.{◌*◌, ◌≤◌}
use native.Mathlib.Omega.{arith}
use borrow.Author.Rules.{rules}
use Rattle.units.specs.Bound.{most_hour}
use Rattle.metered.specs.Hours.{bare_hours}
use Rattle.overruns.proofs.Days.{day-gas, day-gas-most, scheduled, day-over}
use Rattle.overruns.proofs.daily.above_schedules.Goals as goal

pub gas_of-requires : goal.gas_of-requires
gas_of-requires c = (search rules, rw c.bare_hours-hours.ensures c.requires.0)

pub overflow_add-metered : goal.overflow_add-metered
overflow_add-metered c =
    let most : c.gas_of.result.0 ≤ 24 * most_hour =
    day-gas-most _ c.bare_hours-hours.ensures c.gas_of.ensures (search rules) c.requires.0 in
    omega arith

pub overflow_add-scheduled : goal.overflow_add-scheduled
overflow_add-scheduled c =
    omega (arith, scheduled c.args.side c.in_megajoules.ensures c.in_megajoules-2.ensures, c.well_formed.1.0)

pub returns : goal.returns
returns c =
    let args = c.args in
    day-over args.side c.in_megajoules.ensures c.in_megajoules-2.ensures (bare_hours args.row)
    (day-gas _ c.bare_hours-hours.ensures c.gas_of.ensures (search rules)) c.excess.ensures
