-- The single figures of a shipper's day: 3 at place 0 where one is beyond its bound.
use Rattle.std.specs.Prelude.{leb, Ok}
use Rattle.units.specs.declared.Gigajoules.{Gigajoules}
use Rattle.units.specs.Bound.{most_gigajoules, most_backhaul}
use Rattle.units.specs.Refusals.{◌then◌, keep, Check}
use Rattle.metered.specs.declared.Side.{Side}

-- P, then M
unfoldable pub mdqs_check : Gigajoules → Gigajoules → Check
mdqs_check p m = Ok tt then keep (leb p.0 most_gigajoules) 3 then keep (leb m.0 most_gigajoules) 3

-- a side's schedules, then the backhaul metered
unfoldable pub side_check : Side → Check
side_check side =
    Ok tt
    then keep (leb side.forward.0 most_gigajoules) 3
    then keep (leb side.backhaul.0 most_gigajoules) 3
    then keep (leb side.metered.0 most_backhaul) 3

-- receipt, then delivery
unfoldable pub sides_check : Side → Side → Check
sides_check receipt delivery = side_check receipt then side_check delivery
