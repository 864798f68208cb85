-- What the private routines of this crate ask, and what they do.
use Rattle.std.specs.Prelude.{List, ℕ, ◌≤◌}
use Rattle.columns.specs.Column.{col}
use Rattle.units.specs.declared.Megajoules.{Megajoules}
use Rattle.units.specs.Bound.{most_hour, most_backhaul}
use Rattle.metered.specs.declared.Side.{Side}
use Rattle.metered.specs.Hours.{delivered, received}
use Rattle.metered.specs.Excused.{compared}

-- every hour is within its bound
abbrev pub Within : List ℕ → Type 0
Within hours = (hour : ℕ) → col hours hour ≤ most_hour

-- the same of both sides
abbrev pub RowsWithin : List (List Megajoules) → Type 0
RowsWithin hours = Within (delivered hours) × Within (received hours)

-- the same of both sides' hours compared
abbrev pub ComparedWithin : List (List Megajoules) → List (List Megajoules) → Type 0
ComparedWithin hours excused =
    Within (compared (delivered hours) (delivered excused)) × Within (compared (received hours) (received excused))

-- the backhaul metered of both sides is within its bound
abbrev pub BackhaulWithin : Side → Side → Type 0
BackhaulWithin receipt delivery = (receipt.metered.0 ≤ most_backhaul) × (delivery.metered.0 ≤ most_backhaul)
