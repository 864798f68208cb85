-- Hour by hour the greater of the two excesses is added, each of what was metered less what is excused.
use mathlib.Core.List.{List}
use Prim.Native.Nat.{ℕ}
use Rattle.columns.specs.Column.{col}
use Rattle.columns.proofs.Sums.{Adding}
use Rattle.units.specs.declared.Megajoules.{Megajoules}
use Rattle.metered.specs.Hours.{delivered, received}
use Rattle.metered.specs.Excused.{compared}
use Rattle.excesses.proofs.Excesses.{greater_excess}
use Rattle.overruns.proofs.hourly.hourly.Given as goal

-- each side's hours compared
abbrev pub taken : List (List Megajoules) → List (List Megajoules) → ℕ → ℕ
taken hours excused = col (compared (delivered hours) (delivered excused))

abbrev pub brought : List (List Megajoules) → List (List Megajoules) → ℕ → ℕ
brought hours excused = col (compared (received hours) (received excused))

abbrev pub invariant-loop-hour : goal.invariant-loop-hour
invariant-loop-hour l =
    Adding 24 (greater_excess (taken l.hours l.excused) (brought l.hours l.excused) l.most_delivered.0 l.most_received.0) l.hour l.total
