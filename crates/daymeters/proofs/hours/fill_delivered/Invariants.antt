-- The hours that the loop has gone over stand at the front.
use Prim.Native.Nat.{◌+◌}
use Rattle.columns.specs.Column.{col}
use Rattle.columns.proofs.Lists.{Filling}
use Rattle.daymeters.specs.Meter.{meter_at, hours_at}
use Rattle.daymeters.proofs.hours.fill_delivered.Given as goal

abbrev pub invariant-loop-hour : goal.invariant-loop-hour
invariant-loop-hour l =
    Filling l.initial.out (λ i. meter_at l.tables.counts (col l.tables.numbers.now) l.row (hours_at + i)) l.hour l.out
