-- Hour by hour the gas is added.
use lib.ListN.{length}
use Rattle.columns.specs.Column.{col}
use Rattle.columns.proofs.Sums.{Adding}
use Rattle.overruns.proofs.gas.gas_of.Given as goal

abbrev pub invariant-loop-hour : goal.invariant-loop-hour
invariant-loop-hour l = Adding (length l.hours) (col l.hours) l.hour-index l.total
