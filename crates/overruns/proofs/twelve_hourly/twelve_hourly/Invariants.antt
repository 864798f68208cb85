-- Period by period an hour enters the sum and one leaves it, and the excess is added to those before.
use Rattle.columns.specs.Column.{col}
use Rattle.overruns.proofs.AddedPeriods.{Added}
use Rattle.overruns.proofs.twelve_hourly.twelve_hourly.Given as goal

abbrev pub invariant-loop-h : goal.invariant-loop-h
invariant-loop-h l = Added l.p.0 l.m.0 (col l.hours) l.h l.sum.0 l.total
