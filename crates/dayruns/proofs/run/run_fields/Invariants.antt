-- The fields taken so far are sound; the next one ends the run or is taken too.
use mathlib.Core.Path.{◌≡◌}
use Prim.Native.Nat.{◌-◌}
use lib.ListN.{length}
use Rattle.dayformat.specs.Layout.{row_start}
use Rattle.dayruns.proofs.Running.{Going}
use Rattle.dayruns.proofs.run.run_fields.Given as goal

abbrev pub invariant-loop-source : goal.invariant-loop-source
invariant-loop-source l =
    Going (record { source = l.source; counts = l.counts; file = l.file; at = l.at; tag = l.tag })
    l.initial.numbers l.rows l.place l.numbers
    × (l.to ≡ row_start l.counts l.tag l.rows)

abbrev pub decreases-loop-source : goal.decreases-loop-source
decreases-loop-source l = length l.file - l.place
