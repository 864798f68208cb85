-- While the flag stands, no number that was looked at is above the other.
use mathlib.Core.Path.{◌≡◌}
use mathlib.Core.Bool.{true}
use Prim.Native.Nat.{◌+◌}
use lib.Dec.{ltb}
use Rattle.columns.specs.Column.{col}
use Rattle.columns.proofs.Firsts.{Searched}
use Rattle.dayruns.proofs.caps.are_under.Given as goal

abbrev pub invariant-loop-place : goal.invariant-loop-place
invariant-loop-place l =
    l.kept ≡ true → Searched (λ i. ltb (col l.numbers (l.other + i)) (col l.numbers (l.one + i))) l.many l.place
