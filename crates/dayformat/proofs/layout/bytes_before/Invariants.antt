-- The head's field and those of the first so many tables, counted.
use mathlib.Core.Path.{◌≡◌}
use Prim.Native.Nat.{◌+◌, ◌*◌, ◌^◌, ◌≤◌}
use Rattle.dayformat.specs.Layout.{bytes_before}
use Rattle.dayformat.proofs.layout.bytes_before.Given as goal

abbrev pub invariant-loop-place : goal.invariant-loop-place
invariant-loop-place l =
    (l.bytes ≡ bytes_before l.counts l.place) × (l.bytes ≤ 15 + l.place * 2 ^ 41)
