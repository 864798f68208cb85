-- What the first so many tables hold, added up.
use mathlib.Core.Path.{◌≡◌}
use Prim.Native.Nat.{◌*◌, ◌^◌, ◌≤◌}
use Rattle.columns.specs.Sum.{sum}
use Rattle.dayformat.specs.Format.{tag_at, form}
use Rattle.dayformat.specs.Layout.{numbers_before}
use Rattle.dayformat.proofs.layout.numbers_before.Given as goal

abbrev pub invariant-loop-place : goal.invariant-loop-place
invariant-loop-place l =
    (l.numbers ≡ numbers_before l.counts l.place) × (l.numbers ≤ sum l.place (λ place. (form (tag_at place)).columns) * 2 ^ 32)
