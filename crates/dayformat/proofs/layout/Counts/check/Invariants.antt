-- The counts before a place are within their bounds.
use Rattle.std.specs.Prelude.{◌≡◌, Ok, leb}
use Rattle.units.specs.Refusals.{keep}
use Rattle.units.specs.Each.{each}
use Rattle.dayformat.specs.Format.{most, tag_at}
use Rattle.dayformat.specs.Layout.{count}
use Rattle.dayformat.proofs.layout.Counts.check.Given as goal

abbrev pub invariant-loop-place : goal.invariant-loop-place
invariant-loop-place l = each l.place (λ place. keep (leb (count l.self (tag_at place)) (most (tag_at place))) 3) ≡ Ok tt
