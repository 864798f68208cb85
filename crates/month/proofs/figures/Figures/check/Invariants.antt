-- The figures before a place are within their bounds.
use Rattle.std.specs.Prelude.{◌≡◌, Ok, leb}
use Rattle.columns.specs.Column.{col}
use Rattle.units.specs.Refusals.{keep}
use Rattle.units.specs.Each.{each}
use Rattle.month.proofs.figures.Figures.check.Given as goal

abbrev pub invariant-loop-place : goal.invariant-loop-place
invariant-loop-place l = each l.place (λ place. keep (leb (col l.figures place) (col l.most place)) 3) ≡ Ok tt
