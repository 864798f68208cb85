-- The rows that the loop has passed hold what the whole has beyond the part.
use Prim.Native.Nat.{◌-◌}
use Rattle.columns.specs.Column.{col}
use Rattle.columns.proofs.Lists.{Filling}
use Rattle.dayshares.proofs.lists.rest_list.Given as goal

abbrev pub invariant-loop-row : goal.invariant-loop-row
invariant-loop-row l = Filling l.initial.list (λ i. col l.wholes i - col l.parts i) l.row l.list
