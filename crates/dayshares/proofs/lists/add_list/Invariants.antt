-- The rows that the loop has passed are added to, and the rest are as they were.
use Prim.Native.Nat.{◌+◌}
use Rattle.columns.specs.Column.{col}
use Rattle.columns.proofs.Lists.{Filling}
use Rattle.dayshares.proofs.lists.add_list.Given as goal

abbrev pub invariant-loop-row : goal.invariant-loop-row
invariant-loop-row l = Filling l.initial.list (λ i. col l.initial.list i + col l.more i) l.row l.list
