-- The rows that the loop has passed hold their Free Flow MDQ.
use Rattle.columns.specs.Column.{col}
use Rattle.columns.proofs.Lists.{Filling}
use Rattle.dayshares.specs.Firm.{three_quarters}
use Rattle.dayshares.proofs.lists.free_flow_list.Given as goal

abbrev pub invariant-loop-row : goal.invariant-loop-row
invariant-loop-row l = Filling l.initial.list (λ i. three_quarters (col l.mdqs i)) l.row l.list
