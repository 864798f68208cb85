-- The rows that the loop has gone over stand at the front.
use Rattle.columns.specs.Column.{col}
use Rattle.columns.proofs.Lists.{Filling}
use Rattle.dayformat.specs.declared.form.Tag.TheVariants.{Shipper}
use Rattle.dayvalues.specs.Row.{number_at}
use Rattle.dayvalues.proofs.column.fill_column.Given as goal

abbrev pub invariant-loop-row : goal.invariant-loop-row
invariant-loop-row l =
    Filling l.initial.out (λ i. number_at l.tables.counts (col l.tables.numbers.now) Shipper i l.place) l.row l.out
