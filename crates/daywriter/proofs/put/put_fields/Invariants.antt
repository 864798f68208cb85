-- The fields of the rows below `row` are laid, up to `byte`.
use Rattle.columns.specs.Column.{col}
use Rattle.daywriter.proofs.FieldLaying.{Fielding}
use Rattle.daywriter.proofs.put.put_fields.Given as goal

abbrev pub invariant-loop-row : goal.invariant-loop-row
invariant-loop-row l =
    Fielding l.tables.counts (col l.tables.numbers.now) l.tag l.initial.block l.at l.row l.block l.byte
