-- The three numbers of the head's body.
use Rattle.columns.specs.Column.{listed}
use Rattle.bigendian.specs.Row.{size}
use Rattle.dayformat.specs.Format.{column_in}
use Rattle.dayfile.proofs.reader.head_of.Goals as goal

pub returns : goal.returns
unfolding listed size column_in
returns c = rw (c.number_at.ensures, c.number_at-2.ensures, c.number_at-3.ensures)
