-- A field of an entry has twelve bytes.
use borrow.Author.Rules.{rules}
use Rattle.columns.specs.Column.{listed}
use Rattle.bigendian.specs.Row.{size}
use Rattle.dayformat.specs.Format.{column_in}
use Rattle.pointhours.proofs.entries.entries_in.Goals as goal

pub returns : goal.returns
unfolding size listed column_in
returns c = search rules
