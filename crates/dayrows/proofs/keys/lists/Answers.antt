-- The iterator looks for a row that has the key.
use borrow.Author.Tests.{tests}
use Rattle.std.proofs.Common.{rules}
use Rattle.columns.specs.Column.{col}
use Rattle.dayrows.specs.Test.{keyed, lists}
use Rattle.dayrows.proofs.Searches.{any-first}
use Rattle.dayrows.proofs.keys.lists.Goals as goal

pub returns : goal.returns
unfolding lists
returns c =
    rw (← c.count_of-rows.ensures)
    (any-first (λ row. keyed c.args.tables.counts (col c.args.tables.numbers.now) c.args.tag c.args.at row) _ _ _ c.any.result c.any.ensures.ran
    (λ x b q k. search (rules, tests)))
