-- The iterator looks for the first row that begins with the number.
use mathlib.Core.Path.{ap, ◌∙◌}
use borrow.Author.Tests.{tests}
use Prim.Native.Nat.{ℕ}
use lib.Dec.{eqb}
use Rattle.std.proofs.Common.{rules}
use Rattle.columns.specs.Column.{col}
use Rattle.columns.specs.First.{first}
use Rattle.dayrows.proofs.Searches.{find-first}
use Rattle.dayvalues.specs.Row.{number_at}
use Rattle.dayvalues.proofs.row.row_beginning.Goals as goal

pub returns : goal.returns
returns c =
    let args = c.args in
    let begins = λ (row : ℕ). eqb (number_at args.tables.counts (col args.tables.numbers.now) args.tag row 0) args.number in
    c.unwrap_or.ensures
    ∙ find-first begins _ _ _ c.find.result c.find.ensures.ran (λ x b q k. search (rules, tests))
    ∙ ap (λ n. first n begins) c.count_of-rows.ensures
