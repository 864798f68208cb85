-- The iterator looks for the first row that is beyond its bounds.
use mathlib.Core.Path.{◌∙◌}
use borrow.Author.Tests.{tests}
use Prim.Native.Nat.{ℕ}
use Rattle.std.proofs.Common.{rules}
use Rattle.columns.specs.Column.{col}
use Rattle.dayformat.specs.declared.form.Tag.TheVariants.{Shipper}
use Rattle.dayrows.proofs.Searches.{find-first}
use Rattle.dayvalues.specs.Row.{beyond}
use Rattle.dayvalues.proofs.column.first_beyond.Goals as goal

pub returns : goal.returns
returns c =
    let args = c.args in
    let is = λ (row : ℕ). beyond args.tables.counts (col args.tables.numbers.now) Shipper row args.place in
    c.unwrap_or.ensures ∙ find-first is _ _ _ c.find.result c.find.ensures.ran (λ x b q k. search (rules, tests))
