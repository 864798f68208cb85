-- The iterator looks for the first row that fails.
use mathlib.Core.Path.{ap, ◌∙◌}
use mathlib.Core.Bool.{not}
use Prim.Native.Nat.{ℕ}
use borrow.Author.Tests.{tests}
use Rattle.std.proofs.Common.{rules}
use Rattle.columns.specs.Column.{col}
use Rattle.columns.specs.First.{first}
use Rattle.dayrows.specs.declared.Source.TheVariants.{File}
use Rattle.dayrows.specs.Test.{passes}
use Rattle.dayrows.proofs.Searches.{find-first}
use Rattle.dayrows.proofs.first_failing_row.Goals as goal

pub returns : goal.returns
returns c =
    let fails = λ (row : ℕ). not (passes c.args.test File c.args.tables.counts (col c.args.tables.numbers.now) c.args.tag row) in
    c.unwrap_or.ensures
    ∙ find-first fails _ _ _ c.find.result c.find.ensures.ran (λ x b q k. search (rules, tests))
    ∙ ap (λ n. first n fails) c.count_of-rows.ensures
