-- The iterator looks at each number.
use mathlib.Core.Path.{ap}
use borrow.Author.Tests.{tests}
use Prim.Native.Nat.{ℕ, ◌+◌}
use Rattle.std.proofs.Common.{rules}
use Rattle.columns.specs.Column.{col}
use Rattle.dayformat.specs.Format.{body, column_in}
use Rattle.dayrows.specs.Test.{in_bounds, bounded}
use Rattle.dayrows.proofs.Searches.{all-first}
use Rattle.dayrows.proofs.bounds.is_bounded.Goals as goal

pub returns : goal.returns
unfolding bounded
returns c =
    let inside = λ (place : ℕ). in_bounds (column_in (body c.args.row.tag) place) (col c.args.row.tables.numbers.now (c.args.row.at + place)) in
    rw (← ap (λ form. form.columns) c.form_of.ensures)
    (all-first inside _ _ _ c.all.result c.all.ensures.ran (λ x b q k. search (rules, tests)))
