-- The iterator looks for a row that caps.
use borrow.Author.Tests.{tests}
use Prim.Native.Nat.{ℕ}
use Rattle.std.proofs.Common.{rules}
use Rattle.columns.specs.Column.{col}
use Rattle.dayformat.specs.declared.form.Tag.TheVariants.{Head}
use Rattle.dayformat.specs.Format.{◌is_a◌}
use Rattle.dayrows.specs.Test.{caps, capped}
use Rattle.dayrows.proofs.Capping.{first_of}
use Rattle.dayrows.proofs.Searches.{any-first}
use Rattle.dayrows.proofs.caps.is_capped.Goals as goal

pub returns-then-not-lists : goal.returns-then-not-lists
unfolding capped
returns-then-not-lists c =
    rw (← first_of c.args.row.tag c.names_of.ensures (0 is_a Head), ← c.lists.ensures, c.if-not-lists.true)

pub returns : goal.returns
unfolding capped
returns c =
    let by = λ (other : ℕ). caps c.args.row.tables.counts (col c.args.row.tables.numbers.now) c.args.row.tag c.args.row.at other in
    rw (← first_of c.args.row.tag c.names_of.ensures (0 is_a Head), ← c.lists.ensures, c.if-not-lists.false, ← c.count_of.ensures)
    (any-first by _ _ _ c.any.result c.any.ensures.ran (λ x b q k. search (rules, tests)))
