-- The iterator looks at each MDQ; what fills up the MDQs is never without itself.
use mathlib.Core.Path.{◌∙◌}
use borrow.Author.Tests.{tests}
use Prim.Native.Nat.{◌+◌}
use Rattle.std.proofs.Common.{rules}
use Rattle.std.proofs.lemmas.Iterator.{YieldsList-from_slice}
use Rattle.std.proofs.lemmas.Iterator.Search.{any_from_yields_List}
use Rattle.columns.specs.Column.{col}
use Rattle.daytable.specs.Acceptance.{idle}
use Rattle.dayformat.specs.declared.rules.Pair.{Pair}
use Rattle.dayrows.proofs.Naming.{idle_any, idle_filled}
use Rattle.dayrows.proofs.mdqs.is_starved.Goals as goal

pub returns : goal.returns
returns c =
    let f = col c.args.row.tables.numbers.now in
    let without = λ (pair : Pair). idle (f (c.args.row.at + pair.mdq)) (f (c.args.row.at + pair.schedule)) in
    any_from_yields_List without _ _ c.any.result c.any.ensures.ran (YieldsList-from_slice c.mdqs_of.result (cc))
    (λ x b q k. search (rules, tests))
    ∙ idle_any f c.args.row.at c.mdqs_of.result
    ∙ rw (c.mdqs_of.ensures, idle_filled)
