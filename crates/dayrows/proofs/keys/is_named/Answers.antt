-- The iterator looks each name up; what fills up the names is listed.
use mathlib.Core.Path.{◌∙◌}
use borrow.Author.Tests.{tests}
use Prim.Native.Nat.{◌+◌}
use Rattle.std.proofs.Common.{rules}
use Rattle.std.proofs.lemmas.Iterator.{YieldsList-from_slice}
use Rattle.std.proofs.lemmas.Iterator.Search.{all_from_yields_List}
use Rattle.columns.specs.Column.{col}
use Rattle.dayformat.specs.declared.rules.Name.{Name}
use Rattle.dayrows.specs.Test.{lists}
use Rattle.dayrows.proofs.Naming.{listed_all, listed_filled}
use Rattle.dayrows.proofs.keys.is_named.Goals as goal

pub returns : goal.returns
returns c =
    let args = c.args.row in
    let known = λ (name : Name). lists args.tables.counts (col args.tables.numbers.now) name.tag (args.at + name.place) in
    all_from_yields_List known _ _ c.all.result c.all.ensures.ran (YieldsList-from_slice c.names_of.result (cc))
    (λ x b q k. search (rules, tests))
    ∙ listed_all args.tables.counts (col args.tables.numbers.now) args.at c.names_of.result
    ∙ rw (c.names_of.ensures, listed_filled)
