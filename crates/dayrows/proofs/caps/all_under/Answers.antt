-- The iterator looks at each number.
use mathlib.Core.Path.{ap, fun_ext, ◌∙◌}
use borrow.Author.Tests.{tests}
use Prim.Native.Nat.{ℕ, ◌+◌}
use lib.Dec.{leb}
use Rattle.std.proofs.Common.{rules}
use Rattle.columns.specs.Column.{col}
use Rattle.columns.specs.First.{first}
use Rattle.dayrows.specs.Test.{all_under}
use Rattle.dayrows.proofs.Searches.{not_leb, all-first}
use Rattle.dayrows.proofs.caps.all_under.Goals as goal

pub returns : goal.returns
unfolding all_under
returns c =
    let f = col c.args.numbers.now in
    let under = λ (place : ℕ). leb (f (c.args.one + place)) (f (c.args.other + place)) in
    all-first under _ _ _ c.all.result c.all.ensures.ran (λ x b q k. search (rules, tests))
    ∙ ap (λ above. leb c.args.many (first c.args.many above))
    (fun_ext (λ place. not_leb (f (c.args.one + place)) (f (c.args.other + place))))
