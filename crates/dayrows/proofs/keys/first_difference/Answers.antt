-- The iterator looks for the first place in which they differ.
use mathlib.Core.Path.{◌∙◌}
use mathlib.Core.Bool.{not}
use borrow.Author.Tests.{tests}
use Prim.Native.Nat.{ℕ, ◌+◌}
use native.Mathlib.Omega.{arith}
use lib.Dec.{eqb}
use Rattle.std.proofs.Common.{rules}
use Rattle.columns.specs.Column.{col}
use Rattle.columns.proofs.Firsts.{first_le}
use Rattle.dayrows.specs.Test.{difference}
use Rattle.dayrows.proofs.Searches.{find-first}
use Rattle.dayrows.proofs.keys.first_difference.Goals as goal

pub returns : goal.returns
unfolding difference
returns c =
    let numbers = col c.args.numbers.now in
    let differ = λ (place : ℕ). not (eqb (numbers (c.args.one + place)) (numbers (c.args.other + place))) in
    let found =
    c.unwrap_or.ensures ∙ find-first differ _ _ _ c.find.result c.find.ensures.ran (λ x b q k. search (rules, tests)) in
    (found, omega (arith, found, first_le differ c.args.many))
