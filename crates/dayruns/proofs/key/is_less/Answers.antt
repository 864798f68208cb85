use mathlib.Core.Path.{sym, ap}
use mathlib.Core.Bool.{not}
use native.Mathlib.Omega.{arith}
use borrow.Author.Tests.{eq-eqb, ne_eqb}
use Rattle.columns.specs.Column.{col}
use Rattle.columns.proofs.Firsts.{first_found, first-none}
use Rattle.dayrows.specs.Test.{difference}
use Rattle.dayrows.proofs.Rising.{less_by, not_less}
use Rattle.dayruns.proofs.key.is_less.Goals as goal

pub returns-then-here-there : goal.returns-then-here-there
unfolding difference
returns-then-here-there c =
    let args = c.args in
    let l = c.loop-place-test.true in
    less_by (col args.numbers.now) args.key args.one args.other c.loop-place.place
    (sym
    (first_found _ _ _ l (λ k m. ap not (eq-eqb _ _ (c.loop-place.invariant k m))) (ap not (ne_eqb _ _ c.if-here-there.true)))) l

pub returns : goal.returns
unfolding difference
returns c =
    let args = c.args in
    let l = c.loop-place-test.false in
    not_less (col args.numbers.now) args.key args.one args.other args.key
    (sym (first-none _ _ (λ k m. ap not (eq-eqb _ _ (c.loop-place.invariant k (omega (arith, m, l))))))) (omega arith)
