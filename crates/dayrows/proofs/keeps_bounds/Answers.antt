-- The tests one by one; the last is the source's own.
use mathlib.Core.Path.{ap}
use borrow.Author.Tests.{lt-ltb, le-ltb}
use Rattle.dayrows.specs.Test.{passes}
use Rattle.dayrows.proofs.keeps_bounds.Goals as goal

pub returns-then-form_of-row : goal.returns-then-form_of-row
unfolding passes
returns-then-form_of-row c =
    rw (← ap (λ form. form.most) c.form_of.ensures, le-ltb _ _ c.if-form_of-row.true)

pub returns-then-is_bounded : goal.returns-then-is_bounded
unfolding passes
returns-then-is_bounded c =
    let is = c.row_of-row.ensures in
    let inside = rw (is.among, is.tagged, is.begins) at c.is_bounded.ensures in
    rw (← ap (λ form. form.most) c.form_of.ensures, lt-ltb _ _ c.if-form_of-row.false, ← inside, c.if-is_bounded.true)
    (rw (is.among, is.tagged, is.begins) at c.is_of_source.ensures)

pub returns-else-is_bounded : goal.returns-else-is_bounded
unfolding passes
returns-else-is_bounded c =
    let is = c.row_of-row.ensures in
    let inside = rw (is.among, is.tagged, is.begins) at c.is_bounded.ensures in
    rw (← ap (λ form. form.most) c.form_of.ensures, lt-ltb _ _ c.if-form_of-row.false, ← inside, c.if-is_bounded.false)
