-- The first row's key rises; a later one is compared where it first differs from the key before it.
use mathlib.Core.Path.{ap, sym, ◌∙◌}
use borrow.Author.Tests.{le-ltb}
use Rattle.dayrows.proofs.Rising.{rises-first, rises_by, stays}
use Rattle.dayrows.proofs.keys.rises.Goals as goal

pub returns-then-row-eq0 : goal.returns-then-row-eq0
returns-then-row-eq0 c = sym (rises-first _ _ _ _ c.if-row-eq0.true)

pub returns-then-place-key : goal.returns-then-place-key
returns-then-place-key c =
    rw (c.number_of.ensures, c.number_of-then-place-key.ensures)
    (rises_by _ _ _ _ _ _ _ (ap (λ c. c.key) c.form_of-key.ensures) c.first_difference-place.ensures.0
    _ c.if-row-eq0.false c.row_place-before.ensures.0 c.row_place-here.ensures.0 c.if-place-key.true)

pub returns-else-place-key : goal.returns-else-place-key
returns-else-place-key c =
    le-ltb _ _ c.if-place-key.false
    ∙ stays _ _ _ _ _ _ _ (ap (λ c. c.key) c.form_of-key.ensures) c.first_difference-place.ensures.0
    _ c.if-row-eq0.false c.row_place-before.ensures.0 c.row_place-here.ensures.0 c.if-place-key.false
