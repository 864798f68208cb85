-- Each figure is compared with its bound in turn, then the chargeable quantity with the greatest of the four.
use mathlib.Core.Path.{sym, ◌∙◌}
use Rattle.std.proofs.Common.{rules}
use Rattle.std.proofs.lemmas.Result.{err_from_is_err_and}
use Rattle.units.specs.Refusals.{first_refusal}
use Rattle.units.proofs.Testing.{passing_none, passing_next, passing_all, stopping_at}
use Rattle.month.specs.Figures.{figures_check}
use Rattle.month.proofs.figures.Figures.check.Goals as goal

pub loop-place-init : goal.loop-place-init
loop-place-init c = passing_none _

pub returns-in_err-keep : goal.returns-in_err-keep
unfolding figures_check first_refusal
returns-in_err-keep c =
    let p = err_from_is_err_and c.from_residual.result c.from_residual.ensures.1 in
    let is = stopping_at _ 7 c.loop-place.invariant c.loop-place-test.true (sym c.keep.ensures ∙ c.in_err-keep.was) in
    let tested = rw (c.numbers_of-figures.ensures, c.numbers_of-most.ensures) at is in
    rw (p.1, p.2, ← tested)

pub loop-place-preserved : goal.loop-place-preserved
loop-place-preserved c = passing_next _ c.loop-place.invariant (sym c.keep.ensures ∙ c.in_ok-keep.was)

pub returns : goal.returns
unfolding figures_check first_refusal
returns c =
    let all = passing_all _ 7 c.loop-place.invariant (search rules) c.loop-place-test.false in
    let tested = rw (c.numbers_of-figures.ensures, c.numbers_of-most.ensures) at all in
    rw (← tested, c.keep-2.ensures, c.greatest_of.ensures)
