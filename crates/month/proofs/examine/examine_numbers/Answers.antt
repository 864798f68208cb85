-- Each day is tested after those before it, and the first that is refused is the answer.
use mathlib.Core.Path.{refl, sym, ◌∙◌}
use Rattle.std.proofs.lemmas.Result.{err_from_is_err_and}
use Rattle.units.specs.Refusals.{first_refusal}
use Rattle.units.proofs.Testing.{stopping_at}
use Rattle.month.proofs.Testing.{testing_none, testing_next, testing_all}
use Rattle.month.proofs.examine.examine_numbers.Goals as goal

pub loop-row-init : goal.loop-row-init
loop-row-init c = testing_none _ _

pub returns-in_err-examine_later : goal.returns-in_err-examine_later
returns-in_err-examine_later c =
    let p = err_from_is_err_and c.from_residual.result c.from_residual.ensures.1 in
    let here = sym c.examine_later.ensures ∙ c.in_err-examine_later.was in
    rw (p.1, p.2) (stopping_at _ _ (sym c.loop-row.invariant.tests) c.loop-row-test.true here)

pub loop-row-preserved : goal.loop-row-preserved
unfolding first_refusal
loop-row-preserved c =
    testing_next _ _ c.loop-row.invariant c.loop-row-test.true (sym c.in_ok-examine_later.was ∙ c.examine_later.ensures) refl

pub returns : goal.returns
returns c = testing_all _ _ c.loop-row.invariant c.loop-row-test.false
