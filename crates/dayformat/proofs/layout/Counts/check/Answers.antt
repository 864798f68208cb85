-- Each count is tested after those before it, and the first beyond its bound is the answer.
use Rattle.std.proofs.Common.{rules}
use Rattle.std.proofs.lemmas.Result.{err_from_is_err_and}
use Rattle.units.proofs.Testing.{passing_none, passing_next, passing_all, stopping_at}
use Rattle.dayformat.specs.Acceptance.{counts_check}
use Rattle.dayformat.proofs.layout.Counts.check.Goals as goal

pub loop-place-init : goal.loop-place-init
loop-place-init c = passing_none _

pub returns-in_err-keep : goal.returns-in_err-keep
unfolding counts_check
returns-in_err-keep c =
    let p = err_from_is_err_and c.from_residual.result c.from_residual.ensures.1 in
    rw (p.1, p.2) (stopping_at _ _ c.loop-place.invariant c.loop-place-test.true (search rules))

pub loop-place-preserved : goal.loop-place-preserved
loop-place-preserved c = passing_next _ c.loop-place.invariant (search rules)

pub returns : goal.returns
unfolding counts_check
returns c = passing_all _ _ c.loop-place.invariant (search rules) c.loop-place-test.false
