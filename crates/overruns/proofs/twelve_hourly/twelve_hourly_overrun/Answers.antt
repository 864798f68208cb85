-- The overrun is worked out where both lists have 35 hours, P, M and every hour are within their bounds, and what is excused within the
-- hour.
use mathlib.Core.Path.{sym, ◌∙◌}
use Rattle.metered.proofs.Comparing.{length-compared}
use Rattle.overruns.proofs.Accepting.{twelve_hourly-accepting}
use Rattle.overruns.proofs.twelve_hourly.twelve_hourly_overrun.Goals as goal

pub compared_days-compared-requires : goal.compared_days-compared-requires
compared_days-compared-requires c =
    let a = twelve_hourly-accepting c.args.p c.args.m _ _ (sym c.examine.ensures ∙ c.in_ok-examine.was) in
    (a.0, a.1)

pub twelve_hourly-requires : goal.twelve_hourly-requires
twelve_hourly-requires c =
    let a = twelve_hourly-accepting c.args.p c.args.m _ _ (sym c.examine.ensures ∙ c.in_ok-examine.was) in
    rw c.compared_days-compared.ensures (length-compared c.args.hours.now c.args.excused.now ∙ a.0, a.2)
