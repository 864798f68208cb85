-- Below 12 each hour of the period counts 47 thousandths of its own day's MDQ.
use Rattle.overruns.proofs.Limits.{limit-today, limit-over_midnight}
use Rattle.overruns.proofs.twelve_hourly.period_limit.Goals as goal

pub returns-then-h-ge12 : goal.returns-then-h-ge12
returns-then-h-ge12 c = limit-today _ _ _ c.if-h-ge12.true c.thousandths.ensures.0

pub returns : goal.returns
returns c =
    limit-over_midnight _ _ _ c.if-h-ge12.false c.thousandths-yesterday.ensures.0 c.thousandths-today.ensures.0
