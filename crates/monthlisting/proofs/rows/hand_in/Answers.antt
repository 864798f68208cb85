use Rattle.monthlisting.proofs.Handing.{handing_none, handing_next, handing_stops, handing_all}
use Rattle.monthlisting.proofs.rows.hand_in.Goals as goal

pub loop-row-init : goal.loop-row-init
loop-row-init c = handing_none _ c.empty-account.ensures

pub returns-in-Err : goal.returns-in-Err
returns-in-Err c =
    handing_stops _ c.loop-row.invariant c.loop-row-test.true c.take_row-taken.ensures c.in-Err.is c.placed.ensures

pub loop-row-preserved : goal.loop-row-preserved
loop-row-preserved c =
    handing_next _ c.loop-row.invariant c.loop-row-test.true c.take_row-taken.ensures c.in_default.is

pub returns : goal.returns
returns c = handing_all _ c.loop-row.invariant c.loop-row-test.false
