-- The Free Flow MDQ made is three quarters of the firm MDQ, and the rounds hold for any.
use lib.ListN.{replicate}
use Rattle.dayshares.proofs.Splitting.{split-long, split, quartered}
use Rattle.dayshares.proofs.firm.share_firm.Goals as goal

pub slice_bounds-three_rounds-end : goal.slice_bounds-three_rounds-end
slice_bounds-three_rounds-end c =
    split-long c.args.mdq.now (replicate 64 0) _ c.requires.rows.few c.free_flow_list.ensures

pub three_rounds-requires : goal.three_rounds-requires
three_rounds-requires c =
    (c.requires, split c.args.mdq.now (replicate 64 0) _ c.requires.rows.few c.free_flow_list.ensures)

pub returns : goal.returns
returns c =
    quartered c.args.mdq.now (replicate 64 0) _ c.requires.rows.few c.free_flow_list.ensures
    _ _ c.args.schedule.now _ _ _ c.three_rounds.ensures
