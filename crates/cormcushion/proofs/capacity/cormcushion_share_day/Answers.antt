-- The day's shares, packed, and their levels in the lent list.

use Rattle.cormcushion.proofs.capacity.cormcushion_share_day.Goals as goal

pub returns : goal.returns
returns c =
    record {
      day = _;
      answers = c.share_day-day.ensures;
      packs = c.of_shares.ensures;
      leaves_levels = c.put_levels.ensures;
    }
