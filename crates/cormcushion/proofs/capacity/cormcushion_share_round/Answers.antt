-- The round, packed.

use Rattle.cormcushion.proofs.capacity.cormcushion_share_round.Goals as goal

pub returns : goal.returns
returns c =
    record { round = _; answers = c.share_round.ensures; packs = c.of_round.ensures }
