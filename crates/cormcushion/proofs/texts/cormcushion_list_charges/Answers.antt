-- The listing, packed.

use Rattle.cormcushion.proofs.texts.cormcushion_list_charges.Goals as goal

pub returns : goal.returns
returns c =
    record { listing = _; answers = c.list_charges.ensures; packs = c.of_listing.ensures }
