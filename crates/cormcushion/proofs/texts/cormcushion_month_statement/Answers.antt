-- The statement, packed.

use Rattle.cormcushion.proofs.texts.cormcushion_month_statement.Goals as goal

pub returns : goal.returns
returns c =
    record { listing = _; answers = c.list_month.ensures; packs = c.of_listing.ensures }
