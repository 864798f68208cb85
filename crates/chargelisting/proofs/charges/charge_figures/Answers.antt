-- Shipper, the overruns, and the cents of the greatest.

use Rattle.chargelisting.proofs.charges.charge_figures.Goals as goal

pub returns : goal.returns
returns c =
    rw (c.cents_of.ensures, c.overruns_of-over.ensures, c.figures_of-figures.ensures)
