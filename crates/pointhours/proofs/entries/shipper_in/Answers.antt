-- The number stands where the format puts it.
use mathlib.Core.Path.{◌∙◌}
use Rattle.pointhours.proofs.EntryPlaces.{shipper-here}
use Rattle.pointhours.proofs.entries.shipper_in.Goals as goal

pub returns : goal.returns
returns c = c.number_at.ensures ∙ shipper-here _ _
