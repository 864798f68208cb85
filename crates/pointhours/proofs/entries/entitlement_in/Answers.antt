-- The number stands where the format puts it.
use mathlib.Core.Path.{◌∙◌}
use Rattle.pointhours.proofs.EntryPlaces.{entitlement-here}
use Rattle.pointhours.proofs.entries.entitlement_in.Goals as goal

pub returns : goal.returns
returns c = c.number_at.ensures ∙ entitlement-here _ _
