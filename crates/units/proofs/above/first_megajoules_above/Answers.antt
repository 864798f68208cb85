use Rattle.std.proofs.Common.{◌∙◌}
use Rattle.units.proofs.Aboves.{above-is}
use Rattle.units.proofs.above.first_megajoules_above.Goals as goal

pub returns : goal.returns
returns c = c.first_above.ensures ∙ above-is _ _
