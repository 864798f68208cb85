-- The figures of a row that the tests accept are within their bounds.
use mathlib.Core.Path.{sym, ◌∙◌}
use Rattle.dayvalues.proofs.Accepting.{row-accepted}
use Rattle.daymeters.proofs.figures.meter_figures.Goals as goal

pub figures_of-requires : goal.figures_of-requires
figures_of-requires c = row-accepted _ _ _ _ (sym c.check_meter.ensures ∙ c.in_ok-check_meter.was)
