-- Acceptance gives what the loop asks; the filled list is then the answer.
use mathlib.Core.Path.{sym, ◌∙◌}
use Rattle.dayvalues.proofs.Accepting.{column-accepted}
use Rattle.dayvalues.proofs.column.shipper_column.Goals as goal

pub fill_column-requires : goal.fill_column-requires
fill_column-requires c =
    let place = c.place_of-place.ensures in
    column-accepted _ _ _ _ place.1 place.2 (sym c.examine_column.ensures ∙ c.in_ok-examine_column.was)
