-- The entries' fields have twelve bytes each.
use native.Mathlib.Omega.{arith}
use Rattle.dayformat.proofs.Sizes.{entry-size}
use Rattle.entrylists.proofs.entries_end.Goals as goal

pub returns : goal.returns
returns c = rw entry-size (omega (arith, c.fields_place.ensures.0))
