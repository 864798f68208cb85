-- With room for every day, the reader refuses by a fault of the file alone.
use mathlib.Core.Path.{◌∙◌}
use Prim.Native.Nat.{ℕ}
use lib.ListN.{length-replicate}
use Rattle.dayfile.proofs.Reaching.{full_room}
use Rattle.cormcushion.proofs.Checking.{checked}
use Rattle.cormcushion.proofs.day.cormcushion_check_day.Goals as goal

pub returns : goal.returns
returns c =
    c.of_reading.ensures ∙ checked c.args.file.now _ _ (length-replicate {A = ℕ} full_room 0) _ c.read_day.ensures
