-- A line for each entry that the loop has gone over stands from the place on.
use Rattle.std.specs.Prelude.{Ok}
use Prim.Native.Nat.{◌*◌, ◌≤◌}
use Rattle.columns.specs.Column.{col}
use Rattle.text.specs.Text.{Laid}
use Rattle.pointhours.specs.HourText.{share_lines}
use Rattle.pointhours.specs.Parts.{shipper_in}
use Rattle.pointhours.proofs.hour.put_shares.Given as goal

abbrev pub invariant-loop-entry : goal.invariant-loop-entry
invariant-loop-entry l =
    (l.size ≤ 2048 * l.entry) × Laid (share_lines (Ok tt) l.entry (shipper_in l.part) (col l.shares)) l.initial.text l.at l.size l.text
