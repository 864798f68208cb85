-- A line for each row that the loop has gone over stands from the place on.
use Prim.Native.Nat.{◌*◌, ◌≤◌}
use Rattle.text.specs.Text.{Laid}
use Rattle.chargelisting.specs.ChargesText.{meter_lines}
use Rattle.chargelisting.proofs.chargestext.Charges.put_meters.Given as goal

abbrev pub invariant-loop-row : goal.invariant-loop-row
invariant-loop-row l =
    (l.size ≤ 2048 * l.row) × Laid (meter_lines l.self.rate l.self.day.counts l.self.numbers.now l.row) l.initial.text l.at l.size l.text
