-- Of the body the numbers from `place` on are still to read, out of the bytes from `byte` on.
use Prim.Native.Nat.{◌+◌, ◌*◌, ◌≤◌}
use Rattle.dayfields.proofs.RowReading.{Reads}
use Rattle.dayfields.proofs.row.read_row.Given as goal

abbrev pub invariant-loop-place : goal.invariant-loop-place
invariant-loop-place l =
    Reads l.tag l.file l.at l.initial.numbers l.to l.place l.byte l.numbers × (l.byte ≤ l.at + l.place * 4)
