-- Of the row the numbers from `place` on are still to lay, from `byte` on.
use Prim.Native.Nat.{◌+◌, ◌*◌, ◌≤◌}
use Rattle.columns.specs.Column.{col}
use Rattle.daywriter.proofs.RowLaying.{Lays}
use Rattle.daywriter.proofs.put.put_body.Given as goal

abbrev pub invariant-loop-place : goal.invariant-loop-place
invariant-loop-place l =
    Lays (col l.numbers) l.tag l.from l.initial.block l.at l.place l.byte l.block × (l.byte ≤ l.at + l.place * 4)
