-- Of the rest the bytes before `place` are still to lay, the last of them next.
use Prim.Native.Nat.{min}
use Rattle.columns.proofs.Laying.{Laying}
use Rattle.bigendian.specs.Number.{bytes, widest}
use Rattle.bigendian.proofs.put_number.Given as goal

abbrev pub invariant-loop-place : goal.invariant-loop-place
invariant-loop-place l =
    Laying (bytes (min l.width widest) l.number) l.initial.block l.at (bytes l.place l.rest) l.block l.at
