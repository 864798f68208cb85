-- The fields of the tables before `place` are laid behind the head's, up to `at`.
use Prim.Native.Nat.{◌+◌, ◌*◌, ◌^◌, ◌≤◌}
use Rattle.columns.specs.Column.{col}
use Rattle.daywriter.proofs.FieldLaying.{Tabling}
use Rattle.daywriter.proofs.put.put_tables.Given as goal

abbrev pub invariant-loop-place : goal.invariant-loop-place
invariant-loop-place l =
    Tabling l.tables.counts (col l.tables.numbers.now) l.initial.block 15 l.place l.block l.at × (l.at ≤ 15 + l.place * 2 ^ 41)
