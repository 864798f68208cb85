-- The numbers from `place` on are still to lay, and those before it are within their bounds where `kept` says so.
use Rattle.dayruns.proofs.KindReading.{Reading}
use Rattle.dayruns.proofs.kind.read_kind.Given as goal

abbrev pub invariant-loop-place : goal.invariant-loop-place
invariant-loop-place l = Reading l.file l.from l.many l.column l.initial.numbers l.place l.numbers l.kept
