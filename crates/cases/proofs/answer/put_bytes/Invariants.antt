-- What is printed so far is the bytes before this one.
use Rattle.std.proofs.Common.{take}
use Rattle.std.specs.Io.KnownBytes.{Appends}
use Rattle.cases.specs.Line.{hexadecimal}
use Rattle.cases.proofs.answer.put_bytes.Given as goal

abbrev pub invariant-loop-byte : goal.invariant-loop-byte
invariant-loop-byte g l = Appends (g.W.Write.contents l.initial.out) (g.W.Write.contents l.out)
    (hexadecimal (take l.byte-index l.bytes))
