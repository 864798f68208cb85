-- Four bytes are read at once; else the number is what the bytes gone over spell, with room for one more while fewer than four are.
use mathlib.Core.Path.{◌≡◌}
use lib.ListN.{take}
use Rattle.bigendian.specs.Number.{value}
use Rattle.bigendian.proofs.number_at.Given as goal

abbrev pub invariant-loop-byte : goal.invariant-loop-byte
invariant-loop-byte l = l.number ≡ value (take l.byte-index l.part)
