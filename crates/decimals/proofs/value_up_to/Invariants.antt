-- What the digits gone over spell, or the first number beyond the bound, which no further digit lessens.
use Rattle.decimals.proofs.Spelling.{Spelled}
use Rattle.decimals.proofs.value_up_to.Given as goal

abbrev pub invariant-loop-byte : goal.invariant-loop-byte
invariant-loop-byte l = Spelled l.word l.most l.number l.byte-index
