-- The digits of the rest are still to lay, the last of them next; past the block's end there are none.
use Rattle.text.proofs.Laying.{Left}
use Rattle.text.proofs.put_decimal.Given as goal

abbrev pub invariant-loop-place : goal.invariant-loop-place
invariant-loop-place l = Left l.number l.initial.text l.at l.place l.rest l.text
