-- Past the list nothing is stored, as the definition's store has it.
use mathlib.Core.Path.{sym}
use lib.Seq.{set_out}
use Rattle.dayfields.proofs.row.put.Goals as goal

pub returns-else-at-numbers : goal.returns-else-at-numbers
returns-else-at-numbers c = sym (set_out _ _ _ c.if-at-numbers.false)
