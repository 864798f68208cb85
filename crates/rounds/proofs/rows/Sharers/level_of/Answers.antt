-- The top is the level where it fits; where it does not, the search starts from that.
use native.Mathlib.Omega.{arith}
use Rattle.rounds.proofs.Searches.{level-top}
use Rattle.rounds.proofs.rows.Sharers.level_of.Goals as goal

pub returns-then-whole-capacity : goal.returns-then-whole-capacity
returns-then-whole-capacity c = level-top _ _ _ _ (omega arith)
