-- The keys are the same up to `place`.
use Rattle.columns.specs.Column.{col}
use Rattle.dayruns.specs.Private.{Same}
use Rattle.dayruns.proofs.key.is_less.Given as goal

abbrev pub invariant-loop-place : goal.invariant-loop-place
invariant-loop-place l = Same (col l.numbers) l.place l.one l.other
