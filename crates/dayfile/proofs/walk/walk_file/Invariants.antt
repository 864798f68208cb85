-- The head, then the run of each tag, then the end: stage after stage as the definition has it.
use Rattle.dayfile.specs.File.{tables_to}
use Rattle.dayfile.proofs.Stages.{Stage}
use Rattle.dayfile.proofs.walk.walk_file.Given as goal

abbrev pub invariant-loop-place : goal.invariant-loop-place
invariant-loop-place l = Stage l.place (tables_to l.file l.place) l.walk l.numbers
