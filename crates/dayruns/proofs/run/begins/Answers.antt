-- Past the file nothing begins; within it the byte is compared.
use borrow.Author.Tests.{lt-ltb, le-ltb}
use Rattle.dayruns.specs.Run.{begun}
use Rattle.dayruns.proofs.run.begins.Goals as goal

pub returns-then-at-file : goal.returns-then-at-file
unfolding begun
returns-then-at-file c =
    rw (lt-ltb _ _ c.if-at-file.true, c.form_of.ensures)

pub returns : goal.returns
unfolding begun
returns c = rw (le-ltb _ _ c.if-at-file.false)
