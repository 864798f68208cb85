-- A fault found before stays; otherwise what is left decides.
use borrow.Author.Tests.{le-leb}
use Rattle.dayrows.proofs.Finding.{ok-none}
use Rattle.dayruns.specs.Walk.{ended}
use Rattle.dayruns.proofs.Ending.{ended-cut, ended-other}
use Rattle.dayruns.proofs.walk.Walk.end.Goals as goal

pub returns-then-is_err : goal.returns-then-is_err
unfolding ended
returns-then-is_err c = rw c.if-is_err.ensures.negation

pub returns-then-file-place : goal.returns-then-file-place
unfolding ended
returns-then-file-place c = rw (c.if-is_err.ensures.negation, le-leb _ _ c.if-file-place.true)

pub returns-then-file-place-lt-HEADER : goal.returns-then-file-place-lt-HEADER
returns-then-file-place-lt-HEADER c =
    ended-cut _ _ (ok-none _ c.if-is_err.ensures.negation) c.if-file-place.false c.if-file-place-lt-HEADER.true

pub returns : goal.returns
returns c = ended-other _ _ (ok-none _ c.if-is_err.ensures.negation) c.if-file-place.false c.if-file-place-lt-HEADER.false
