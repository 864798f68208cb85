-- What is printed so far is the figures before this one.
use Rattle.std.proofs.Common.{map, take}
use Rattle.std.specs.Io.KnownBytes.{Appends}
use Rattle.cases.specs.Line.{spaced}
use Rattle.cases.proofs.answer.put_figures.Given as goal

abbrev pub invariant-loop-figure : goal.invariant-loop-figure
invariant-loop-figure g l = Appends (g.W.Write.contents l.initial.out) (g.W.Write.contents l.out)
    (spaced (map g.T.Figure.value (take l.figure-index l.figures)))
