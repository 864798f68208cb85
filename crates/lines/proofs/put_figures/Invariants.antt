-- The line of the figures from the index on and of the last is still to lay, after `size` bytes.
use Prim.Native.Nat.{◌*◌, ◌≤◌}
use lib.ListN.{drop}
use Rattle.lines.specs.Line.{decimals, line}
use Rattle.lines.proofs.Lining.{Lining}
use Rattle.lines.proofs.put_figures.Given as goal

abbrev pub invariant-loop-figure : goal.invariant-loop-figure
invariant-loop-figure l =
    (l.size ≤ 21 * l.figure-index)
    × Lining (line (decimals l.figures)) l.initial.text l.at (line (decimals (drop l.figure-index l.figures))) l.text l.size
