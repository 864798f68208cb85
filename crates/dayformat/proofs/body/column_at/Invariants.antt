-- The kinds from the next on say of what is left what all of them say of the place.
use mathlib.Core.Path.{◌≡◌}
use lib.ListN.{drop}
use Rattle.dayformat.specs.Format.{body, column_in}
use Rattle.dayformat.proofs.body.column_at.Given as goal

abbrev pub invariant-loop-several : goal.invariant-loop-several
invariant-loop-several l = column_in (drop l.several-index l.several-items) l.left ≡ column_in (body l.fn.tag) l.place
