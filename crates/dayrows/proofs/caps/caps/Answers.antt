-- Two keys are the same exactly where they don't differ within the key.
use mathlib.Core.Path.{ap}
use borrow.Author.Tests.{le-leb, lt-leb}
use Rattle.dayformat.specs.declared.form.Tag.TheVariants.{Head}
use Rattle.dayformat.specs.Format.{◌is_a◌}
use Rattle.dayrows.specs.Test.{caps}
use Rattle.dayrows.proofs.Capping.{first_of}
use Rattle.dayrows.proofs.caps.caps.Goals as goal

pub returns-then-first_difference-key : goal.returns-then-first_difference-key
unfolding caps
returns-then-first_difference-key c =
    rw (
      ← first_of c.args.row.tag c.names_of.ensures (0 is_a Head),
      ← ap (λ form. form.key) c.form_of-key.ensures,
      ← c.row_place-start.ensures.0,
      ← c.first_difference.ensures.0,
      lt-leb _ _ c.if-first_difference-key.true,
    )

pub returns : goal.returns
unfolding caps
returns c =
    rw (
      ← first_of c.args.row.tag c.names_of.ensures (0 is_a Head),
      ← ap (λ form. form.key) c.form_of-key.ensures,
      ← c.row_place-start.ensures.0,
      ← c.first_difference.ensures.0,
      le-leb _ _ c.if-first_difference-key.false,
      ← c.cap_of-cap.ensures,
    )
    c.all_under.ensures
