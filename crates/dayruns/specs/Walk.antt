-- A file or a list of entries read up to a place, or to its first faulty field.
use Rattle.std.specs.Prelude.{cond, List, ℕ, ◌+◌, leb, ltb, length, is_ok, Ok, Err}
use Rattle.units.specs.Refusals.{at_byte, Check}
use Rattle.dayformat.specs.declared.form.Tag.{Tag}
use Rattle.dayformat.specs.Format.{header}
use Rattle.dayformat.specs.Layout.{with_count}
use Rattle.dayrows.specs.declared.fault.Fault.TheVariants.{Cut, Foreign}
use Rattle.dayrows.specs.Fault.{Found, number}
use Rattle.dayruns.specs.declared.run.Run.{Run}
use Rattle.dayruns.specs.declared.walk.Walk.{Walk}

-- after the run of a tag's fields
abbrev pub walk_after : Walk → Tag → Run → Walk
walk_after walk tag run =
    record { found = run.found; place = run.place; counts = with_count walk.counts tag run.rows }

-- nothing may follow the last field
unfoldable pub ended : List ℕ → Walk → Walk
ended file walk =
    cond (is_ok walk.found)
    (cond (leb (length file) walk.place) walk
    (record { found = cond (ltb (length file) (walk.place + header)) (Err Cut) (Err Foreign); place = walk.place; counts = walk.counts }))
    walk

-- the first faulty field, at its first byte, by 01's number
abbrev pub refused_at : ℕ → Found → Check
refused_at place (Ok _) = Ok tt
refused_at place (Err fault) = Err (at_byte (number fault) place)

abbrev pub file_check : Walk → Check
file_check walk = refused_at walk.place walk.found
