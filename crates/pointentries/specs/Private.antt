-- What the private routines of this crate ask, and what they do.
use Rattle.std.specs.Prelude.{◌≡◌, List, ℕ, ◌*◌, Ok}
use Rattle.columns.specs.Column.{col}
use Rattle.dayformat.specs.declared.form.Tag.TheVariants as Tag
use Rattle.dayformat.specs.Format.{body, numbers_of, most}
use Rattle.dayruns.specs.declared.walk.Walk.{Walk}
use Rattle.dayruns.specs.Run.{rows_of}
use Rattle.pointentries.specs.Entries.{entries, entry_rows, entry_walk, list_check}
use Rattle.units.specs.Refusals.{Check}

-- how many numbers a list's sound entries have at most
abbrev pub most_entry_numbers : ℕ
most_entry_numbers = most Tag.Entry * numbers_of (body Tag.Entry)

-- a list walked through and tested, its rows in a lent list of zeros
pub record EntriesWalked (list : List ℕ) (side : ℕ) (after : List ℕ) (walk : Walk) : Type 0 where
  pub answers : walk ≡ entry_walk list side
  pub holds : walk.found ≡ Ok tt → col after ≡ col (rows_of (entries list side) (entry_rows list side))

pub record ListChecked (list : List ℕ) (side point : ℕ) (after : List ℕ) (check : Check) : Type 0 where
  pub answers : check ≡ list_check list side point
  pub holds : check ≡ Ok tt → col after ≡ col (rows_of (entries list side) (entry_rows list side))
