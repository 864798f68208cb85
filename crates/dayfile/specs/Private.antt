-- What the private routines of this crate ask, and what they do.
use Rattle.std.specs.Prelude.{◌≡◌, cond, List, ℕ, ◌≤◌, length, is_ok, Ok}
use Rattle.columns.specs.Column.{col}
use Rattle.dayformat.specs.declared.form.Tag.{Tag}
use Rattle.dayformat.specs.Layout.{numbers_in}
use Rattle.dayruns.specs.declared.walk.Walk.{Walk}
use Rattle.dayruns.specs.Run.{run_of, laid}
use Rattle.dayruns.specs.Walk.{walk_after}
use Rattle.dayfile.specs.File.{fields_from, tables, walked}

-- the fields of one tag, their rows laid into a lent list of numbers
pub record Tabled (walk : Walk) (file : List ℕ) (tag : Tag) (lent after : List ℕ) (next : Walk) : Type 0 where
  pub answers :
      next
      ≡ cond (is_ok walk.found)
      (walk_after walk tag (run_of (fields_from file walk tag) (λ many. col (laid (fields_from file walk tag) lent many))))
      walk
  pub lays :
      walk.found ≡ Ok tt
      → next.found ≡ Ok tt
      → after ≡ laid (fields_from file walk tag) lent
      (run_of (fields_from file walk tag) (λ many. col (laid (fields_from file walk tag) lent many))).rows

-- a whole file, its numbers in a lent list
pub record Walked (file after : List ℕ) (walk : Walk) : Type 0 where
  pub answers : walk ≡ walked file
  pub holds : walk.found ≡ Ok tt → col after ≡ col (tables file).numbers
  pub counts : walk.found ≡ Ok tt → length (tables file).numbers ≡ numbers_in walk.counts
  pub fits : walk.found ≡ Ok tt → numbers_in walk.counts ≤ length after
