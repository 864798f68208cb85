-- C-14: a file without tag 9 fields is read as before; and what is said of a file without looking at them.
use Rattle.std.specs.Prelude.{◌≡◌, false, List, ℕ, take, Ok}
use Rattle.bigendian.specs.Number.{AreBytes}
use Rattle.dayformat.specs.declared.form.Tag.TheVariants.{Excused}
use Rattle.dayformat.specs.Format.{table_place}
use Rattle.dayformat.specs.Layout.{count, fields_start}
use Rattle.dayruns.specs.declared.walk.Walk.{Walk}
use Rattle.dayruns.specs.Run.{begun}
use Rattle.dayruns.specs.Walk.{ended}
use Rattle.dayfile.specs.File.{Tables, tables_to, tables, walked}

-- ---- the reader of before: a head and the tables before tag 9's, then nothing
abbrev pub tables_before : List ℕ → Tables
tables_before file = tables_to file (table_place Excused)

abbrev pub walked_before : List ℕ → Walk
walked_before file = ended file (tables_before file).walk

-- where these are sound, no tag 9 field follows
abbrev pub NoneExcused : List ℕ → Type 0
NoneExcused file = (tables_before file).walk.found ≡ Ok tt → begun file Excused (tables_before file).walk.place ≡ false

-- the answers of before: the same refusal or the same counts, and the same numbers
pub record AsBefore (file : List ℕ) : Type 0 where
  pub walk : walked file ≡ walked_before file
  pub numbers : (tables file).numbers ≡ (tables_before file).numbers
  pub none : (walked file).found ≡ Ok tt → count (walked file).counts Excused ≡ 0

-- ---- an accepted file's bytes before its tag 9 fields
abbrev pub before_excused : List ℕ → List ℕ
before_excused file = take (fields_start (walked file).counts Excused) file

-- a text that does not depend on them: two accepted files that differ in tag 9 fields alone have the same
abbrev pub Regardless : (List ℕ → List ℕ) → Type 0
Regardless text =
    (file other : List ℕ) → AreBytes file → AreBytes other → (walked file).found ≡ Ok tt → (walked other).found ≡ Ok tt
    → before_excused file ≡ before_excused other → text file ≡ text other
