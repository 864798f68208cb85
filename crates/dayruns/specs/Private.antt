-- What the private routines that read a field's row and look at it ask and do.
use Rattle.std.specs.Prelude.{◌≡◌, Bool, true, false, cond, List, [], ◌∷◌, ◌++◌, ◌⊎◌, ℕ, ◌+◌, ◌*◌, ◌^◌, ◌≤◌, ◌<◌, ltb, length, drop, replicate, Ok}
use Rattle.std.proofs.lemmas.List.Edits.{sets}
use Rattle.columns.specs.Column.{col}
use Rattle.bigendian.specs.Row.{size, decode}
use Rattle.dayformat.specs.declared.form.Tag.{Tag}
use Rattle.dayformat.specs.declared.body.Column.{Column}
use Rattle.dayformat.specs.declared.body.Several.{Several}
use Rattle.dayformat.specs.declared.layout.Counts.{Counts}
use Rattle.dayformat.specs.Format.{cap, first_name, column_in, numbers_of, widths, form}
use Rattle.dayformat.specs.Layout.{count, row_start}
use Rattle.dayrows.specs.declared.Source.{Source}
use Rattle.dayrows.specs.declared.Source.TheVariants.{File}
use Rattle.dayrows.specs.declared.Test.TheVariants.{Mdq}
use Rattle.dayrows.specs.Fault.{Found}
use Rattle.dayrows.specs.Test.{in_bounds, bounded, all_under, rises, passes}
use Rattle.dayrows.specs.Whole.{broken, with_row}
use Rattle.dayfields.specs.Field.{Taken}
use Rattle.dayruns.specs.declared.kind.Cursor.{Cursor}

-- where a row stands among the numbers, not far
abbrev pub Placed : Counts → Tag → ℕ → ℕ → Type 0
Placed counts tag row to = (to ≡ row_start counts tag row) × (to < 2 ^ 43)

-- ---- so many numbers of one kind from a byte on
abbrev pub numbers_at : Column → ℕ → List ℕ → ℕ → List ℕ
numbers_at column many file at = decode (replicate many column.width) (drop at file)

-- the first so many of a list are each within the bounds of a kind
abbrev pub AllWithin : Column → ℕ → List ℕ → Type 0
AllWithin column many numbers = (place : ℕ) → place < many → in_bounds column (col numbers place) ≡ true

-- they are laid where the cursor stands, and are said to keep their bounds only where they do and those before did
pub record KindRead (file : List ℕ) (from : Cursor) (many : ℕ) (column : Column) (lent after : List ℕ) (next : Cursor) : Type 0 where
  pub lays : after ≡ sets lent from.to (numbers_at column many file from.byte)
  pub byte : next.byte ≡ from.byte + many * column.width
  pub place : next.to ≡ from.to + many
  pub keeps : next.kept ≡ true → (from.kept ≡ true) × AllWithin column many (numbers_at column many file from.byte)

-- ---- several kinds, one after another
abbrev pub kind_widths : List Several → List ℕ
kind_widths [] = []
kind_widths (several ∷ rest) = replicate several.many several.kind.width ++ kind_widths rest

abbrev pub numbers_of_kinds : List Several → List ℕ → ℕ → List ℕ
numbers_of_kinds kinds file at = decode (kind_widths kinds) (drop at file)

-- each number of a list is within the bounds of its own kind
abbrev pub AllInside : List Several → List ℕ → Type 0
AllInside kinds numbers = (place : ℕ) → place < numbers_of kinds → in_bounds (column_in kinds place) (col numbers place) ≡ true

pub record KindsRead (kinds : List Several) (file : List ℕ) (from : Cursor) (lent after : List ℕ) (next : Cursor) : Type 0 where
  pub lays : after ≡ sets lent from.to (numbers_of_kinds kinds file from.byte)
  pub byte : next.byte ≡ from.byte + size (kind_widths kinds)
  pub place : next.to ≡ from.to + numbers_of kinds
  pub keeps : next.kept ≡ true → AllInside kinds (numbers_of_kinds kinds file from.byte)

-- ---- a body: its bytes are there, and so are the places of its numbers
abbrev pub BodyRoom : Tag → List ℕ → Cursor → List ℕ → Type 0
BodyRoom tag file from lent = (from.byte + (form tag).size ≤ length file) × (from.to + (form tag).columns ≤ length lent)

abbrev pub with_body : Tag → List ℕ → Cursor → List ℕ → List ℕ
with_body tag file from lent = sets lent from.to (decode (widths tag) (drop from.byte file))

-- it is laid or nothing is, and said to keep its bounds only where it is laid and does
pub record BodyRead (file : List ℕ) (tag : Tag) (from : Cursor) (lent after : List ℕ) (kept : Bool) : Type 0 where
  pub lays : (after ≡ lent) ⊎ (after ≡ with_body tag file from lent)
  pub keeps : kept ≡ true → (after ≡ with_body tag file from lent) × (bounded (col after) tag from.to ≡ true)

-- ---- a row: its field is whole, and it has room
abbrev pub Ready : List ℕ → Tag → ℕ → ℕ → ℕ → Type 0
Ready file tag at to room = (broken file tag at ≡ Ok tt) × (to + (form tag).columns ≤ room)

-- a row passes 3 but for its caps, 5 but for its names, and 4
unfoldable pub orderly : Counts → (ℕ → ℕ) → Tag → ℕ → Bool
orderly counts numbers tag row =
    cond (cond (ltb row (form tag).most) (bounded numbers tag (row_start counts tag row)) false)
    (cond (rises counts numbers tag row) (passes Mdq File counts numbers tag row) false)
    false

-- it is laid where its field is ready, or nothing is; and said to be orderly only where it is laid and is so
pub record RowRead (counts : Counts) (file : List ℕ) (tag : Tag) (at row : ℕ) (lent after : List ℕ) (kept : Bool) : Type 0 where
  pub lays : (after ≡ lent)
      ⊎ (Ready file tag at (row_start counts tag row) (length lent) × (after ≡ with_row counts file tag at row lent))
  pub keeps : kept ≡ true
      → Ready file tag at (row_start counts tag row) (length lent)
      × (after ≡ with_row counts file tag at row lent)
      × (orderly counts (col after) tag row ≡ true)

-- ---- names: so many numbers from one place on are those from another on
abbrev pub Same : (ℕ → ℕ) → ℕ → ℕ → ℕ → Type 0
Same numbers many one other = (place : ℕ) → place < many → numbers (one + place) ≡ numbers (other + place)

-- the key at a place lies within the numbers, and so does that of each row of a table
abbrev pub KeysInside : Counts → Tag → ℕ → List ℕ → Type 0
KeysInside counts tag at numbers =
    (at + (form tag).key ≤ length numbers)
    × ((row : ℕ) → row < count counts tag → row_start counts tag row + (form tag).key ≤ length numbers)

-- ---- caps: the row at a place lies within the numbers, and so does the row of another table that caps it, where any does
abbrev pub CapsInside : Counts → Tag → Tag → ℕ → ℕ → List ℕ → Type 0
CapsInside counts tag named at row numbers =
    (named ≡ (first_name tag).tag)
    × (row < count counts named)
    × (at + (form tag).columns ≤ length numbers)
    × (((cap tag).many ≡ 0) ⊎ (row_start counts named row + (form named).columns ≤ length numbers))

-- no number of the row at a place is above its cap
abbrev pub under_cap : Counts → (ℕ → ℕ) → Tag → Tag → ℕ → ℕ → Bool
under_cap counts numbers tag named at row =
    all_under numbers (cap tag).many (at + (cap tag).place) (row_start counts named row + (cap tag).under)

-- ---- a field seen to be sound is taken; one that is not may still be taken, as if nothing had been done
pub record Glanced (source : Source) (counts : Counts) (file : List ℕ) (tag : Tag) (at row : ℕ) (lent after : List ℕ) (sound : Bool)
    : Type 0 where
  pub sure : sound ≡ true → Taken source counts file tag at row lent after (Ok tt)
  pub again :
      {last : List ℕ} {found : Found} → Taken source counts file tag at row after last found
      → Taken source counts file tag at row lent last found
