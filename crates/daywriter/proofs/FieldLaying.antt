-- The fields of a day laid into a block one after another.
use mathlib.Core.Path.{◌≡◌, refl, ap, sym}
use mathlib.Core.List.{List, [], ◌∷◌}
use Prim.Native.Nat.{ℕ, ◌+◌, ◌*◌, ◌<◌}
use native.Mathlib.Nat.{zero-add}
use native.Mathlib.Numerals.{add-one}
use native.Mathlib.Omega.{arith}
use borrow.Author.Tests.{ltb-true}
use lib.Dec.{ltb}
use lib.ListN.{length}
use lib.Seq.{sets, length-sets}
use Rattle.columns.specs.Column.{col, listed, joined}
use Rattle.columns.specs.First.{first_from}
use Rattle.columns.specs.Sum.{sum}
use Rattle.text.specs.Text.{Laid}
use Rattle.text.proofs.Laying.{laid_both}
use Rattle.bigendian.specs.Number.{bytes}
use Rattle.bigendian.specs.Row.{encode}
use Rattle.bigendian.proofs.Numbers.{length-bytes}
use Rattle.dayformat.specs.declared.day.Day.{Day}
use Rattle.dayformat.specs.declared.form.Form.{Form}
use Rattle.dayformat.specs.declared.form.Tag.{Tag}
use Rattle.dayformat.specs.declared.form.Tag.TheVariants.{Head}
use Rattle.dayformat.specs.declared.layout.Counts.{Counts}
use Rattle.dayformat.specs.Format.{many_tables, tag_at, widths, field_size, form, field}
use Rattle.dayformat.specs.Layout.{count, row_start, run_size}
use Rattle.dayformat.specs.DayBytes.{row_from, head_row, fields, file_of}
use Rattle.dayformat.proofs.Every.{passes-every}
use Rattle.dayformat.proofs.Sizes.{length-field, length-row-field, length_fields}

-- a tag's byte spells its number
tag-bytes : (tag : Tag) → bytes 1 (form tag).byte ≡ (form tag).byte ∷ []
unfolding bytes first_from
tag-bytes tag =
    let small : (form tag).byte < 256 = ltb-true _ _ (passes-every (λ tag. ltb (form tag).byte 256) refl (omega arith) tag) in
    ap (λ byte. byte ∷ []) (omega (arith, small))

-- ---- the tag, the length, the body
module _ (tag : Tag) (row lent : List ℕ) (at : ℕ) where
  pub field-laid : {F : Form} {tagged headed after : List ℕ} → F ≡ form tag → tagged ≡ sets lent at (bytes 1 F.byte)
      → headed ≡ sets tagged (at + 1) (bytes 2 F.size) → after ≡ sets headed (at + 3) (encode (widths tag) row)
      → after ≡ sets lent at (field tag row)
  field-laid is tags heads lays =
      let tagged : Laid ((form tag).byte ∷ []) lent at 1 _ = record { counts = refl; lays = rw (is, tag-bytes tag) at tags } in
      let headed : Laid (bytes 2 (form tag).size) _ (at + 1) 2 _ = record { counts = sym (length-bytes _ _); lays = rw is at heads } in
      (laid_both (laid_both tagged headed) (record { counts = refl; lays = lays })).lays

-- ---- a loop has laid the fields of the rows below `row`, up to `byte`
abbrev field_of : Counts → (ℕ → ℕ) → Tag → ℕ → List ℕ
field_of counts numbers tag row = field tag (row_from numbers tag (row_start counts tag row))

pub record Fielding (counts : Counts) (numbers : ℕ → ℕ) (tag : Tag) (lent : List ℕ) (at row : ℕ) (list : List ℕ) (byte : ℕ) : Type 0
  where
    pub laid : Laid (joined row (field_of counts numbers tag)) lent at (row * field_size tag) list
    pub ends : byte ≡ at + row * field_size tag

module _ (counts : Counts) (numbers : ℕ → ℕ) (tag : Tag) (lent : List ℕ) (at : ℕ) where
  pub fielding_none : Fielding counts numbers tag lent at 0 lent at
  unfolding joined
  fielding_none = record { laid = record { counts = omega arith; lays = refl }; ends = omega arith }

  module _ (row : ℕ) {list : List ℕ} (byte : ℕ) (L : Fielding counts numbers tag lent at row list byte) where
    pub fielding_next : {F : Form} {from : ℕ} {after : List ℕ} → F ≡ form tag → from ≡ row_start counts tag row
        → after ≡ sets list byte (field tag (row_from numbers tag from))
        → Fielding counts numbers tag lent at (row + 1) after (byte + (3 + F.size))
    unfolding joined
    fielding_next form-is is e =
        let more : (row + 1) * field_size tag ≡ row * field_size tag + field_size tag = omega arith in
        record {
          laid =
              rw (more, add-one)
              (laid_both L.laid (record { counts = sym (length-row-field numbers tag _); lays = rw (is, L.ends) at e }));
          ends = omega (arith, L.ends, ap (λ form. form.size) form-is);
        }

    pub fielding_long : length list ≡ length lent
    fielding_long = rw (L.laid.lays, length-sets)

    pub fielding_all : row ≡ count counts tag
        → (list ≡ sets lent at (fields counts numbers tag)) × (byte ≡ at + run_size counts tag)
    fielding_all e = rw (← e) (L.laid.lays, L.ends)

-- ---- a loop has laid the fields of the tables before `place`, up to `byte`
abbrev fields_at : Counts → (ℕ → ℕ) → ℕ → List ℕ
fields_at counts numbers place = fields counts numbers (tag_at place)

abbrev run_at : Counts → ℕ → ℕ
run_at counts place = run_size counts (tag_at place)

pub record Tabling (counts : Counts) (numbers : ℕ → ℕ) (lent : List ℕ) (at place : ℕ) (list : List ℕ) (byte : ℕ) : Type 0 where
  pub laid : Laid (joined place (fields_at counts numbers)) lent at (sum place (run_at counts)) list
  pub ends : byte ≡ at + sum place (run_at counts)

module _ (counts : Counts) (numbers : ℕ → ℕ) (lent : List ℕ) (at : ℕ) where
  pub tabling_none : Tabling counts numbers lent at 0 lent at
  unfolding joined sum
  tabling_none = record { laid = record { counts = refl; lays = refl }; ends = omega arith }

  module _ (place : ℕ) {list : List ℕ} {byte : ℕ} (L : Tabling counts numbers lent at place list byte) where
    pub tabling_next : {tag : Tag} {after : List ℕ} {next : ℕ} → tag ≡ tag_at place
        → after ≡ sets list byte (fields counts numbers tag) → next ≡ byte + run_size counts tag
        → Tabling counts numbers lent at (place + 1) after next
    unfolding joined sum
    tabling_next is lays ends =
        record {
          laid =
              rw add-one
              (laid_both L.laid
              (record { counts = sym (length_fields numbers (tag_at place) counts); lays = rw (is, L.ends) at lays }));
          ends = rw add-one (omega (arith, L.ends, rw is at ends));
        }

    pub tabling_long : length list ≡ length lent
    tabling_long = rw (L.laid.lays, length-sets)

    pub tabling_all : place ≡ many_tables → list ≡ sets lent at (joined many_tables (fields_at counts numbers))
    tabling_all e = rw (← e) L.laid.lays

-- ---- the head's field, out of a list of its three numbers, then those of the tables
pub file-laid : (day : Day) (numbers : ℕ → ℕ) (lent : List ℕ) {headed after : List ℕ}
    → headed ≡ sets lent 0 (field Head (row_from (col (head_row day.head)) Head 0))
    → after ≡ sets headed (field_size Head) (joined many_tables (λ place. fields day.counts numbers (tag_at place)))
    → after ≡ sets lent 0 (file_of day numbers)
unfolding file_of listed
file-laid day numbers lent {headed} {after} heads lays =
    let head : Laid (field Head (head_row day.head)) lent 0 (field_size Head) headed =
    record { counts = sym (length-field Head (head_row day.head) refl); lays = heads }
    in let tables : Laid (joined many_tables (fields_at day.counts numbers)) headed (0 + field_size Head) _ after =
    record { counts = refl; lays = rw zero-add lays }
    in (laid_both head tables).lays
