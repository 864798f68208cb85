-- A written file is made of bytes, so it is one that the reader can be given.
use mathlib.Core.Path.{◌≡◌, refl}
use mathlib.Core.List.{List, [], ◌∷◌, ◌++◌}
use Prim.Native.Nat.{ℕ, zero, suc, ◌+◌, ◌-◌, ◌<◌}
use native.Mathlib.Decide.{dec_lt}
use native.Mathlib.Omega.{arith}
use borrow.Author.Tests.{ltb-true}
use lib.Dec.{ltb}
use lib.ListN.{length, get_or-append}
use lib.Seq.{get_or-append-add}
use Rattle.columns.specs.Column.{col, joined}
use Rattle.columns.specs.First.{first_from}
use Rattle.bigendian.specs.Number.{bytes, AreBytes}
use Rattle.bigendian.specs.Row.{encode}
use Rattle.bigendian.proofs.Numbers.{bytes-are}
use Rattle.dayformat.specs.declared.day.Day.{Day}
use Rattle.dayformat.specs.declared.form.Tag.{Tag}
use Rattle.dayformat.specs.declared.form.Tag.TheVariants.{Head}
use Rattle.dayformat.specs.Format.{many_tables, tag_at, widths, form, field}
use Rattle.dayformat.specs.Layout.{count, row_start}
use Rattle.dayformat.specs.DayBytes.{row_from, head_row, fields, file_of}
use Rattle.dayformat.proofs.Every.{passes-every}
use Rattle.roundtrip.specs.RoundTrip.{Exactly}
use Rattle.roundtrip.proofs.RoundTrips.{round_trips}

none-are : AreBytes []
none-are i = omega arith

append-are : (xs ys : List ℕ) → AreBytes xs → AreBytes ys → AreBytes (xs ++ ys)
append-are xs ys a b i = by (dec_lt i (length xs))
  where
    by : Dec (i < length xs) → col (xs ++ ys) i < 256
    by (yes l) = rw (get_or-append xs ys 0 i l) (a i)
    by (no h) =
        let past : length xs + (i - length xs) ≡ i = omega (arith, h) in
        rw (← past, get_or-append-add xs ys (i - length xs) 0) (b (i - length xs))

cons_are : (x : ℕ) (xs : List ℕ) → x < 256 → AreBytes xs → AreBytes (x ∷ xs)
cons_are x xs l a zero = l
cons_are x xs l a (suc i) = a i

encode-are : (ws ns : List ℕ) → AreBytes (encode ws ns)
unfolding encode
encode-are [] ns = none-are
encode-are (w ∷ ws) [] = none-are
encode-are (w ∷ ws) (n ∷ ns) = append-are (bytes w n) (encode ws ns) (bytes-are w n) (encode-are ws ns)

joined-are : (n : ℕ) (f : ℕ → List ℕ) → ((i : ℕ) → AreBytes (f i)) → AreBytes (joined n f)
unfolding joined
joined-are zero f each = none-are
joined-are (suc n) f each = append-are (joined n f) (f n) (joined-are n f each) (each n)

tag_is : (tag : Tag) → (form tag).byte < 256
unfolding first_from
tag_is tag = ltb-true _ _ (passes-every (λ tag. ltb (form tag).byte 256) refl (omega arith) tag)

field-are : (tag : Tag) (row : List ℕ) → AreBytes (field tag row)
field-are tag row =
    cons_are (form tag).byte (bytes 2 (form tag).size ++ encode (widths tag) row) (tag_is tag)
    (append-are (bytes 2 (form tag).size) (encode (widths tag) row) (bytes-are 2 (form tag).size) (encode-are (widths tag) row))

pub file-are : (day : Day) (numbers : ℕ → ℕ) → AreBytes (file_of day numbers)
unfolding file_of
file-are day numbers =
    append-are (field Head (head_row day.head)) (joined many_tables (λ place. part (tag_at place)))
    (field-are Head (head_row day.head))
    (joined-are many_tables (λ place. part (tag_at place)) (λ place. part-are (tag_at place)))
  where
    part : Tag → List ℕ
    part tag = fields day.counts numbers tag

    part-are : (tag : Tag) → AreBytes (part tag)
    part-are tag =
        joined-are (count day.counts tag) (λ row. field tag (row_from numbers tag (row_start day.counts tag row)))
        (λ row. field-are tag (row_from numbers tag (row_start day.counts tag row)))

pub exactly : Exactly
exactly day numbers u32 = (
  λ accepted. (
    file_of day (col numbers),
    file-are day (col numbers),
    round_trips.day_again day numbers (file_of day (col numbers)) u32
        (record { accepted = accepted; file_is = refl }),
  ),
  λ file are R. (round_trips.file_again file day numbers are R).accepted,
)
