-- So many numbers of one kind, read and tested one after another.
use mathlib.Core.Path.{◌≡◌, refl, sym, ◌∙◌}
use mathlib.Core.Bool.{Bool, true}
use mathlib.Core.List.{List}
use Prim.Native.Nat.{ℕ, zero, suc, ◌+◌, ◌-◌, ◌*◌, ◌≤◌, ◌<◌, min}
use native.Mathlib.Nat.{zero-mul, mul-le-mul_right}
use native.Mathlib.Omega.{arith}
use borrow.Author.Count.{below_more}
use borrow.Author.Tests.{le-leb}
use lib.ListN.{length, take, drop, replicate, set, length-replicate}
use lib.Seq.{drop-drop, take-take}
use Rattle.columns.specs.Column.{col}
use Rattle.columns.proofs.Laying.{Laying}
use Rattle.text.proofs.Laying.{word_none, word_next, word-all}
use Rattle.bigendian.specs.Number.{value, widest}
use Rattle.bigendian.specs.Row.{decode}
use Rattle.bigendian.proofs.Rows.{length-decode}
use Rattle.dayformat.specs.declared.body.Column.{Column}
use Rattle.dayrows.specs.Test.{in_bounds}
use Rattle.dayruns.specs.declared.kind.Cursor.{Cursor}
use Rattle.dayruns.specs.Private.{numbers_at, AllWithin, KindRead}

-- the number at a place of numbers of one width
number_of_list : (many width place : ℕ) (list : List ℕ) → place < many
    → col (decode (replicate many width) list) place ≡ value (take width (drop (place * width) list))
unfolding decode
number_of_list zero width place list l = absurd (omega (arith, l))
number_of_list (suc many) width zero list l = rw (zero-mul width)
number_of_list (suc many) width (suc place) list l =
    let next : width + place * width ≡ suc place * width = omega arith in
    number_of_list many width place (drop width list) (omega (arith, l)) ∙ rw (drop-drop, next)

number_of_file : (many width place at : ℕ) (file : List ℕ) → place < many
    → col (decode (replicate many width) (drop at file)) place ≡ value (take width (drop (at + place * width) file))
number_of_file many width place at file l = number_of_list many width place (drop at file) l ∙ rw drop-drop

-- where the bytes of all are there, so are those of the one at a place
pub number-there : (at many width place : ℕ) {long : ℕ} → place < many → at + many * width ≤ long → at + place * width + width ≤ long
number-there at many width place l there = omega (arith, mul-le-mul_right {m = suc place} {n = many} width l, there)

-- where the number at a place begins
abbrev byte_of : ℕ → ℕ → ℕ → ℕ
byte_of at width place = at + place * width

-- ---- a loop has laid and tested the numbers before `place`
module _ (file : List ℕ) (from : Cursor) (many : ℕ) (column : Column) (lent : List ℕ) where
  abbrev numbers : List ℕ
  numbers = numbers_at column many file from.byte

  pub record Reading (place : ℕ) (list : List ℕ) (kept : Bool) : Type 0 where
    pub laying : Laying numbers lent from.to (drop place numbers) list (from.to + place)
    pub keeps : kept ≡ true → (from.kept ≡ true) × AllWithin column place numbers

  long : length numbers ≡ many
  long = length-decode (replicate many column.width) (drop from.byte file) ∙ length-replicate many column.width

  pub reading-none : Reading 0 lent from.kept
  reading-none =
      record { laying = word_none numbers lent from.to; keeps = λ e. (e, λ earlier l. absurd (omega (arith, l))) }

  module _ (place : ℕ) {list : List ℕ} {kept : Bool} (R : Reading place list kept) where
    pub reading-next : {number : ℕ} {after : List ℕ} {still : Bool} → place < many → column.width ≤ widest
        → (let byte = byte_of from.byte column.width place in
        number ≡ value (take (min column.width widest) (drop 0 (take (byte + column.width - byte) (drop byte file)))))
        → after ≡ set list (from.to + place) number
        → (still ≡ true → (kept ≡ true) × (column.low ≤ number) × (number ≤ column.high))
        → Reading (place + 1) after still
    reading-next {number} l narrow n e passed =
        record {
          laying = word_next numbers lent from.to place R.laying (omega (arith, long, l)) (rw read at e);
          keeps = λ s.
              let now = passed s in
              let earlier = R.keeps now.0 in
              (earlier.0, below_more _ place earlier.1 (within-here now.1 now.2));
        }
      where
        read : number ≡ col numbers place
        read =
            let byte = byte_of from.byte column.width place in
            let all : min column.width widest ≡ column.width = omega (arith, narrow) in
            let part : byte + column.width - byte ≡ column.width = omega arith in
            n
            ∙ rw (all, part, take-take column.width column.width (drop byte file) (omega arith))
            (sym (number_of_file many column.width place from.byte file l))

        within-here : column.low ≤ number → number ≤ column.high → in_bounds column (col numbers place) ≡ true
        within-here low high = rw (← read, le-leb column.low number low, le-leb number column.high high)

    pub reading-all : many ≤ place
        → KindRead file from many column lent list
        (record { byte = from.byte + many * column.width; to = from.to + many; kept = kept })
    reading-all h =
        record {
          lays = word-all numbers lent from.to place R.laying (omega (arith, long, h));
          byte = refl;
          place = refl;
          keeps = λ e. let earlier = R.keeps e in (earlier.0, λ i l. earlier.1 i (omega (arith, l, h)));
        }
