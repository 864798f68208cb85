-- Room for every listing of shares: each figure has as many digits as its bound at most, and there are at most 64 shippers.
use Rattle.std.specs.Prelude.{Ok}
use mathlib.Core.Path.{◌≡◌, refl}
use mathlib.Core.List.{List}
use Prim.Native.Nat.{ℕ, ◌≤◌, ◌<◌}
use native.Mathlib.Nat.{le_refl, le_trans}
use native.Mathlib.Omega.{arith}
use lib.ListN.{length, length-append}
use Rattle.columns.specs.Column.{col, joined}
use Rattle.columns.proofs.Lists.{length-listed}
use Rattle.units.specs.Bound.{most_gigajoules, most_capacity}
use Rattle.lines.proofs.Sizes.{line-none, line-within, figure-within}
use Rattle.lines.proofs.Texts.{texts_most}
use Rattle.daytable.specs.Table.{Table, rows}
use Rattle.daytable.specs.Acceptance.{table_check}
use Rattle.daytable.proofs.Accepting.{Accepting, accepting}
use Rattle.dayformat.specs.declared.day.Day.{Day}
use Rattle.dayformat.specs.declared.form.Tag.TheVariants.{Shipper}
use Rattle.dayformat.specs.Format.{column_in}
use Rattle.dayformat.specs.Layout.{count}
use Rattle.dayshares.specs.Given.{firm_given, firm_total, auction_given, lower_tier_given, left}
use Rattle.dayshares.specs.Promise.{Promise}
use Rattle.dayshares.proofs.Promises.{promises}
use Rattle.dayrows.specs.Private.{Sound}
use Rattle.dayvalues.specs.Shippers.{shipper_of}
use Rattle.dayvalues.proofs.Sounds.{sound-number}
use Rattle.numbershares.specs.DayTable.{table_of}
use Rattle.numbershares.proofs.SharesAccept.{shares_accept}
use Rattle.dayruns.specs.Walk.{file_check}
use Rattle.dayruns.proofs.Ending.{faultless}
use Rattle.dayfile.specs.File.{tables, walked}
use Rattle.dayfile.specs.Answer.{day_of}
use Rattle.dayfile.proofs.FileAgain.{day-number, read-sound}
use Rattle.sharelisting.specs.SharesText.{firm_word, left_word, head_line, shipper_line, shares_text, shares_listing}

-- ten digits for the day, seven for a total of gigajoules
head-most : (day firm left : ℕ) → day ≤ 4_294_967_295 → firm ≤ most_capacity → left ≤ most_capacity
    → length (head_line day firm left) ≤ 42
head-most day firm left d f l =
    line-within _ _ (le_refl 3)
    (figure-within 9 day _ (omega arith)
    (line-within firm_word _ (le_refl 4)
    (figure-within 6 firm _ (omega arith) (line-within left_word _ (le_refl 4) (figure-within 6 left _ (omega arith) line-none)))))

-- five for a shipper, seven for each share
line-most : (shipper firm auction lower_tier : ℕ) → shipper ≤ 65_535 → firm ≤ most_gigajoules → auction ≤ most_gigajoules
    → lower_tier ≤ most_gigajoules → length (shipper_line shipper firm auction lower_tier) ≤ 31
line-most shipper firm auction lower_tier s f a l =
    figure-within 4 shipper _ (omega arith)
    (figure-within 6 firm _ (omega arith)
    (figure-within 6 auction _ (omega arith) (figure-within 6 lower_tier _ (omega arith) line-none)))

module _ (day : Day) (numbers : List ℕ) (S : Sound day numbers) where
  abbrev T : Table
  T = table_of day (col numbers)

  accepted : table_check T 64 64 64 ≡ Ok tt
  accepted = shares_accept day numbers S 64 64 64 (le_refl 64) (le_refl 64) (le_refl 64)

  A : Accepting T 64 64 64
  A = accepting T 64 64 64 accepted

  P : Promise T (firm_given T) (auction_given T) (lower_tier_given T) (left T)
  P = promises T 64 64 64 accepted

  shipper-small : (row : ℕ) → row < count day.counts Shipper → shipper_of day.counts (col numbers) row ≤ 65_535
  unfolding column_in
  shipper-small row l = sound-number day numbers S Shipper refl row l 0 (omega arith)

  abbrev row_line : ℕ → List ℕ
  row_line row =
      shipper_line (shipper_of day.counts (col numbers) row) (firm_given T row) (auction_given T row) (lower_tier_given T row)

  row-most : (row : ℕ) → row < count day.counts Shipper → length (row_line row) ≤ 31
  row-most row l =
      let inside : row < rows T = rw length-listed l in
      line-most _ _ _ _ (shipper-small row l)
      (le_trans (P.firm_within row inside) (A.bounded.firm_schedule row (rw length-listed l)))
      (le_trans (P.auction_within row inside) (A.bounded.auction_schedule row (rw length-listed l)))
      (le_trans (P.lower_tier_within row inside) (A.bounded.lower_tier_schedule row (rw length-listed l)))

  totals-small : (firm_total T ≤ most_capacity) × (left T ≤ most_capacity)
  totals-small = (
    omega (arith, P.whole, A.bounded.free_flow, A.bounded.compressor),
    omega (arith, P.whole, A.bounded.free_flow, A.bounded.compressor),
  )

  day-most : day.head.day ≤ 4_294_967_295 → length (shares_text day (col numbers)) ≤ 2_048
  day-most d =
      omega (
        arith,
        length-append (head_line day.head.day (firm_total T) (left T)) (joined (count day.counts Shipper) row_line),
        head-most day.head.day (firm_total T) (left T) d totals-small.0 totals-small.1,
        texts_most row_line 31 (count day.counts Shipper) row-most,
        S.few Shipper,
      )

pub text-most : (file : List ℕ) → file_check (walked file) ≡ Ok tt → length (shares_listing file) ≤ 2_048
text-most file accepted =
    let none = faultless (walked file) accepted in
    day-most (day_of file) (tables file).numbers (read-sound file none) (day-number file none)
