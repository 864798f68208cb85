-- What the reader accepts, the day's shares accept.
use Rattle.std.specs.Prelude.{Ok}
use mathlib.Core.Path.{◌≡◌, refl, ap, sym, ◌∙◌}
use mathlib.Core.Bool.{Bool, true, false, cond, not, true≢false}
use mathlib.Core.List.{List}
use Prim.Native.Nat.{ℕ, ◌-◌, ◌≤◌, ◌<◌}
use native.Mathlib.Nat.{le_of_eq}
use native.Mathlib.Omega.{arith}
use borrow.Author.Tests.{le-leb, le-ltb, lt-ltb}
use lib.ListN.{length}
use Rattle.columns.specs.Column.{col, listed}
use Rattle.columns.proofs.Firsts.{first-none}
use Rattle.columns.proofs.Lists.{length-listed, col-listed}
use Rattle.units.specs.Bound.{most_gigajoules}
use Rattle.units.specs.Refusals.{within, clear}
use Rattle.units.proofs.Checks.{accepts-both, accepts-kept, accepts-clear, accepts-within}
use Rattle.daytable.specs.Table.{Table, rows}
use Rattle.daytable.specs.Acceptance.{bounds_check, idle, first_idle, table_check}
use Rattle.dayformat.specs.declared.day.Day.{Day}
use Rattle.dayformat.specs.declared.form.Tag.TheVariants.{Shipper}
use Rattle.dayformat.specs.Format.{body, column_in}
use Rattle.dayformat.specs.Layout.{count}
use Rattle.dayrows.specs.declared.Source.TheVariants.{File}
use Rattle.dayrows.specs.declared.Test.TheVariants as Test
use Rattle.dayrows.specs.Test.{some_idle, passes}
use Rattle.dayrows.specs.Private.{Sound}
use Rattle.dayrows.proofs.Within.{passes-bounded}
use Rattle.dayvalues.specs.Column.{column, column_check}
use Rattle.dayvalues.specs.Row.{beyond}
use Rattle.dayvalues.proofs.Sounds.{counted, sound-number}
use Rattle.numbershares.specs.DayTable.{table_of}
use Rattle.numbershares.specs.Answer.{numbers_check}
use Rattle.numbershares.proofs.Tables.{table-long}

-- one of two that are not
neither : (a b : Bool) → not (cond a true (cond b true false)) ≡ true → (a ≡ false) × (b ≡ false)
neither true b e = absurd (true≢false (sym e))
neither false true e = absurd (true≢false (sym e))
neither false false e = (refl, refl)

module _ (day : Day) (numbers : List ℕ) (S : Sound day numbers) where
  abbrev T : Table
  T = table_of day (col numbers)

  abbrev many : ℕ
  many = count day.counts Shipper

  abbrev figure : ℕ → ℕ → ℕ
  figure place = column day.counts (col numbers) place

  -- ---- 3: a column of gigajoules is within its bound
  bounded : (place : ℕ) → 0 < place → place < 6 → (row : ℕ) → row < many → figure place row ≤ most_gigajoules
  unfolding column_in
  bounded place some few row l = omega (arith, sound-number day numbers S Shipper refl row l place few, kind_is)
    where
      kind_is : (column_in (body Shipper) place).high ≡ most_gigajoules
      kind_is = rw (le-ltb place 1 some, lt-ltb (place - 1) 5 (omega (arith, some, few)))

  column-within : (place : ℕ) → 0 < place → place < 6 → within most_gigajoules (listed many (figure place)) ≡ Ok tt
  column-within place some few =
      accepts-within most_gigajoules (listed many (figure place))
      (λ row l.
      let inside : row < many = rw length-listed at l in
      rw (col-listed many (figure place) row inside) (bounded place some few row inside))

  -- ---- 4: no schedule without its MDQ
  fed : (row : ℕ) → row < many → (idle (figure 1 row) (figure 3 row) ≡ false) × (idle (figure 2 row) (figure 4 row) ≡ false)
  unfolding passes some_idle
  fed row l = neither _ _ (S.passes Shipper refl Test.Mdq row l)

  none-idle : (mdq schedule : ℕ) → ((row : ℕ) → row < many → idle (figure mdq row) (figure schedule row) ≡ false)
      → clear (rows T) (first_idle (listed many (figure mdq)) (listed many (figure schedule))) 4 ≡ Ok tt
  none-idle mdq schedule fed =
      accepts-clear _ _ _
      (le_of_eq
      (length-listed _ _
      ∙ sym
      (length-listed _ _)
      ∙ sym
      (first-none (λ row. idle (col (listed many (figure mdq)) row) (col (listed many (figure schedule)) row))
      (length (listed many (figure mdq)))
      (λ row l.
      let inside : row < many = rw length-listed at l in
      rw (col-listed many (figure mdq) row inside, col-listed many (figure schedule) row inside) (fed row inside)))))

  few-rows : rows T ≤ 64
  few-rows = rw length-listed (S.few Shipper)

  within_bound : bounds_check T ≡ Ok tt
  unfolding bounds_check
  within_bound =
      accepts-both
      (accepts-both
      (accepts-both
      (accepts-both
      (accepts-both
      (accepts-both
      (accepts-both (accepts-both refl (accepts-kept 3 (le-leb _ _ S.free_flow))) (accepts-kept 3 (le-leb _ _ S.compressor)))
      (accepts-kept 3 (le-leb _ _ few-rows)))
      (column-within 1 (omega arith) (omega arith)))
      (column-within 2 (omega arith) (omega arith)))
      (column-within 3 (omega arith) (omega arith)))
      (column-within 4 (omega arith) (omega arith)))
      (column-within 5 (omega arith) (omega arith))

  -- with room for every table's rows
  pub shares_accept : (firm auction lower_tier : ℕ) → 64 ≤ firm → 64 ≤ auction → 64 ≤ lower_tier
      → table_check T firm auction lower_tier ≡ Ok tt
  unfolding table_check
  shares_accept firm auction lower_tier f a l =
      accepts-both
      (accepts-both
      (accepts-both
      (accepts-both (accepts-both (accepts-both (table-long day (col numbers)) within_bound) (none-idle 1 3 (λ row l. (fed row l).0)))
      (none-idle 2 4 (λ row l. (fed row l).1)))
      (accepts-kept 7 (le-leb (rows T) firm (omega (arith, few-rows, f)))))
      (accepts-kept 7 (le-leb (rows T) auction (omega (arith, few-rows, a)))))
      (accepts-kept 7 (le-leb (rows T) lower_tier (omega (arith, few-rows, l))))

  -- so the shares accept a day's numbers
  pub numbers_accept : (firm auction lower_tier : ℕ) → 64 ≤ firm → 64 ≤ auction → 64 ≤ lower_tier
      → numbers_check day numbers firm auction lower_tier ≡ Ok tt
  unfolding numbers_check
  numbers_accept firm auction lower_tier f a l = accepts-both (counted day numbers S) (shares_accept firm auction lower_tier f a l)

  -- and each column can be had by itself
  pub column-accepts : (place room : ℕ) → place < 6 → 64 ≤ room → column_check day.counts numbers place room ≡ Ok tt
  unfolding column_check beyond
  column-accepts place room few l =
      accepts-both
      (accepts-both (counted day numbers S)
      (accepts-clear _ _ _
      (le_of_eq
      (sym
      (first-none (λ row. beyond day.counts (col numbers) Shipper row place) many
      (λ row k.
      ap not
      ((passes-bounded File day.counts (col numbers) Shipper row (S.passes Shipper refl Test.Bounds row k)).1 place few)))))))
      (accepts-kept 7 (le-leb many room (omega (arith, S.few Shipper, l))))
