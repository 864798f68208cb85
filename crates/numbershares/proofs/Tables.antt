-- What is tested before the table is made is what the table's own tests ask first, so they refuse a day's numbers alike.
use Rattle.std.specs.Prelude.{Ok, Err}
use mathlib.Core.Path.{◌≡◌, refl, ap, sym, ◌∙◌}
use mathlib.Core.List.{List, [], ◌∷◌}
use Prim.Native.Nat.{ℕ, ◌≤◌, ◌<◌}
use native.Mathlib.Omega.{arith}
use borrow.Author.Tests.{eq-eqb, le-leb}
use lib.Dec.{leb, ltb, eqb}
use lib.ListN.{length}
use Rattle.columns.specs.Column.{col, listed}
use Rattle.columns.proofs.Firsts.{first-same}
use Rattle.columns.proofs.Lists.{length-listed, col-listed}
use Rattle.units.specs.Bound.{most_gigajoules, most_rows}
use Rattle.units.specs.Refusals.{◌then◌, keep, clear, within, Check, first_refusal}
use Rattle.units.proofs.Checks.{then_accepted, both-accepted, accepts-both, accepts-kept}
use Rattle.daytable.specs.Table.{Table, rows}
use Rattle.daytable.specs.Acceptance.{bounds_check, lengths_check, table_check}
use Rattle.dayformat.specs.declared.day.Day.{Day}
use Rattle.dayformat.specs.declared.form.Tag.TheVariants.{Shipper}
use Rattle.dayformat.specs.Format.{name, gigajoules, ◌of◌}
use Rattle.dayformat.specs.Layout.{count, numbers_in}
use Rattle.dayformat.specs.Acceptance.{counts_check}
use Rattle.dayformat.proofs.Accepting.{counts-accepted}
use Rattle.dayformat.proofs.Bodies.{among}
use Rattle.dayvalues.specs.Row.{beyond}
use Rattle.dayvalues.specs.Column.{column, column_check, first_beyond}
use Rattle.dayvalues.proofs.Bounds.{beyond-gigajoules}
use Rattle.numbershares.specs.DayTable.{table_of}
use Rattle.numbershares.specs.Answer.{numbers_check}
use Rattle.numbershares.specs.Private.{columns_check, early_check}

-- ---- chains of tests
-- tests looked at as one, and tests looked at once more
grouped : (a b c d e f g : Check) → (a then b then (c then d then e then f then g))
    ≡ (Ok tt then a then b then Ok tt then c then d then e then f then g)
unfolding first_refusal
grouped (Ok _) (Ok _) c d e f g = refl
grouped (Ok _) (Err x) c d e f g = refl
grouped (Err x) b c d e f g = refl

again : (a b c d e f : Check) → (a then (Ok tt then a then b then c then d then e then f))
    ≡ (Ok tt then a then b then c then d then e then f)
unfolding first_refusal
again (Ok _) b c d e f = refl
again (Err x) b c d e f = refl

module _ (day : Day) (numbers : ℕ → ℕ) where
  abbrev many : ℕ
  many = count day.counts Shipper

  abbrev list : ℕ → List ℕ
  list place = listed many (column day.counts numbers place)

  -- the columns of the table that they make are as long as one another
  pub table-long : lengths_check (table_of day numbers) ≡ Ok tt
  unfolding lengths_check
  table-long =
      accepts-both (accepts-both (accepts-both (accepts-both refl (as_long 2)) (as_long 3)) (as_long 4)) (as_long 5)
    where
      as_long : (place : ℕ) → keep (eqb (length (list 1)) (length (list place))) 9 ≡ Ok tt
      as_long place = accepts-kept 9 (eq-eqb _ _ (length-listed _ _ ∙ sym (length-listed _ _)))

  -- a column's rows are tested as a list of gigajoules is
  rows-within : (place : ℕ) → 1 ≤ place → place < 6
      → clear many (first_beyond day.counts numbers place) 3 ≡ within most_gigajoules (list place)
  rows-within place h l =
      let found =
      first-same many (λ row. beyond day.counts numbers Shipper row place) (λ row. ltb most_gigajoules (col (list place) row))
      (λ row k.
      beyond-gigajoules day.counts numbers Shipper row place (among (1 of name ∷ []) (5 of gigajoules) [] place h l)
      ∙ ap (ltb most_gigajoules) (sym (col-listed many (column day.counts numbers place) row k)))
      in rw (found, length-listed)

module _ (day : Day) (numbers : List ℕ) where
  abbrev T : Table
  T = table_of day (col numbers)

  abbrev counted : Check
  counted = Ok tt then keep (eqb (length numbers) (numbers_in day.counts)) 9 then counts_check day.counts

  abbrev free_flow : Check
  free_flow = keep (leb T.free_flow most_gigajoules) 3

  abbrev compressor : Check
  compressor = keep (leb T.compressor most_gigajoules) 3

  abbrev tested : ℕ → Check
  tested place = within most_gigajoules (list day (col numbers) place)

  module _ (accepted : counted ≡ Ok tt) where
    few-rows : many day (col numbers) ≤ most_rows
    few-rows = counts-accepted day.counts (both-accepted _ _ accepted).1 Shipper

    column_is : (place : ℕ) → 1 ≤ place → place < 6 → column_check day.counts numbers place most_rows ≡ tested place
    unfolding column_check first_refusal
    column_is place h l =
        rw (accepted, accepts-kept 7 (le-leb _ most_rows few-rows)) (then_accepted _ ∙ rows-within day (col numbers) place h l)

    columns_are : columns_check day.counts numbers
        ≡ (tested 1 then tested 2 then tested 3 then tested 4 then tested 5)
    unfolding columns_check
    columns_are =
        rw (
          column_is 1 (omega arith) (omega arith),
          column_is 2 (omega arith) (omega arith),
          column_is 3 (omega arith) (omega arith),
          column_is 4 (omega arith) (omega arith),
          column_is 5 (omega arith) (omega arith),
        )

    figures-are : (free_flow then compressor then columns_check day.counts numbers) ≡ bounds_check T
    unfolding bounds_check
    figures-are =
        rw (columns_are, few-kept)
        (grouped free_flow compressor (tested 1) (tested 2) (tested 3) (tested 4) (tested 5))
      where
        few-kept : keep (leb (rows T) most_rows) 3 ≡ Ok tt
        few-kept = accepts-kept 3 (le-leb (rows T) most_rows (rw length-listed few-rows))

  -- tested again by the table, they change nothing
  module _ (firm auction lower_tier : ℕ) where
    figures-again : (bounds_check T then table_check T firm auction lower_tier) ≡ table_check T firm auction lower_tier
    unfolding table_check
    figures-again = rw (table-long day (col numbers)) (again (bounds_check T) _ _ _ _ _)

    pub figures-first : (early_check day numbers then table_check T firm auction lower_tier)
        ≡ numbers_check day numbers firm auction lower_tier
    unfolding early_check numbers_check first_refusal
    figures-first = by counted refl
      where
        by : (c : Check) → counted ≡ c
            → (c then free_flow then compressor then columns_check day.counts numbers then table_check T firm auction lower_tier)
            ≡ (c then table_check T firm auction lower_tier)
        by (Err x) e = refl
        by (Ok _) e = ap (λ found. found then table_check T firm auction lower_tier) (figures-are e) ∙ figures-again
