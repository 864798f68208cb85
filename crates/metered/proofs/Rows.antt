-- The figures of a row, yesterday's hours followed by today's, and a whole list as what a loop has written.
use mathlib.Core.Path.{◌≡◌, ap, sym, ◌∙◌}
use mathlib.Core.List.{List, [], ◌++◌, append-nil}
use Prim.Native.Nat.{ℕ, ◌+◌, ◌≤◌}
use native.Mathlib.Omega.{arith}
use borrow.Rule.Slice.PartMut.{put_mid}
use lib.ListN.{take, length-append, length, drop, get_or, drop_of_length-le, length-map, get_or-map}
use lib.Seq.{sets, sets-eq, take_at, drop_at}
use Rattle.columns.specs.Column.{col}
use Rattle.columns.proofs.Lists.{Filling, filling_all, listed-col}
use Rattle.units.specs.declared.Megajoules.{Megajoules}
use Rattle.metered.specs.Hours.{bare_hours, both_days}

-- an hour's figure
pub figure_at : (row : List Megajoules) (hour : ℕ) → (get_or row hour (record { 0 = 0 })).0 ≡ col (bare_hours row) hour
figure_at row hour = sym (get_or-map (λ x. x.0) row hour (record { 0 = 0 }))

pub length-figures : (row : List Megajoules) → length (bare_hours row) ≡ length row
length-figures row = length-map row (λ x. x.0)

-- ---- yesterday's hours followed by today's
module _ (yesterday today : List Megajoules) (eleven : length yesterday ≡ 11) where
  pub length-days : length today ≡ 24 → length (both_days yesterday today) ≡ 35
  length-days n =
      length-append (bare_hours yesterday) (bare_hours today) ∙ omega (arith, length-figures yesterday, length-figures today)

  pub first-days : take 11 (both_days yesterday today) ≡ bare_hours yesterday
  first-days = take_at (bare_hours yesterday) (bare_hours today) 11 (length-figures yesterday ∙ eleven)

-- yesterday's numbers to the front of a list of 35, and today's behind them
pub days-copied : (yesterday today begun first second : List ℕ) → length begun ≡ 24 → length yesterday ≡ 11 → first ≡ yesterday
    → second ≡ today → put_mid 11 24 (first ++ begun) second ≡ yesterday ++ today
days-copied yesterday today begun first second room eleven e f =
    let behind : drop 24 begun ≡ [] = drop_of_length-le begun {i = 24} (omega arith) in
    rw (e, f, take_at yesterday begun 11 eleven, drop_at yesterday begun 11 eleven, behind)
    (ap (λ l. yesterday ++ l) (append-nil today))

-- a list is whole once its last hour is written
pub filled : (start xs : List ℕ) (n : ℕ) {row : ℕ} {list : List ℕ} → length start ≡ n → length xs ≡ n
    → Filling start (col xs) row list → row ≤ n → n ≤ row → list ≡ xs
filled start xs n {row} {list} a b F h k =
    let rest : drop (0 + length xs) start ≡ [] = drop_of_length-le start {i = 0 + length xs} (omega arith) in
    filling_all start (col xs) (length xs) row list F (omega arith) (omega arith)
    ∙ ap (sets start 0) (listed-col xs)
    ∙ sets-eq xs start 0 (omega arith)
    ∙ rw rest (append-nil xs)
