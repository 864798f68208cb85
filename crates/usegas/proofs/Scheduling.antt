-- Whether net gas has no schedule to share it by: what the rows say of the total, and what it says of it where it is not so.
use mathlib.Core.Path.{◌≡◌, ap, sym, ◌∙◌}
use mathlib.Core.Bool.{Bool, true, false}
use mathlib.Core.List.{List}
use Prim.Native.Nat.{ℕ, ◌<◌}
use native.Mathlib.Nat.{pos_of_ne-zero, zero-add}
use native.Mathlib.Omega.{arith}
use borrow.Author.Tests.{lt-ltb, eq-eqb, ne_eqb, eqb-false}
use lib.Dec.{eqb}
use lib.ListN.{length, get_or}
use Rattle.std.specs.List.{AllWithin, HoldsAt, range_with_len}
use Rattle.std.specs.Bool.{MatchBool}
use Rattle.std.proofs.lemmas.List.FromFn.{length-range_with_len, get_or-range_with_len}
use Rattle.columns.proofs.Sums.{row_le_sum, sum_bound}
use Rattle.usegas.specs.Share.{weights, total, unscheduled}

-- the total is zero exactly where no row has a schedule
module _ (foundation : ℕ) (schedules : List ℕ) where
  abbrev n : ℕ
  n = length schedules

  abbrev rows : List ℕ
  rows = range_with_len 0 n

  long : length rows ≡ n
  long = length-range_with_len 0 n

  row-at : (i : ℕ) → i < n → get_or rows i 0 ≡ i
  row-at i l = get_or-range_with_len 0 n i 0 l ∙ zero-add i

  pub total-nothing : (nothing : Bool)
      → MatchBool nothing (AllWithin (λ i. weights foundation schedules i ≡ 0) rows 0 (length rows))
      ((i : ℕ) × (i < length rows) × HoldsAt (λ i. weights foundation schedules i ≡ 0 → ⊥) rows i)
      → nothing ≡ eqb (total foundation schedules) 0
  total-nothing true none =
      let weight = weights foundation schedules in
      let each : (i : ℕ) → i < n → weight i ≡ 0 = λ i l. sym (ap weight (row-at i l)) ∙ none i 0 (omega arith) (omega (arith, long)) in
      sym (eq-eqb (total foundation schedules) 0 (omega (arith, sum_bound n weight 0 (λ i l. omega (arith, each i l)))))
  total-nothing false some =
      let l : some.0 < n = omega (arith, some.1, long) in
      let here = rw (row-at some.0 l) at (some.2 0) in
      sym (ne_eqb (total foundation schedules) 0 (λ zero. here (omega (arith, row_le_sum n (weights foundation schedules) some.0 l))))

-- where there is net gas to share, there is a schedule
pub some-schedule : (net total : ℕ) → unscheduled net total ≡ false → 0 < net → 0 < total
unfolding unscheduled
some-schedule net total scheduled some = pos_of_ne-zero (eqb-false _ _ (simp (lt-ltb _ _ some) at scheduled))
