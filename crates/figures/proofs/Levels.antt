-- The levels of 01's three days: each fits, and it is the top or the next one does not fit.
use mathlib.Core.Path.{◌≡◌, refl, sym}
use mathlib.Core.Logic.{inl, inr}
use mathlib.Core.List.{[], ◌∷◌}
use Prim.Native.Nat.{ℕ, ◌+◌}
use lib.Dec.{T, leb, ltb, lit<, lit≤}
use Rattle.columns.specs.Sum.{sum}
use Rattle.columns.specs.Column.{col}
use Rattle.sharing.specs.Round.{top, total, level}
use Rattle.sharing.specs.Chain.{after}
use Rattle.sharing.proofs.Levels.{level_one as the-level}
use Rattle.dayshares.specs.Firm.{level_one, level_two, level_three, given_one, given_two, firm}
use Rattle.figures.specs.Days.{first_day, second_day, third_day}

module _ (n : ℕ) (w q : ℕ → ℕ) (c : ℕ) where
  below_top : (t : ℕ) → T (leb t top) × T (leb (total n w q t) c) × T (ltb c (total n w q (t + 1))) → level n w q c ≡ t
  below_top t (capped, fits, last) =
      sym (the-level n w q (record { capped = lit≤ capped; fits = lit≤ fits; last = inr (lit< last) }))

  at_top : T (leb (total n w q top) c) → level n w q c ≡ top
  at_top fits = sym (the-level n w q (record { capped = lit≤ tt; fits = lit≤ fits; last = inl refl }))

pub first_one : level_one (firm first_day) ≡ 803_333
unfolding sum
first_one = below_top _ _ _ _ _ (tt, tt, tt)

pub first_two : level_two (firm first_day) ≡ 1_009_999
unfolding sum given_one
first_two = below_top _ _ _ _ _ (rw first_one (tt, tt, tt))

pub first_three : level_three (firm first_day) ≡ 2_499
unfolding sum given_one given_two after
first_three = below_top _ _ _ _ _ (rw (first_two, first_one) (tt, tt, tt))

pub second-one : level_one (firm second_day) ≡ 1_333_333
unfolding sum
second-one = below_top _ _ _ _ _ (tt, tt, tt)

pub second-two : level_two (firm second_day) ≡ 999_999
unfolding sum given_one
second-two = below_top _ _ _ _ _ (rw second-one (tt, tt, tt))

pub second-three : level_three (firm second_day) ≡ 249_999
unfolding sum given_one given_two after
second-three = below_top _ _ _ _ _ (rw (second-two, second-one) (tt, tt, tt))

pub third-one : level_one (firm third_day) ≡ top
unfolding sum
third-one = at_top _ _ _ _ tt

pub third-two : level_two (firm third_day) ≡ top
unfolding sum given_one
third-two = at_top _ _ _ _ (rw third-one tt)

pub third-three : level_three (firm third_day) ≡ top
unfolding sum given_one given_two after
third-three = at_top _ _ _ _ (rw (third-two, third-one) tt)

-- auction: firm is full and leaves 300
pub third-auction : level 2 (col (100 ∷ 300 ∷ [])) (col (200 ∷ 300 ∷ [])) 300 ≡ 753_333
unfolding sum
third-auction = below_top _ _ _ _ _ (tt, tt, tt)
