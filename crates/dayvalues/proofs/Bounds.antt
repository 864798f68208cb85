-- A number that is not beyond its bounds is at most the greatest of its kind; of gigajoules just those above the greatest are beyond.
use mathlib.Core.Path.{◌≡◌, refl}
use mathlib.Core.Bool.{Bool, true, false, not}
use Prim.Native.Nat.{ℕ, ◌≤◌}
use native.Mathlib.Omega.{arith}
use borrow.Author.Tests.{ltb-true, ltb-false, not-false}
use lib.Dec.{ltb}
use Rattle.units.specs.Bound.{most_gigajoules}
use Rattle.dayformat.specs.declared.form.Tag.{Tag}
use Rattle.dayformat.specs.declared.layout.Counts.{Counts}
use Rattle.dayformat.specs.Format.{gigajoules, body, column_in}
use Rattle.dayrows.specs.Test.{in_bounds}
use Rattle.dayrows.proofs.Within.{above-high, between, within-bounds}
use Rattle.dayvalues.specs.Row.{number_at, beyond}

module _ (counts : Counts) (numbers : ℕ → ℕ) (tag : Tag) (row place : ℕ) where
  abbrev figure : ℕ
  figure = number_at counts numbers tag row place

  module _ (inside : beyond counts numbers tag row place ≡ false) where
    pub at_most-high : figure ≤ (column_in (body tag) place).high
    unfolding beyond
    at_most-high = (within-bounds (column_in (body tag) place) figure (not-false _ inside)).1

    pub gigajoules-most : column_in (body tag) place ≡ gigajoules → figure ≤ most_gigajoules
    gigajoules-most e = rw e at at_most-high

  pub beyond-gigajoules : column_in (body tag) place ≡ gigajoules → beyond counts numbers tag row place ≡ ltb most_gigajoules figure
  unfolding beyond
  beyond-gigajoules e = rw e (by (ltb most_gigajoules figure) refl)
    where
      by : (b : Bool) → ltb most_gigajoules figure ≡ b → not (in_bounds gigajoules figure) ≡ b
      by true h = above-high gigajoules figure (omega arith) (ltb-true _ _ h)
      by false h = between gigajoules figure (omega arith) (ltb-false _ _ h)
