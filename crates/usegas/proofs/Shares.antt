-- The weights and the shares of net gas.
use mathlib.Core.Path.{◌≡◌, refl}
use mathlib.Core.List.{List}
use Prim.Native.Nat.{ℕ, ◌≤◌, ◌<◌}
use native.Mathlib.Nat.{mul-zero, zero-div}
use native.Mathlib.Decide.{ℕ_discrete}
use native.Mathlib.Omega.{arith}
use borrow.Author.Tests.{eq-eqb, ne_eqb}
use lib.ListN.{length}
use Rattle.columns.specs.Column.{col}
use Rattle.columns.proofs.Sums.{row_le_sum}
use Rattle.sharing.proofs.Parts.{parts_spent}
use Rattle.units.specs.Bound.{most_system_use, most_gigajoules}
use Rattle.usegas.specs.Share.{weights, gas_shares}
use Rattle.usegas.specs.Private.{Rows, Shareable}

module _ (foundation : ℕ) (schedules : List ℕ) where
  pub weight-excepted : (i : ℕ) → i ≡ foundation → weights foundation schedules i ≡ 0
  unfolding weights
  weight-excepted i e = rw (eq-eqb i foundation e)

  pub weight-other : (i : ℕ) → (i ≡ foundation → ⊥) → weights foundation schedules i ≡ col schedules i
  unfolding weights
  weight-other i f = rw (ne_eqb i foundation f)

  pub weight-small : Rows schedules → (i : ℕ) → i < length schedules → weights foundation schedules i ≤ most_gigajoules
  weight-small R i l =
      elim (ℕ_discrete i foundation) [
        | yes e ↦ omega (arith, weight-excepted i e)
        | no f ↦ omega (arith, weight-other i f, R.small i l)
      ]

  pub weighed_small : Rows schedules → (i weight : ℕ) → weight ≡ weights foundation schedules i → i < length schedules
      → weight ≤ most_gigajoules
  weighed_small R i weight weighs l = rw weighs (weight-small R i l)

  -- the Foundation Shipper's share is zero
  pub foundation-nothing : (net : ℕ) → gas_shares foundation schedules net foundation ≡ 0
  foundation-nothing net = rw (weight-excepted foundation refl, mul-zero, zero-div)

module _ {net t foundation : ℕ} {schedules : List ℕ} (S : Shareable net t foundation schedules) where
  -- no share is above the net gas, nor its bound
  pub share-most : (i : ℕ) → i < length schedules → gas_shares foundation schedules net i ≤ most_system_use
  share-most i l =
      let all = parts_spent (length schedules) (weights foundation schedules) net S.scheduled in
      omega (arith, row_le_sum (length schedules) (gas_shares foundation schedules net) i l)
