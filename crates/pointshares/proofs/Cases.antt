-- How great a share can be.
use mathlib.Core.List.{List}
use Prim.Native.Nat.{ℕ, ◌≤◌, ◌<◌}
use native.Mathlib.Omega.{arith}
use lib.ListN.{length}
use Rattle.columns.specs.Column.{col}
use Rattle.columns.proofs.Sums.{row_le_sum}
use Rattle.units.specs.Bound.{most_hour}
use Rattle.pointshares.specs.declared.totals.Totals.{Totals}
use Rattle.pointshares.specs.Share.{hour_shares}
use Rattle.pointshares.specs.Private.{Shareable}
use Rattle.pointshares.proofs.Shares.{spent}

module _ {h : ℕ} {t : Totals} {entitlements mdqs : List ℕ} (S : Shareable h t entitlements mdqs) where
  -- no share is above the capacity, nor its bound
  pub share-most : (i : ℕ) → i < length entitlements → hour_shares entitlements mdqs h i ≤ most_hour
  share-most i l =
      let all = spent (length entitlements) (col entitlements) (col mdqs) h S.served in
      omega (arith, row_le_sum (length entitlements) (hour_shares entitlements mdqs h) i l)
