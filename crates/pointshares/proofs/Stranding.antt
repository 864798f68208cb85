-- Whether capacity is stranded, where two or more have some beyond their entitlements.
use mathlib.Core.Path.{◌≡◌}
use mathlib.Core.Bool.{false}
use mathlib.Core.List.{List}
use Prim.Native.Nat.{ℕ, ◌≤◌, ◌<◌}
use native.Mathlib.Nat.{pos_of_ne-zero}
use borrow.Author.Tests.{le-leb, lt-ltb, eqb-false}
use lib.Dec.{eqb}
use lib.ListN.{length}
use Rattle.pointshares.specs.Share.{total, stranded}

module _ (entitlements mdqs : List ℕ) (h : ℕ) (two : 2 ≤ length entitlements) where
  pub by_mdqs : total entitlements < h → eqb (total mdqs) 0 ≡ stranded entitlements mdqs h
  unfolding stranded
  by_mdqs above = simp (le-leb _ _ two, lt-ltb _ _ above)

  -- where capacity beyond the entitlements is not stranded, there is a firm MDQ
  pub not_stranded : stranded entitlements mdqs h ≡ false → total entitlements < h → 0 < total mdqs
  unfolding stranded
  not_stranded apart above = pos_of_ne-zero (eqb-false _ _ (simp (le-leb _ _ two, lt-ltb _ _ above) at apart))
