-- 01, "An hour at a point": what the shares of every accepted hour keep, in the list that a caller holds afterwards.
use Rattle.std.specs.Prelude.{◌≡◌, List, ℕ, ◌+◌, ◌≤◌, ◌<◌, length, take, drop, Result}
use Rattle.columns.specs.Column.{col}
use Rattle.columns.specs.Sum.{sum}
use Rattle.pointshares.specs.Answer.{hour_verdict}
use Rattle.units.specs.declared.Megajoules.{Megajoules}
use Rattle.units.specs.declared.refusal.Refusal.{Refusal}

pub record HourKept (h : ℕ) (entitlements lent : List ℕ) (hour : Result Megajoules Refusal) (after : List ℕ) : Type 0 where
  -- the figure is what the shares at the front come to
  pub total : (hour_verdict hour).figures.0 ≡ sum (length entitlements) (col (take (length entitlements) after))
  -- they never pass H
  pub most : (hour_verdict hour).figures.0 ≤ h
  -- with at least one shipper they fall short of H by fewer MJ than there are shippers
  pub short : 0 < length entitlements → h < (hour_verdict hour).figures.0 + length entitlements
  -- the rest of the list is as it was
  pub rest : drop (length entitlements) after ≡ drop (length entitlements) lent
