-- 01, "System use gas": what the shares of every accepted input keep, in the list that a caller holds afterwards.
use Rattle.std.specs.Prelude.{◌≡◌, List, ℕ, ◌+◌, ◌-◌, ◌≤◌, ◌<◌, length, take, drop, Result}
use Rattle.columns.specs.Column.{col}
use Rattle.columns.specs.Sum.{sum}
use Rattle.usegas.specs.General.{gas_verdict}
use Rattle.units.specs.declared.Megajoules.{Megajoules}
use Rattle.units.specs.declared.refusal.Refusal.{Refusal}

pub record GasKept (sug fssug foundation : ℕ) (schedules lent : List ℕ) (gas : Result Megajoules Refusal) (after : List ℕ) : Type 0 where
  -- the figure is what the shares at the front come to
  pub total : (gas_verdict gas).figures.0 ≡ sum (length schedules) (col (take (length schedules) after))
  -- they never pass the net gas
  pub most : (gas_verdict gas).figures.0 ≤ sug - fssug
  -- and fall short of it, where it is above zero, by fewer MJ than there are rows
  pub short : 0 < sug - fssug → sug - fssug < (gas_verdict gas).figures.0 + length schedules
  -- the Foundation Shipper's share is zero
  pub excepted : foundation < length schedules → col (take (length schedules) after) foundation ≡ 0
  -- the rest of the list is as it was
  pub rest : drop (length schedules) after ≡ drop (length schedules) lent
