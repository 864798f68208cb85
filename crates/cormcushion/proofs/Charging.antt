-- The rate's refusal comes first; else the day's own answer is priced.
use Rattle.std.specs.Prelude.{Result, Ok, Err}
use mathlib.Core.Path.{◌≡◌}
use mathlib.Core.List.{List}
use Prim.Native.Nat.{ℕ}
use lib.Dec.{leb}
use Rattle.units.specs.declared.refusal.Refusal.{Refusal}
use Rattle.units.specs.Bound.{most_rate}
use Rattle.units.specs.Refusals.{keep, first_refusal}
use Rattle.cormcushion.specs.Packed.{refused}
use Rattle.cormcushion.specs.Meter.{of_overruns, with_overruns, rate_check, PricePacked}
use Rattle.overruns.specs.declared.day.Overruns.{Overruns}

module _ {rate : ℕ} {over : Result Overruns Refusal} {lent : List ℕ} {packed : ℕ} where
  pub refused-rate : {x : Refusal} → keep (leb rate most_rate) 3 ≡ Err x → packed ≡ refused x
      → PricePacked rate over lent packed lent
  unfolding rate_check first_refusal
  refused-rate is e = record { answers = rw is e; leaves = rw is }

  pub charged : {after : List ℕ} → keep (leb rate most_rate) 3 ≡ Ok tt → packed ≡ of_overruns rate over
      → after ≡ with_overruns rate over lent → PricePacked rate over lent packed after
  unfolding rate_check first_refusal
  charged is e l = record { answers = rw is e; leaves = rw is l }
