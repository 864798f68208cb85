-- Figures within their bounds are charged the definition's cents, and an overrun is charged only within them.
use Rattle.std.specs.Prelude.{Ok}
use mathlib.Core.Path.{◌≡◌}
use Prim.Native.Nat.{ℕ, ◌≤◌}
use borrow.Author.Tests.{leb-true, le-leb}
use Rattle.units.specs.Bound.{most_gigajoules, most_chargeable, most_requests, most_rate}
use Rattle.units.specs.Refusals.{keep, first_refusal}
use Rattle.units.specs.declared.Megajoules.{Megajoules}
use Rattle.units.specs.declared.Rate.{Rate}
use Rattle.units.proofs.Checks.{both-accepted, kept}
use Rattle.tariff.specs.declared.charges.Change.{Change}
use Rattle.tariff.specs.Charges.{overrun_cents, overrun_check, overrun_charge}
use Rattle.tariff.specs.Charges.{variation_cents, variation_check, variation_charge}
use Rattle.tariff.specs.Charges.{request_cents, request_check, request_charge}

module _ (rate : Rate) (overrun : Megajoules) where
  pub overrun-within : overrun_check rate overrun ≡ Ok tt → (rate.0 ≤ most_rate) × (overrun.0 ≤ most_chargeable)
  unfolding overrun_check
  overrun-within e =
      let both = both-accepted _ _ e in
      (leb-true _ _ (kept _ _ (both-accepted _ _ both.0).1), leb-true _ _ (kept _ _ both.1))

  pub overrun_charged : rate.0 ≤ most_rate → overrun.0 ≤ most_chargeable
      → overrun_charge rate overrun ≡ Ok (overrun_cents rate overrun)
  unfolding overrun_check first_refusal keep
  overrun_charged a b = rw (le-leb _ _ a, le-leb _ _ b)

pub variation_charged : (rate : Rate) (receipt delivery : Change)
    → rate.0 ≤ most_rate → receipt.old.0 ≤ most_gigajoules → receipt.new.0 ≤ most_gigajoules
    → delivery.old.0 ≤ most_gigajoules → delivery.new.0 ≤ most_gigajoules
    → variation_charge rate receipt delivery ≡ Ok (variation_cents rate receipt delivery)
unfolding variation_check first_refusal keep
variation_charged rate receipt delivery a b c d e = rw (le-leb _ _ a, le-leb _ _ b, le-leb _ _ c, le-leb _ _ d, le-leb _ _ e)

pub request_charged : (rate : Rate) (requests : ℕ) → rate.0 ≤ most_rate → requests ≤ most_requests
    → request_charge rate requests ≡ Ok (request_cents rate requests)
unfolding request_check first_refusal keep
request_charged rate requests a b = rw (le-leb _ _ a, le-leb _ _ b)
