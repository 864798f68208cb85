-- The cents of every variation and request charge are at most what 01's bounds can yield, which they reach.
use Rattle.std.specs.Prelude.{Result, Ok}
use mathlib.Core.Path.{◌≡◌, refl}
use Prim.Native.Nat.{ℕ, ◌≤◌}
use native.Mathlib.Nat.{mul-le-mul}
use native.Mathlib.Omega.{arith}
use borrow.Author.Tests.{leb-true}
use Rattle.units.specs.declared.Rate.{Rate}
use Rattle.units.specs.Bound.{most_gigajoules, most_requests, most_rate}
use Rattle.units.proofs.Checks.{both-accepted, kept}
use Rattle.units.proofs.Verdicts.{every-figure}
use Rattle.tariff.specs.declared.charges.Change.{Change}
use Rattle.tariff.specs.HalfUp.{half_up}
use Rattle.tariff.specs.Charges.{charge_verdict, upward, larger, variation_cents, most_variation, variation_check, variation_charge}
use Rattle.tariff.specs.Charges.{request_cents, most_request, request_check, request_charge}
use Rattle.tariff.proofs.Decided.{variation_decided, request_decided}
use Rattle.units.specs.declared.Cents.{Cents}
use Rattle.units.specs.declared.refusal.Refusal.{Refusal}

module _ (rate : Rate) (receipt delivery : Change) where
  variation_most : variation_check rate receipt delivery ≡ Ok tt → (variation_cents rate receipt delivery).0 ≤ most_variation
  unfolding variation_check half_up
  variation_most accepted =
      let up-to-delivery = both-accepted _ _ accepted in
      let up-to-old = both-accepted _ _ up-to-delivery.0 in
      let up-to-receipt = both-accepted _ _ up-to-old.0 in
      let up-to-rate = both-accepted _ _ (both-accepted _ _ up-to-receipt.0).0 in
      let r : rate.0 ≤ most_rate = leb-true _ _ (kept _ _ up-to-rate.1) in
      let a : receipt.new.0 ≤ most_gigajoules = leb-true _ _ (kept _ _ up-to-receipt.1) in
      let b : delivery.new.0 ≤ most_gigajoules = leb-true _ _ (kept _ _ up-to-delivery.1) in
      let up : (larger (upward receipt) (upward delivery)).0 ≤ most_gigajoules = omega arith in
      omega (arith, mul-le-mul r up)

  -- for callers: of every answer, refused or not
  pub variation_kept : {charge : Result Cents Refusal} → charge ≡ variation_charge rate receipt delivery
      → (charge_verdict charge).figures.0 ≤ most_variation
  variation_kept is =
      every-figure (λ due. due.0 ≤ most_variation) (variation_decided rate receipt delivery is) variation_most (omega arith)

module _ (rate : Rate) (requests : ℕ) where
  request_most : request_check rate requests ≡ Ok tt → (request_cents rate requests).0 ≤ most_request
  unfolding request_check half_up
  request_most accepted =
      let both = both-accepted _ _ accepted in
      let r : rate.0 ≤ most_rate = leb-true _ _ (kept _ _ (both-accepted _ _ both.0).1) in
      let q : requests ≤ most_requests = leb-true _ _ (kept _ _ both.1) in
      let each : half_up rate.0 1_000 ≤ 100_000 = omega arith in
      omega (arith, mul-le-mul each q)

  pub request_kept : {charge : Result Cents Refusal} → charge ≡ request_charge rate requests → (charge_verdict charge).figures.0 ≤ most_request
  request_kept is = every-figure (λ due. due.0 ≤ most_request) (request_decided rate requests is) request_most (omega arith)

-- the greatest rate, the greatest change up, the most requests
abbrev greatest_rate : Rate
greatest_rate = record { 0 = most_rate }

abbrev all_up : Change
all_up = record { old = record { 0 = 0 }; new = record { 0 = most_gigajoules } }

pub variation_reached : (variation_cents greatest_rate all_up all_up).0 ≡ most_variation
unfolding half_up
variation_reached = refl

pub request_reached : (request_cents greatest_rate most_requests).0 ≡ most_request
unfolding half_up
request_reached = refl
