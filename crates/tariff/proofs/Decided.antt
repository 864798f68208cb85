-- The tests decide an answer of each routine: number 0 exactly where they accept, zero where they refuse.
use Rattle.std.specs.Prelude.{Result}
use mathlib.Core.Path.{◌≡◌, refl}
use Prim.Native.Nat.{ℕ}
use Rattle.units.specs.declared.Megajoules.{Megajoules}
use Rattle.units.specs.declared.Rate.{Rate}
use Rattle.units.specs.Verdict.{Decided}
use Rattle.units.proofs.Verdicts.{AllNumbered, none, ◌and◌, kept_by, decided}
use Rattle.tariff.specs.declared.charges.Change.{Change}
use Rattle.tariff.specs.Charges.{charge_answer, charge_verdict, overrun_cents, overrun_check, overrun_charge, variation_cents, variation_check, variation_charge, request_cents, request_check, request_charge}
use Rattle.tariff.specs.Escalation.{escalation_answer, escalation_verdict, escalated_rate, escalation_check, escalation}
use Rattle.units.specs.declared.Cents.{Cents}
use Rattle.units.specs.declared.refusal.Refusal.{Refusal}

module _ (rate : Rate) (overrun : Megajoules) where
  pub overrun_numbered : AllNumbered (overrun_check rate overrun)
  unfolding overrun_check
  overrun_numbered = none and kept_by _ 3 tt tt and kept_by _ 3 tt tt

  pub overrun_decided : {charge : Result Cents Refusal} → charge ≡ overrun_charge rate overrun
      → Decided (overrun_check rate overrun) (overrun_cents rate overrun) (record { 0 = 0 }) (charge_verdict charge)
  overrun_decided = decided charge_answer charge_verdict refl (λ refusal. refl) overrun_numbered

module _ (rate : Rate) (receipt delivery : Change) where
  pub variation_numbered : AllNumbered (variation_check rate receipt delivery)
  unfolding variation_check
  variation_numbered =
      none and kept_by _ 3 tt tt and kept_by _ 3 tt tt and kept_by _ 3 tt tt and kept_by _ 3 tt tt and kept_by _ 3 tt tt

  pub variation_decided : {charge : Result Cents Refusal} → charge ≡ variation_charge rate receipt delivery
      → Decided (variation_check rate receipt delivery) (variation_cents rate receipt delivery) (record { 0 = 0 }) (charge_verdict charge)
  variation_decided = decided charge_answer charge_verdict refl (λ refusal. refl) variation_numbered

module _ (rate : Rate) (requests : ℕ) where
  pub request_numbered : AllNumbered (request_check rate requests)
  unfolding request_check
  request_numbered = none and kept_by _ 3 tt tt and kept_by _ 3 tt tt

  pub request_decided : {charge : Result Cents Refusal} → charge ≡ request_charge rate requests
      → Decided (request_check rate requests) (request_cents rate requests) (record { 0 = 0 }) (charge_verdict charge)
  request_decided = decided charge_answer charge_verdict refl (λ refusal. refl) request_numbered

module _ (old : Rate) (new_cpi old_cpi : ℕ) where
  pub escalation_numbered : AllNumbered (escalation_check old new_cpi old_cpi)
  unfolding escalation_check
  escalation_numbered =
      none and kept_by _ 3 tt tt and kept_by _ 3 tt tt and kept_by _ 3 tt tt and kept_by _ 10 tt tt and kept_by _ 8 tt tt

  pub escalation_decided : {new : Result Rate Refusal} → new ≡ escalation old new_cpi old_cpi
      → Decided (escalation_check old new_cpi old_cpi) (escalated_rate old new_cpi old_cpi) (record { 0 = 0 }) (escalation_verdict new)
  escalation_decided = decided escalation_answer escalation_verdict refl (λ refusal. refl) escalation_numbered
