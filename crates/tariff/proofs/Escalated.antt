-- Escalation gives the definition's rate where every figure is within its bound, and no rate beyond its own.
use Rattle.std.specs.Prelude.{Ok}
use mathlib.Core.Path.{◌≡◌}
use Prim.Native.Nat.{ℕ, ◌≤◌, ◌<◌}
use borrow.Author.Tests.{leb-true, le-leb, lt-ltb}
use Rattle.units.specs.Bound.{most_rate, most_cpi}
use Rattle.units.specs.Refusals.{first_refusal, keep}
use Rattle.units.specs.declared.Rate.{Rate}
use Rattle.units.proofs.Checks.{both-accepted, kept}
use Rattle.tariff.specs.Escalation.{escalated_rate, escalation_check, escalation}

module _ (old : Rate) (new_cpi old_cpi : ℕ) where
  pub escalated_within : escalation_check old new_cpi old_cpi ≡ Ok tt → (escalated_rate old new_cpi old_cpi).0 ≤ most_rate
  unfolding escalation_check
  escalated_within e = leb-true _ _ (kept _ _ (both-accepted _ _ e).1)

  pub escalated : old.0 ≤ most_rate → new_cpi ≤ most_cpi → old_cpi ≤ most_cpi → 0 < old_cpi
      → (escalated_rate old new_cpi old_cpi).0 ≤ most_rate
      → escalation old new_cpi old_cpi ≡ Ok (escalated_rate old new_cpi old_cpi)
  unfolding escalation_check first_refusal keep
  escalated a b c d e = rw (le-leb _ _ a, le-leb _ _ b, le-leb _ _ c, lt-ltb _ _ d, le-leb _ _ e)
