-- An escalated rate that the tests accept fits.
use native.Mathlib.Omega.{arith}
use Rattle.units.proofs.Checks.{at_most}
use Rattle.tariff.proofs.Products.{product-fits}
use Rattle.tariff.proofs.escalation.escalate.Goals as goal

pub overflow_mul-old : goal.overflow_mul-old
overflow_mul-old c = record { fits = product-fits (omega arith) (omega arith) }

pub overflow_cast-result : goal.overflow_cast-result
overflow_cast-result c = omega (arith, at_most _ c.keep-5.ensures c.in_ok-keep-5.was)
