-- What is rounded and then multiplied fits.
use native.Mathlib.Omega.{arith}
use Rattle.tariff.specs.HalfUp.{half_up}
use Rattle.tariff.proofs.Products.{product-fits}
use Rattle.tariff.proofs.charges.request_charge.Goals as goal

pub overflow_mul-result : goal.overflow_mul-result
unfolding half_up
overflow_mul-result c = record { fits = product-fits (omega (arith, c.half_up.ensures)) (omega arith) }
