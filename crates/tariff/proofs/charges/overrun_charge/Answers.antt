-- The product of two figures that the tests accept fits.
use native.Mathlib.Nat.{mul-le-mul}
use native.Mathlib.Omega.{arith}
use Rattle.units.proofs.Checks.{at_most}
use Rattle.tariff.proofs.charges.overrun_charge.Goals as goal

pub overflow_mul-rate : goal.overflow_mul-rate
overflow_mul-rate c =
    omega (
      arith,
      mul-le-mul (at_most _ c.keep.ensures c.in_ok-keep.was) (at_most _ c.keep-2.ensures c.in_ok-keep-2.was),
    )
