-- The quotient is close enough where the rest is below half of the denominator, and one more is where it is not.
use native.Mathlib.Nat.{le_of_lt, mod-lt}
use native.Mathlib.Omega.{arith}
use Rattle.tariff.proofs.HalfUps.{by_zero, rounds_down, rounds_up, up_fits}
use Rattle.tariff.proofs.rounding.half_up.Goals as goal

pub returns-then-denominator-eq0 : goal.returns-then-denominator-eq0
returns-then-denominator-eq0 c = by_zero _ _ c.if-denominator-eq0.true

pub overflow_sub-denominator : goal.overflow_sub-denominator
overflow_sub-denominator c = le_of_lt (mod-lt _ (omega arith))

pub returns-then-rest-denominator : goal.returns-then-rest-denominator
returns-then-rest-denominator c = rounds_down _ _ (omega arith) (omega arith)

pub overflow_add-result : goal.overflow_add-result
overflow_add-result c = omega (arith, up_fits _ _ (omega arith) c.if-rest-denominator.false)

pub returns : goal.returns
returns c = rounds_up _ _ (omega arith) (omega arith)
