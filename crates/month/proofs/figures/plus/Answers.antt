-- Each sum fits its type, as is required.
use native.Mathlib.Omega.{arith}
use Rattle.month.proofs.figures.plus.Goals as goal

pub overflow_add-result : goal.overflow_add-result
overflow_add-result c =
    omega (arith, c.requires 0 (omega arith))

pub overflow_add-result-2 : goal.overflow_add-result-2
overflow_add-result-2 c =
    omega (arith, c.requires 1 (omega arith))

pub overflow_add-result-3 : goal.overflow_add-result-3
overflow_add-result-3 c =
    omega (arith, c.requires 2 (omega arith))

pub overflow_add-result-4 : goal.overflow_add-result-4
overflow_add-result-4 c =
    omega (arith, c.requires 3 (omega arith))

pub overflow_add-result-5 : goal.overflow_add-result-5
overflow_add-result-5 c =
    omega (arith, c.requires 4 (omega arith))

pub overflow_add-result-6 : goal.overflow_add-result-6
overflow_add-result-6 c =
    omega (arith, c.requires 5 (omega arith))

pub overflow_add-result-7 : goal.overflow_add-result-7
overflow_add-result-7 c =
    omega (arith, c.requires 6 (omega arith))
