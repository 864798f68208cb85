-- The division by a weight above zero leaves at most what is divided.
use Prim.Native.Nat.{◌+◌, ◌*◌}
use native.Mathlib.Nat.{div-le_self}
use native.Mathlib.Omega.{arith}
use Rattle.rounds.proofs.guess.step.Goals as goal

pub overflow_add-result-2 : goal.overflow_add-result-2
overflow_add-result-2 c =
    omega (arith, div-le_self ((2 * c.args.gigajoules + 1) * 500_000) c.args.weight, c.ranges.gigajoules)

pub returns : goal.returns
returns c =
    omega (arith, div-le_self ((2 * c.args.gigajoules + 1) * 500_000) c.args.weight, c.ranges.gigajoules)
