-- The sum of a window is that of the window before, plus what enters, less what leaves.
use Prim.Native.Nat.{◌*◌, ◌≤◌}
use native.Mathlib.Nat.{le_trans, lt_of_le_of_lt, add-le-add, zero-add}
use native.Mathlib.Omega.{arith}
use Rattle.columns.specs.Column.{col}
use Rattle.columns.proofs.Sums.{row_le_sum, sum_rolled}
use Rattle.units.specs.Bound.{most_hour}
use Rattle.excesses.proofs.Excesses.{gas-most}
use Rattle.overruns.proofs.twelve_hourly.next_sum.Goals as goal

pub overflow_add-sum : goal.overflow_add-sum
overflow_add-sum c =
    let low = c.requires.hours_len.1 in
    let most : c.args.before.0 ≤ 12 * most_hour =
    omega (arith, c.requires.before_value, gas-most (col c.args.hours.now) low 12) in
    record { fits = lt_of_le_of_lt (add-le-add most (low _)) (omega arith) }

pub overflow_sub-sum : goal.overflow_sub-sum
overflow_sub-sum c =
    le_trans (row_le_sum 12 (col c.args.hours.now) _ (omega arith)) (omega (arith, c.requires.before_value))

pub returns : goal.returns
returns c =
    omega (arith, c.requires.before_value, simp zero-add at (sum_rolled (col c.args.hours.now) 0 12))
