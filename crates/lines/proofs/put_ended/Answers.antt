-- The figure has at most twenty digits, and the byte stands behind them.
use Prim.Native.Nat.{◌≤◌}
use native.Mathlib.Omega.{arith}
use lib.ListN.{length}
use Rattle.text.specs.Text.{decimal}
use Rattle.text.proofs.Decimals.{at_most_twenty}
use Rattle.lines.proofs.Lining.{laid-ended}
use Rattle.lines.proofs.put_ended.Goals as goal

pub overflow_add-result : goal.overflow_add-result
overflow_add-result c =
    let few : length (decimal c.args.figure) ≤ 20 = at_most_twenty c.args.figure (omega (arith, c.ranges.figure)) in
    omega (arith, c.put_decimal-digits.ensures.counts, few)

pub returns : goal.returns
returns c =
    let few : length (decimal c.args.figure) ≤ 20 = at_most_twenty c.args.figure (omega (arith, c.ranges.figure)) in
    let digits = c.put_decimal-digits.ensures in
    (laid-ended _ digits c.put_byte.ensures, omega (arith, digits.counts, few))
