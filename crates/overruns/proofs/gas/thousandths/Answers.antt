-- The MDQ in megajoules is a thousandfold, so its thousandth is whole.
use native.Mathlib.Omega.{arith}
use Rattle.overruns.proofs.Limits.{thousandths_of, thousandths_low}
use Rattle.overruns.proofs.gas.thousandths.Goals as goal

pub overflow_mul-result : goal.overflow_mul-result
overflow_mul-result c =
    let low = thousandths_low c.args.count c.args.mdq c.in_megajoules-thousandth.ensures c.requires (omega arith) in
    record { fits = omega (arith, low) }

pub returns : goal.returns
returns c =
    let low = thousandths_low c.args.count c.args.mdq c.in_megajoules-thousandth.ensures c.requires (omega arith) in
    (thousandths_of c.args.count c.args.mdq c.in_megajoules-thousandth.ensures, low)
