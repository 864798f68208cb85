use mathlib.Core.Path.{refl}
use native.Mathlib.Omega.{arith}
use Rattle.columns.proofs.Sums.{adding_none, adding_next}
use Rattle.excesses.proofs.Excesses.{adding_fits}
use Rattle.overruns.proofs.gas.gas_of.Goals as goal

pub loop-hour-init : goal.loop-hour-init
loop-hour-init c = adding_none _ _

pub overflow_add-total : goal.overflow_add-total
overflow_add-total c =
    let pre = c.requires in
    record {
      fits =
          adding_fits (adding_next _ _ c.loop-hour.invariant c.loop-hour-test.true refl) pre.0 (λ hour l. omega (arith, pre.1 hour));
    }

pub loop-hour-preserved : goal.loop-hour-preserved
loop-hour-preserved c = adding_next _ _ c.loop-hour.invariant c.loop-hour-test.true refl
