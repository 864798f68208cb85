use mathlib.Core.Path.{sym, ◌∙◌}
use native.Mathlib.Omega.{arith}
use Rattle.columns.proofs.Firsts.{stops, first-none}
use Rattle.daytable.proofs.idle_row.Goals as goal

pub returns-then-is_idle : goal.returns-then-is_idle
returns-then-is_idle c =
    stops _ _ _ c.loop-row.invariant c.loop-row-test.true
    (rw (← c.gigajoules_at.ensures) (sym c.is_idle.ensures ∙ c.if-is_idle.true))

pub returns : goal.returns
returns c = sym (first-none _ _ (λ k l. c.loop-row.invariant.passed k (omega arith)))
