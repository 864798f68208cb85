use mathlib.Core.Path.{sym, ◌∙◌}
use native.Mathlib.Omega.{arith}
use Rattle.columns.proofs.Firsts.{first_found, first-none}
use Rattle.pointentries.proofs.first_entry.Goals as goal

pub returns-then-is_of : goal.returns-then-is_of
returns-then-is_of c = (
  sym (first_found _ _ _ c.loop-row-test.true c.loop-row.invariant (sym c.is_of.ensures ∙ c.if-is_of.true)),
  omega (arith, c.loop-row-test.true),
)

pub returns : goal.returns
returns c =
    (sym (first-none _ _ (λ k l. c.loop-row.invariant k (omega (arith, l, c.loop-row-test.false)))), omega arith)
