use mathlib.Core.Path.{sym, ap}
use mathlib.Core.Bool.{not}
use native.Mathlib.Omega.{arith}
use Rattle.columns.proofs.Firsts.{first_found, first-none}
use Rattle.pointentries.proofs.many_entries.Goals as goal

pub returns-then-not-is_of : goal.returns-then-not-is_of
returns-then-not-is_of c = (
  sym (first_found _ _ _ c.loop-more-test.true c.loop-more.invariant (rw (← c.is_of.ensures) (ap not c.if-not-is_of.true))),
  omega (arith, c.loop-more-test.true),
)

pub returns : goal.returns
returns c =
    (sym (first-none _ _ (λ k l. c.loop-more.invariant k (omega (arith, l, c.loop-more-test.false)))), omega arith)
