use native.Mathlib.Omega.{arith}
use Rattle.lines.proofs.Lining.{figures-none, figures-next, figures-last}
use Rattle.lines.proofs.put_figures.Goals as goal

pub returns-in_default : goal.returns-in_default
returns-in_default c = (figures-none _ c.in_default.ensures.cases c.put_byte.ensures, omega arith)

pub loop-figure-preserved : goal.loop-figure-preserved
loop-figure-preserved c =
    let now = c.loop-figure in
    (omega arith, figures-next _ _ _ c.in-Some.ensures.cases _ now.invariant.1 c.loop-figure-test.true c.put_ended-size.ensures.0)

pub returns : goal.returns
returns c =
    let now = c.loop-figure in (
      figures-last _ _ _ c.in-Some.ensures.cases now.figure-index now.invariant.1 (omega arith) c.put_ended.ensures.0,
      omega (arith, c.in-Some.ensures.cases.1),
    )
