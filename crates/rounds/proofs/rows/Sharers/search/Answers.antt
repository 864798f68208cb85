use native.Mathlib.Omega.{arith}
use Rattle.rounds.proofs.Searches.{bracket_start, bracket_up, bracket_down, bracket_level}
use Rattle.rounds.proofs.rows.Sharers.search.Goals as goal

pub loop-low-init : goal.loop-low-init
loop-low-init c = (bracket_start _ _ _ _ c.requires, omega arith)

pub loop-low-preserved-then-pass-capacity : goal.loop-low-preserved-then-pass-capacity
loop-low-preserved-then-pass-capacity c =
    (bracket_up _ _ _ _ c.loop-low.invariant.0 _ c.settled-low.ensures.1 (omega arith), omega arith)

pub loop-low-preserved : goal.loop-low-preserved
loop-low-preserved c =
    let level = c.between-level.result in
    let down = bracket_down _ _ _ _ c.loop-low.invariant.0 level (omega arith) (omega arith) (omega arith) in
    (bracket_up _ _ _ _ down _ c.settled-low-else-pass-capacity.ensures.1 (omega (arith, down.fits)), omega arith)

pub returns : goal.returns
returns c = bracket_level _ _ _ _ c.loop-low.invariant.0 c.loop-low-test.false
