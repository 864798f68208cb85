use Rattle.decimals.proofs.Spelling.{spelled_none, spelled-more, spelled-all}
use Rattle.decimals.proofs.value_up_to.Goals as goal

pub loop-byte-init : goal.loop-byte-init
loop-byte-init c = spelled_none _ _

pub loop-byte-preserved : goal.loop-byte-preserved
loop-byte-preserved c =
    spelled-more _ _ c.loop-byte.invariant c.loop-byte-test.true (rw c.saturating_sub-digit.ensures at c.min-number.ensures)

pub returns : goal.returns
returns c = spelled-all _ _ c.loop-byte.invariant c.loop-byte-test.false
