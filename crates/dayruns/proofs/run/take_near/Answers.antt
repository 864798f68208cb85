-- A field seen to be sound is taken; any other is taken afresh.

use Rattle.dayruns.proofs.run.take_near.Goals as goal

pub returns-then-seen : goal.returns-then-seen
returns-then-seen c = c.glance_at-seen.ensures.sure c.if-seen.true

pub returns : goal.returns
returns c =
    c.glance_at-seen.ensures.again c.take_field-found.ensures
