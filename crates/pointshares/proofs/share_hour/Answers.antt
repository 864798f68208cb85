-- Acceptance gives what sharing asks; the filled list and its sum are then the answer.
use mathlib.Core.Path.{sym, ◌∙◌}
use Rattle.pointshares.proofs.Accepting.{accepting}
use Rattle.pointshares.proofs.share_hour.Goals as goal

pub new-requires : goal.new-requires
new-requires c = (accepting _ _ _ _ (sym c.examine.ensures ∙ c.in_ok-examine.was)).shareable

pub fill-given-requires : goal.fill-given-requires
fill-given-requires c =
    rw c.new.ensures.entitlements (accepting _ _ _ _ (sym c.examine.ensures ∙ c.in_ok-examine.was)).fits
