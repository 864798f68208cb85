-- Acceptance makes the day ready, and the shared day is then the answer.
use mathlib.Core.Path.{sym, ◌∙◌}
use Rattle.daytable.proofs.Accepting.{accepting}
use Rattle.dayshares.proofs.Accepting.{ready}
use Rattle.dayshares.proofs.share_day.Goals as goal

pub share_accepted-requires : goal.share_accepted-requires
share_accepted-requires c =
    ready _ _ _ _ (accepting _ _ _ _ (sym c.examine.ensures ∙ c.in_ok-examine.was))
