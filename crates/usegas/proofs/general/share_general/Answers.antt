-- Acceptance gives what sharing asks; the filled list and its sum are then the answer.
use mathlib.Core.Path.{sym, ◌∙◌}
use Rattle.usegas.proofs.Accepting.{accepting}
use Rattle.usegas.proofs.general.share_general.Goals as goal

pub overflow_sub-gas : goal.overflow_sub-gas
overflow_sub-gas c = (accepting _ _ _ _ _ (sym c.examine.ensures ∙ c.in_ok-examine.was)).net

pub new-requires : goal.new-requires
new-requires c = (accepting _ _ _ _ _ (sym c.examine.ensures ∙ c.in_ok-examine.was)).shareable

pub fill-given-requires : goal.fill-given-requires
fill-given-requires c =
    rw c.new.ensures.schedules (accepting _ _ _ _ _ (sym c.examine.ensures ∙ c.in_ok-examine.was)).fits
