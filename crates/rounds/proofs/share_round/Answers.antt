-- Acceptance gives what the leaves ask; the level and the filled list are then the answer.
use mathlib.Core.Path.{sym, ◌∙◌}
use Rattle.sharing.proofs.Levels.{level_is}
use Rattle.rounds.proofs.Accepting.{accepting}
use Rattle.rounds.proofs.share_round.Goals as goal

pub invariant_of-sharers : goal.invariant_of-sharers
invariant_of-sharers c = record { rows = (accepting _ _ _ _ (sym c.examine.ensures ∙ c.in_ok-examine.was)).rows }

pub fill-requires : goal.fill-requires
fill-requires c =
    let a = accepting _ _ _ _ (sym c.examine.ensures ∙ c.in_ok-examine.was) in
    (rw c.level_of-level.ensures (level_is _ _ _ _).capped, a.fits)
