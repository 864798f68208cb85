-- Ready rows are accepted, so there is a round to unwrap.
use mathlib.Core.Path.{refl}
use Rattle.rounds.proofs.Accepting.{accepts}
use Rattle.dayshares.proofs.round.hold.Goals as goal

pub unwrap-requires : goal.unwrap-requires
unwrap-requires c = rw (c.share_round.ensures.answers, accepts _ _ _ _ c.requires) refl
