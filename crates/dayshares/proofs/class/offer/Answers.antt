-- Held, it is a round; not held, the rows are set to zero.
use Rattle.std.proofs.lemmas.List.{length-take-le}
use Rattle.dayshares.proofs.Offering.{offers, withholds, zeroed}
use Rattle.dayshares.proofs.class.offer.Goals as goal

pub returns-then-held : goal.returns-then-held
returns-then-held c = offers _ _ _ _ _ _ _ c.if-held.true c.hold.ensures

pub returns : goal.returns
returns c =
    withholds _ _ _ _ _ _ c.if-held.false
    (zeroed _ _ _ c.requires.fits (rw (length-take-le _ _ c.requires.fits) at (c.fill.ensures.after (λ y e. e))))
