-- A rate beyond its bound is refused before the file; any other leaves the answer to the file.
use Rattle.chargelisting.proofs.Rated.{rate-refused, file_decides}
use Rattle.chargelisting.proofs.list.list_charges.Goals as goal

pub returns-then-rate : goal.returns-then-rate
returns-then-rate c = rate-refused _ _ _ _ _ c.plain.ensures c.if-rate.true

pub returns : goal.returns
returns c =
    file_decides _ _ _ _ c.if-rate.false c.list_file.ensures
