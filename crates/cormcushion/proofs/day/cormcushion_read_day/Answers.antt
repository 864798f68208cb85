-- The reading, packed, and its figures in the lent list.

use Rattle.cormcushion.proofs.day.cormcushion_read_day.Goals as goal

pub returns : goal.returns
returns c =
    record {
      reading = _;
      answers = c.read_day-reading.ensures;
      packs = c.of_reading.ensures;
      leaves_day = c.put_day.ensures;
    }
