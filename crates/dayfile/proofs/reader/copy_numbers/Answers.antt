-- What stands at the front is the numbers' front.
use Rattle.dayfile.proofs.Parts.{front-laid}
use Rattle.dayfile.proofs.reader.copy_numbers.Goals as goal

pub returns : goal.returns
returns c =
    rw c.copy_from_slice.ensures.after (front-laid c.args.count c.args.numbers.now c.requires.0 c.args.lent.now c.requires.1)
