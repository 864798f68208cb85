-- The word, then the byte behind it.
use Rattle.lines.proofs.Lining.{laid-ended}
use Rattle.lines.proofs.put_word.Goals as goal

pub returns : goal.returns
returns c =
    laid-ended 32 c.put_bytes-length.ensures c.put_byte.ensures
