-- As many bytes as the block has room for are copied, and from its end on there is none.
use mathlib.Core.Path.{refl}
use Rattle.text.proofs.Laying.{nothing_laid, word_there}
use Rattle.text.proofs.put_bytes.Goals as goal

pub returns-then-at-text : goal.returns-then-at-text
returns-then-at-text c =
    record {
      counts = refl;
      lays = word_there _ _ _ _ c.if-at-text.true c.min-count.ensures c.copy_from_slice.ensures.after;
    }

pub returns-else-at-text : goal.returns-else-at-text
returns-else-at-text c = nothing_laid c.if-at-text.false refl
