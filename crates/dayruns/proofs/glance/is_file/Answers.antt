-- A list of entries answers no.
use mathlib.Core.Path.{sym}
use mathlib.Core.Bool.{true≢false}
use Rattle.dayruns.proofs.glance.is_file.Goals as goal

pub returns-in-Side : goal.returns-in-Side
returns-in-Side c = λ yes. absurd (true≢false (sym yes))
