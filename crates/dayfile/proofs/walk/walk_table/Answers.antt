-- A fault found before stays; otherwise the run of the tag's fields decides.
use Rattle.dayrows.proofs.Finding.{ok-none, not_ok-some}
use Rattle.dayfile.proofs.Steps.{tabled_on}
use Rattle.dayfile.proofs.walk.walk_table.Goals as goal

pub returns-then-is_err : goal.returns-then-is_err
returns-then-is_err c =
    let off = c.if-is_err.ensures.negation in
    record { answers = rw off; lays = λ none. absurd (not_ok-some _ off none) }

pub returns : goal.returns
returns c =
    tabled_on _ _ _ _ (ok-none _ c.if-is_err.ensures.negation) c.run_fields-run.ensures c.with.ensures
