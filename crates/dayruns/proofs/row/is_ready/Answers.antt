-- A broken field is not ready; a whole one is where its row has room.
use mathlib.Core.Path.{ap, sym, ◌∙◌}
use mathlib.Core.Bool.{true≢false}
use Prim.Native.Nat.{◌+◌}
use native.Mathlib.Omega.{arith}
use borrow.Author.Tests.{leb-true}
use Rattle.dayrows.proofs.Finding.{ok-none}
use Rattle.dayformat.proofs.Small.{small}
use Rattle.dayruns.proofs.row.is_ready.Goals as goal

pub returns-then-is_err : goal.returns-then-is_err
returns-then-is_err c = λ yes. absurd (true≢false (sym yes))

pub overflow_add-result : goal.overflow_add-result
overflow_add-result c =
    omega (arith, c.requires, (small c.args.tag).columns, ap (λ c. c.columns) c.form_of.ensures)

pub returns : goal.returns
returns c =
    λ yes.
    let fits = leb-true (c.args.to + c.form_of.result.columns) c.args.room yes in (
      sym c.breaks.ensures ∙ ok-none _ c.if-is_err.ensures.negation,
      omega (arith, fits, ap (λ c. c.columns) c.form_of.ensures),
    )
