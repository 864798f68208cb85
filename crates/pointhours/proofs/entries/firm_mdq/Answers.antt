-- The second number of the shipper's row, which the search finds.
use mathlib.Core.Path.{◌≡◌, ap, ◌∙◌}
use Prim.Native.Nat.{ℕ, ◌<◌, min}
use native.Mathlib.Omega.{arith}
use Rattle.std.specs.declared.result.Result.{Result}
use Rattle.std.specs.declared.result.Result.TheVariants.{Ok, Err}
use Rattle.std.specs.Result.{OkIff, result_unwrap_or}
use Rattle.columns.specs.Column.{col}
use Rattle.dayvalues.specs.Column.{column}
use Rattle.pointhours.specs.Parts.{most_number}
use Rattle.pointhours.proofs.entries.firm_mdq.Goals as goal

-- a number as a u32, or the greatest u32
as_far : {E : Type 0} (number : ℕ) (found : Result ℕ E) → OkIff found (number < 4_294_967_296) number
    → result_unwrap_or found 4_294_967_295 ≡ min number most_number
as_far number (Ok same) is = omega (arith, is.0, is.1)
as_far number (Err e) is = omega (arith, is)

pub returns : goal.returns
returns c =
    let args = c.args in
    c.unwrap_or.ensures
    ∙ as_far c.number_at-mdq.result c.try_from.result c.try_from.ensures
    ∙ ap (λ mdq. min mdq most_number)
    (c.number_at-mdq.ensures ∙ ap (column args.tables.counts (col args.tables.numbers.now) 1) c.row_beginning-row.ensures)
