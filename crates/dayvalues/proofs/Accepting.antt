-- What acceptance says of a row and of a column: every number asked for is within its bounds.
use Rattle.std.specs.Prelude.{Ok}
use mathlib.Core.Path.{◌≡◌}
use mathlib.Core.Bool.{false}
use mathlib.Core.List.{List, [], ◌∷◌}
use Prim.Native.Nat.{ℕ, ◌≤◌, ◌<◌}
use borrow.Author.Tests.{leb-true, ltb-true}
use lib.ListN.{length}
use Rattle.columns.specs.Column.{col}
use Rattle.columns.proofs.Firsts.{first-passed}
use Rattle.units.proofs.Checks.{both-accepted, kept, cleared}
use Rattle.dayformat.specs.declared.form.Tag.{Tag}
use Rattle.dayformat.specs.declared.form.Tag.TheVariants.{Shipper}
use Rattle.dayformat.specs.declared.layout.Counts.{Counts}
use Rattle.dayformat.specs.Format.{name, gigajoules, ◌of◌, form}
use Rattle.dayformat.specs.Layout.{count}
use Rattle.dayformat.proofs.Bodies.{among}
use Rattle.dayvalues.specs.Row.{beyond, row_check}
use Rattle.dayvalues.specs.Column.{column_check}
use Rattle.dayvalues.specs.Private.{Fillable}
use Rattle.dayvalues.proofs.Bounds.{gigajoules-most}
use Rattle.dayvalues.proofs.Rows.{none-beyond}

pub row_inside : (counts : Counts) (numbers : List ℕ) (tag : Tag) (row : ℕ) → row_check counts numbers tag row ≡ Ok tt
    → row < count counts tag
unfolding row_check
row_inside counts numbers tag row e = ltb-true _ _ (kept _ _ (both-accepted _ _ (both-accepted _ _ e).0).1)

pub row-accepted : (counts : Counts) (numbers : List ℕ) (tag : Tag) (row : ℕ) → row_check counts numbers tag row ≡ Ok tt
    → (place : ℕ) → place < (form tag).columns → beyond counts (col numbers) tag row place ≡ false
unfolding row_check
row-accepted counts numbers tag row e =
    none-beyond counts (col numbers) tag row (row_inside counts numbers tag row e) (cleared _ _ _ (both-accepted _ _ e).1)

pub column-accepted : (counts : Counts) (numbers : List ℕ) (place : ℕ) (lent : List ℕ) → 1 ≤ place → place < 6
    → column_check counts numbers place (length lent) ≡ Ok tt → Fillable counts (col numbers) place lent
unfolding column_check
column-accepted counts numbers place lent h l e =
    let room = both-accepted _ _ e in
    let clear = both-accepted _ _ room.0 in
    record {
      bounded =
          λ row k.
          gigajoules-most counts (col numbers) Shipper row place (first-passed _ _ (cleared _ _ _ clear.1) row k)
          (among (1 of name ∷ []) (5 of gigajoules) [] place h l);
      fits = leb-true _ _ (kept _ _ room.1);
    }
