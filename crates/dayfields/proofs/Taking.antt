-- A field taken: one that is broken leaves the numbers alone, a whole one puts its row among them and is tested there.
use mathlib.Core.Path.{◌≡◌, refl, ap, ◌∙◌}
use mathlib.Core.Bool.{Bool, true, false, cond}
use mathlib.Core.List.{List}
use Prim.Native.Nat.{ℕ, ◌+◌}
use Rattle.std.specs.Prelude.{Ok, Err, is_ok}
use lib.ListN.{length, drop}
use lib.Seq.{length-sets}
use Rattle.columns.specs.Column.{col}
use Rattle.bigendian.specs.Row.{decode}
use Rattle.dayformat.specs.declared.form.Tag.{Tag}
use Rattle.dayformat.specs.declared.layout.Counts.{Counts}
use Rattle.dayformat.specs.Format.{widths}
use Rattle.dayformat.specs.Layout.{row_start}
use Rattle.dayrows.specs.declared.fault.Fault.{Fault}
use Rattle.dayrows.specs.declared.Source.{Source}
use Rattle.dayrows.specs.Fault.{Found}
use Rattle.dayrows.specs.Test.{fault}
use Rattle.dayrows.specs.Whole.{broken, with_row}
use Rattle.dayfields.specs.Field.{Taken}

module _ (source : Source) (counts : Counts) (file : List ℕ) (tag : Tag) (at row : ℕ) (lent : List ℕ) where
  pub taken-broken : {found : Fault} → broken file tag at ≡ Err found → Taken source counts file tag at row lent lent (Err found)
  taken-broken e = record { answers = rw e; lays = rw e }

  pub taken-whole : {found : Found} {after : List ℕ} → broken file tag at ≡ Ok tt
      → after ≡ with_row counts file tag at row lent → found ≡ fault source counts (col after) tag row
      → Taken source counts file tag at row lent after found
  taken-whole none lays answers = record { answers = rw (none, ← lays) answers; lays = rw none lays }

  pub taken-long : {found : Found} {after : List ℕ} → Taken source counts file tag at row lent after found → length after ≡ length lent
  taken-long T = ap length T.lays ∙ by (is_ok (broken file tag at))
    where
      by : (whole : Bool) → length (cond whole (with_row counts file tag at row lent) lent) ≡ length lent
      by true = length-sets lent (row_start counts tag row) (decode (widths tag) (drop (at + 3) file))
      by false = refl
