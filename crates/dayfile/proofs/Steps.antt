-- One step of the walk through a file.
use mathlib.Core.Path.{◌≡◌, ap, sym, ◌∙◌}
use mathlib.Core.Bool.{true, false}
use mathlib.Core.List.{List, []}
use Prim.Native.Nat.{ℕ, ◌+◌}
use native.Mathlib.Omega.{arith}
use lib.ListN.{length, drop, replicate}
use Rattle.std.specs.Prelude.{Ok, is_ok}
use Rattle.columns.specs.Column.{col, listed, joined}
use Rattle.columns.specs.Sum.{sum}
use Rattle.bigendian.specs.Row.{size, decode}
use Rattle.dayformat.specs.declared.form.Tag.{Tag}
use Rattle.dayformat.specs.declared.layout.Counts.{Counts}
use Rattle.dayformat.specs.Format.{column_in, widths}
use Rattle.dayformat.specs.Layout.{no_rows, with_count}
use Rattle.dayrows.specs.declared.Source.TheVariants as Source
use Rattle.dayrows.specs.Fault.{Found}
use Rattle.dayrows.specs.Whole.{with_row}
use Rattle.dayrows.proofs.Finding.{none-ok}
use Rattle.dayfields.specs.Field.{Taken}
use Rattle.dayruns.specs.declared.run.Run.{Run}
use Rattle.dayruns.specs.declared.walk.Walk.{Walk}
use Rattle.dayruns.specs.Run.{place_of, rows_of, field_fault, laid, Ran}
use Rattle.dayruns.specs.Walk.{walk_after}
use Rattle.dayruns.proofs.Fronts.{front-more, front-none}
use Rattle.dayruns.proofs.Running.{length-row, ran_sound}
use Rattle.dayfile.specs.File.{fields_from, head_fields, head_fault, headed}
use Rattle.dayfile.specs.Private.{Tabled}

-- the head's field, its row among three zeros
head_first : (file : List ℕ) → place_of (head_fields file) 0 ≡ 0
head_first file = omega arith

head-laid : (file : List ℕ) → col (with_row no_rows file Tag.Head 0 0 (replicate 3 0)) ≡ col (rows_of (head_fields file) 1)
unfolding joined sum
head-laid file =
    let row = ap (λ at. decode (widths Tag.Head) (drop (at + 3) file)) (head_first file) in
    front-more (decode (widths Tag.Head) (drop 3 file)) [] (replicate 3 0) (front-none 3)
    (omega (arith, ap length row, length-row (head_fields file) 0))
    ∙ ap col (sym row)

module _ (file : List ℕ) {after : List ℕ} {found : Found} (T : Taken Source.File no_rows file Tag.Head 0 0 (replicate 3 0) after found)
  where
    head-found : found ≡ head_fault file
    unfolding field_fault
    head-found = T.answers ∙ rw (head-laid file, head_first file)

    pub headed-faulty : is_ok found ≡ false → record { found = found; place = 0; counts = no_rows } ≡ headed file
    unfolding headed
    headed-faulty some = rw (← head-found, some)

    pub headed-sound : is_ok found ≡ true → record { found = found; place = 15; counts = no_rows } ≡ headed file
    unfolding headed listed size column_in
    headed-sound none = rw (← head-found, none)

-- the run of a tag's fields
pub tabled_on : (walk : Walk) (file : List ℕ) (tag : Tag) (lent : List ℕ) {after : List ℕ} {run : Run} {counts : Counts}
    → walk.found ≡ Ok tt → Ran (fields_from file walk tag) lent after run → counts ≡ with_count walk.counts tag run.rows
    → Tabled walk file tag lent after (record { found = run.found; place = run.place; counts = counts })
tabled_on walk file tag lent none R w =
    record {
      answers = rw (none-ok none, w) (ap (walk_after walk tag) R.answers);
      lays = λ on sound. ran_sound (fields_from file walk tag) lent R sound
          ∙ ap (λ run. laid (fields_from file walk tag) lent run.rows) R.answers;
    }
