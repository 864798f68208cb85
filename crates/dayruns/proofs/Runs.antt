-- A run with a list of zeros for its numbers: the rows are tested as if they stood by themselves.
use mathlib.Core.Path.{◌≡◌, ap, sym, ◌∙◌}
use mathlib.Core.Bool.{cond}
use mathlib.Core.List.{List, ◌++◌}
use Prim.Native.Nat.{ℕ, suc, ◌+◌, ◌*◌, ◌≤◌, ◌<◌}
use native.Mathlib.Nat.{mul-le-mul_right}
use native.Mathlib.Decide.{dec_lt}
use native.Mathlib.Omega.{arith}
use borrow.Author.Tests.{le-ltb}
use Rattle.std.specs.Prelude.{Err, is_ok}
use lib.ListN.{length}
use lib.Seq.{sets}
use Rattle.columns.specs.Column.{col}
use Rattle.columns.proofs.Firsts.{first-same}
use Rattle.dayformat.specs.declared.form.Tag.{Tag}
use Rattle.dayformat.specs.declared.layout.Counts.{Counts}
use Rattle.dayformat.specs.Format.{form}
use Rattle.dayformat.specs.Layout.{table_start}
use Rattle.dayrows.specs.declared.Source.{Source}
use Rattle.dayrows.specs.declared.fault.Fault.TheVariants.{Beyond}
use Rattle.dayrows.specs.Test.{passes, fault}
use Rattle.dayrows.specs.Whole.{broken}
use Rattle.dayruns.specs.Run.{Fields, place_of, rows_of, field_fault, stops, run_rows, run_of, laid}
use Rattle.dayruns.proofs.Fronts.{front-more}
use Rattle.dayruns.proofs.Running.{length-rows}

-- a row too many is refused whatever the numbers are
fault-beyond : (source : Source) (counts : Counts) (f : ℕ → ℕ) (tag : Tag) (row : ℕ) → (form tag).most ≤ row
    → fault source counts f tag row ≡ Err Beyond
unfolding fault passes
fault-beyond source counts f tag row h = rw (le-ltb row (form tag).most h)

-- ---- a run looks at the numbers up to as many rows as there may be
module _ (F : Fields) (f g : ℕ → ℕ → ℕ) (same : (many : ℕ) → many ≤ (form F.tag).most → f many ≡ g many) where
  field-same : (row : ℕ) → field_fault F f row ≡ field_fault F g row
  unfolding field_fault
  field-same row = by (dec_lt row (form F.tag).most)
    where
      by : Dec (row < (form F.tag).most)
          → cond (is_ok (broken F.file F.tag (place_of F row)))
          (fault F.source F.counts (f (suc row)) F.tag row)
          (broken F.file F.tag (place_of F row))
          ≡ cond (is_ok (broken F.file F.tag (place_of F row)))
          (fault F.source F.counts (g (suc row)) F.tag row)
          (broken F.file F.tag (place_of F row))
      by (yes l) = rw (same (suc row) l)
      by (no h) =
          rw (
            fault-beyond F.source F.counts (f (suc row)) F.tag row (omega (arith, h)),
            fault-beyond F.source F.counts (g (suc row)) F.tag row (omega (arith, h)),
          )

  stops_same : (row : ℕ) → stops F f row ≡ stops F g row
  unfolding stops
  stops_same row = rw (field-same row)

  rows_same : run_rows F f ≡ run_rows F g
  rows_same = first-same (form F.tag).most (stops F f) (stops F g) (λ row l. stops_same row)

  pub run-same : run_of F f ≡ run_of F g
  run-same = rw (rows_same, field-same (run_rows F g))

-- ---- where the numbers before a run stand at the front of a list of zeros, and there is room
pub run-front : (F : Fields) (known lent : List ℕ) → col lent ≡ col known → length known ≡ table_start F.counts F.tag
    → table_start F.counts F.tag + (form F.tag).most * (form F.tag).columns ≤ length lent
    → (many : ℕ) → many ≤ (form F.tag).most → col (laid F lent many) ≡ col (known ++ rows_of F many)
run-front F known lent front long room many l =
    ap (λ at. col (sets lent at (rows_of F many))) (sym long)
    ∙ front-more (rows_of F many) known lent front
    (omega (arith, long, room, length-rows F many, mul-le-mul_right (form F.tag).columns l))
