-- An accepted day written and read gives the same day.
use Rattle.std.specs.Prelude.{Ok}
use mathlib.Core.Path.{◌≡◌, refl, ap, sym, ◌∙◌}
use mathlib.Core.List.{List, ◌++◌}
use Prim.Native.Nat.{ℕ, suc, ◌≤◌, ◌<◌}
use native.Mathlib.Nat.{mul-le-mul_right}
use native.Mathlib.Omega.{arith}
use lib.ListN.{length, length-append}
use Rattle.columns.specs.Column.{col, joined}
use Rattle.columns.proofs.Lists.{length-listed}
use Rattle.columns.proofs.Joined.{length-joined}
use Rattle.dayformat.specs.declared.day.Day.{Day}
use Rattle.dayformat.specs.declared.form.Tag.{Tag}
use Rattle.dayformat.specs.Format.{many_tables, tag_at, table_place, form}
use Rattle.dayformat.specs.Layout.{count, table_start, row_start, numbers_in}
use Rattle.dayformat.specs.Private.{Agree, NoneFrom}
use Rattle.dayformat.specs.DayBytes.{row_from, fields}
use Rattle.dayformat.proofs.Every.{place_at, table_at}
use Rattle.dayformat.proofs.Layouts.{agree_with, none_with, starts-after, grown, table-inside}
use Rattle.dayformat.proofs.Sizes.{length_fields}
use Rattle.dayrows.specs.declared.Source.TheVariants.{File}
use Rattle.dayrows.specs.Test.{fault}
use Rattle.dayrows.specs.Private.{Sound}
use Rattle.dayrows.proofs.Faults.{none-fault}
use Rattle.dayrows.proofs.Finding.{none-ok}
use Rattle.dayrows.proofs.Same.{start-same, passes_same}
use Rattle.dayrows.proofs.SoundRows.{row_fits}
use Rattle.dayruns.specs.Run.{Fields, place_of, rows_of}
use Rattle.dayruns.specs.Walk.{walk_after}
use Rattle.dayfile.specs.File.{Tables, fields_from, table_run, tabled}
use Rattle.dayfile.proofs.Apart.{Apart}
use Rattle.dayfile.proofs.Leading.{Leads, leads-more}
use Rattle.dayfile.proofs.WrittenRuns.{Written, rows-again, run-again}

module _ (day : Day) (numbers : List ℕ) (S : Sound day numbers) where
  abbrev row : Tag → ℕ → List ℕ
  row tag i = row_from (col numbers) tag (row_start day.counts tag i)

  module _ (file : List ℕ) where
    -- what is read back after the runs of so many tags
    pub record Back (many : ℕ) (T : Tables) (ahead : List ℕ) : Type 0 where
      pub sound : T.walk.found ≡ Ok tt
      pub here : T.walk.place ≡ length ahead
      pub agree : Agree many T.walk.counts day.counts
      pub none : NoneFrom many T.walk.counts
      pub long : length T.numbers ≡ numbers_in T.walk.counts
      pub leads : Leads T.numbers numbers

    module _ (n : ℕ) (inside : n < many_tables) (T : Tables) (ahead rest : List ℕ) (B : Back n T ahead)
        (is : file ≡ ahead ++ (fields day.counts (col numbers) (tag_at n) ++ rest)) (apart : Apart (form (tag_at n)).byte rest) where
      abbrev tag : Tag
      tag = tag_at n

      abbrev F : Fields
      F = fields_from file T.walk tag

      abbrev many : ℕ
      many = count day.counts tag

      earlier : Agree (table_place tag) T.walk.counts day.counts
      earlier = rw (place_at n inside) B.agree

      start : length T.numbers ≡ table_start T.walk.counts tag
      start = B.long ∙ sym (starts-after T.walk.counts n inside B.none)

      same_start : length T.numbers ≡ table_start day.counts tag
      same_start = start ∙ start-same tag T.walk.counts day.counts earlier

      abbrev written : Written F
      written =
          record {
            row = row tag;
            many = many;
            ahead = ahead;
            rest = rest;
            is = is;
            here = sym B.here;
            each = λ i. length-listed _ _;
            fits = row_fits day numbers S tag (table_at n inside);
            few = S.few tag;
            apart = apart;
          }

      front : (m : ℕ) → m ≤ many → Leads (T.numbers ++ joined m (row tag)) numbers
      front m l =
          leads-more T.numbers numbers (table_start day.counts tag) (form tag).columns (row tag) B.leads same_start (λ i. refl) m
          (omega (arith, S.long, table-inside day.counts tag (table_at n inside), mul-le-mul_right (form tag).columns l))

      read-sound : (i : ℕ) → i < many → fault File T.walk.counts (col (T.numbers ++ rows_of F (suc i))) tag i ≡ Ok tt
      read-sound i l =
          rw (rows-again F written (suc i) l)
          (none-fault File T.walk.counts (col (T.numbers ++ joined (suc i) (row tag))) tag i
          (λ test.
          passes_same test File tag T.walk.counts day.counts (col (T.numbers ++ joined (suc i) (row tag))) (col numbers) i earlier
          (λ place k.
          sym
          ((front (suc i) l).1 place
          (omega (
            arith,
            k,
            start,
            length-append T.numbers (joined (suc i) (row tag)),
            length-joined (row tag) (form tag).columns (λ i. length-listed _ _) (suc i),
          ))))
          ∙ S.passes tag (table_at n inside) test i l))

      run_is : table_run file tag T ≡ record { rows = many; place = place_of F many; found = Ok tt }
      run_is = run-again F written (λ many. col (T.numbers ++ rows_of F many)) read-sound

      tabled_is : tabled file tag T
          ≡ record {
            walk = walk_after T.walk tag (record { rows = many; place = place_of F many; found = Ok tt });
            numbers = T.numbers ++ joined many (row tag);
          }
      unfolding tabled
      tabled_is =
          rw (none-ok B.sound)
          (ap (λ run. record { walk = walk_after T.walk tag run; numbers = T.numbers ++ rows_of F run.rows }) run_is
          ∙ ap
          (λ rows.
          record {
            walk = walk_after T.walk tag (record { rows = many; place = place_of F many; found = Ok tt });
            numbers = T.numbers ++ rows;
          })
          (rows-again F written many (omega arith)))

      pub back_more : Back (suc n) (tabled file tag T) (ahead ++ fields day.counts (col numbers) tag)
      back_more =
          rw tabled_is
          (record {
            sound = refl;
            here = omega (
              arith,
              B.here,
              length-append ahead (fields day.counts (col numbers) tag),
              length_fields
                  (col numbers) tag day.counts,
            );
            agree = agree_with n inside T.walk.counts day.counts B.agree;
            none = none_with n inside T.walk.counts many B.none;
            long =
                omega (
                  arith,
                  length-append T.numbers (joined many (row tag)),
                  length-joined (row tag) (form tag).columns (λ i. length-listed _ _) many,
                  B.long,
                  grown n inside T.walk.counts many B.none,
                );
            leads = front many (omega arith);
          })
