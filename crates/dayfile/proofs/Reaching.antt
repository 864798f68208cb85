-- How far a walk can come in a file of any length: a run has no more fields than there may be, so it stays within a full day's file.
use mathlib.Core.Path.{◌≡◌, refl, ap}
use mathlib.Core.Bool.{Bool, true, false, cond}
use mathlib.Core.List.{List, ◌++◌}
use Prim.Native.Nat.{ℕ, zero, suc, ◌+◌, ◌*◌, ◌≤◌, ◌<◌}
use native.Mathlib.Nat.{mul-le-mul_right}
use native.Mathlib.Omega.{arith}
use Rattle.std.specs.Prelude.{is_ok}
use Rattle.columns.specs.Column.{col, listed}
use Rattle.columns.specs.Sum.{sum}
use Rattle.columns.proofs.Firsts.{first_le}
use Rattle.bigendian.specs.Row.{size}
use Rattle.dayformat.specs.declared.form.Tag.{Tag}
use Rattle.dayformat.specs.declared.form.Tag.TheVariants.{Head}
use Rattle.dayformat.specs.Format.{many_tables, tag_at, column_in, field_size, form}
use Rattle.dayformat.specs.Layout.{numbers_in, bytes_before, file_size, most_counts, most_numbers}
use Rattle.dayformat.specs.Private.{Few}
use Rattle.dayformat.proofs.Layouts.{most-count, few-none, few_with, few_fit}
use Rattle.dayruns.specs.declared.walk.Walk.{Walk}
use Rattle.dayruns.specs.Run.{rows_of, stops}
use Rattle.dayruns.specs.Walk.{walk_after}
use Rattle.dayruns.proofs.Decided.{Known, field-known, run-known, ended-has}
use Rattle.dayfile.specs.File.{Tables, fields_from, head_fields, head_fault, headed, table_run, tabled, tables_to, tables, walked}

-- a walk that has come no further than a byte
pub record Reached (most : ℕ) (walk : Walk) : Type 0 where
  pub fault : Known walk.found
  pub place : walk.place ≤ most
  pub few : Few walk.counts

headed_reached : (file : List ℕ) → Reached (field_size Head) (headed file)
unfolding headed
headed_reached file =
    record {
      fault = field-known (head_fields file) (λ rows. col (rows_of (head_fields file) rows)) 0;
      place = by (is_ok (head_fault file));
      few = few-none;
    }
  where
    by : (sound : Bool) → cond sound (field_size Head) 0 ≤ field_size Head
    by true = omega arith
    by false = omega arith

-- the run of a tag
tabled_reached : (file : List ℕ) (n : ℕ) → n < many_tables → (T : Tables) {most : ℕ} → Reached most T.walk
    → Reached (most + (form (tag_at n)).most * field_size (tag_at n)) (tabled file (tag_at n) T).walk
unfolding tabled
tabled_reached file n l T {most} R = by (is_ok T.walk.found)
  where
    tag : Tag
    tag = tag_at n

    read : ℕ → ℕ → ℕ
    read many = col (T.numbers ++ rows_of (fields_from file T.walk tag) many)

    few-rows : (table_run file tag T).rows ≤ (form tag).most
    few-rows = first_le (stops (fields_from file T.walk tag) read) (form tag).most

    more : Tables
    more =
        record {
          walk = walk_after T.walk tag (table_run file tag T);
          numbers = T.numbers ++ rows_of (fields_from file T.walk tag) (table_run file tag T).rows;
        }

    by : (sound : Bool) → Reached (most + (form tag).most * field_size tag) (cond sound more T).walk
    by true =
        record {
          fault = run-known (fields_from file T.walk tag) read;
          place = omega (arith, R.place, mul-le-mul_right (field_size tag) few-rows);
          few = few_with n l T.walk.counts (table_run file tag T).rows R.few few-rows;
        }
    by false = record { fault = R.fault; place = omega (arith, R.place); few = R.few }

-- the runs of so many tags, in a full day's file
reached_to : (file : List ℕ) (n : ℕ) → n ≤ many_tables → Reached (bytes_before most_counts n) (tables_to file n).walk
unfolding tables_to sum
reached_to file zero l = let R = headed_reached file in record { fault = R.fault; place = omega (arith, R.place); few = R.few }
reached_to file (suc n) l =
    let R = tabled_reached file n l (tables_to file n) (reached_to file n (omega (arith, l))) in
    record {
      fault = R.fault;
      place = omega (arith, R.place, ap (λ rows. rows * field_size (tag_at n)) (most-count n l));
      few = R.few;
    }

-- a head, 64 shippers, 32 points, 512 entries, 64 meters and what is excused of each: the file of a full day
abbrev pub most_file : ℕ
most_file = 40_975

pub full-day : file_size most_counts ≡ most_file
unfolding size listed column_in sum
full-day = refl

tables_reached : (file : List ℕ) → Reached most_file (tables file).walk
tables_reached file =
    let R = reached_to file many_tables (omega arith) in
    record { fault = R.fault; place = omega (arith, R.place, full-day); few = R.few }

-- what follows the last field is told where it begins
pub walked_reached : (file : List ℕ) → Reached most_file (walked file)
walked_reached file =
    let R = tables_reached file in
    ended-has (Reached most_file) file (tables file).walk R (λ fault known. record { fault = known; place = R.place; few = R.few })

-- and its numbers
abbrev pub full_room : ℕ
full_room = 10_720

pub full-numbers : most_numbers ≡ full_room
unfolding sum
full-numbers = refl

pub numbers-most : (file : List ℕ) → numbers_in (walked file).counts ≤ full_room
numbers-most file = omega (arith, full-numbers, few_fit (walked file).counts (walked_reached file).few)
