-- A sound day's entries of one side, from a row on, make a list that is accepted, whose rows are the day's.
use Rattle.std.specs.Prelude.{Ok}
use mathlib.Core.Path.{◌≡◌, refl, ap, sym, ◌∙◌}
use mathlib.Core.Bool.{true, false, cond, not}
use mathlib.Core.List.{List, [], append-nil}
use Prim.Native.Nat.{ℕ, zero, suc, ◌+◌, ◌*◌, ◌≤◌, ◌<◌}
use native.Mathlib.Nat.{le_of_eq, zero-add, add-suc, lt-suc_self}
use native.Mathlib.Omega.{arith}
use borrow.Author.Tests.{ltb-true, le-leb, lt-ltb, eq-eqb}
use lib.Dec.{ltb, eqb}
use lib.ListN.{length}
use Rattle.columns.specs.Column.{col, joined}
use Rattle.columns.specs.Sum.{sum}
use Rattle.columns.proofs.Firsts.{first-same, first-none}
use Rattle.columns.proofs.Lists.{length-listed, col-listed}
use Rattle.columns.proofs.Joined.{length-joined, col-joined}
use Rattle.units.proofs.Checks.{accepts-both, accepts-kept}
use Rattle.dayformat.specs.declared.day.Day.{Day}
use Rattle.dayformat.specs.declared.form.Tag.TheVariants.{Entry}
use Rattle.dayformat.specs.Format.{body, column_in, field_size}
use Rattle.dayformat.specs.Layout.{count, no_rows, row_start}
use Rattle.dayformat.specs.DayBytes.{row_from}
use Rattle.dayformat.proofs.Sizes.{length-row-field}
use Rattle.dayrows.specs.declared.Source.TheVariants.{Side}
use Rattle.dayrows.specs.declared.Test.{Test}
use Rattle.dayrows.specs.Test.{in_bounds, bounded, difference, rises, some_idle, passes, fault}
use Rattle.dayrows.specs.Private.{Sound}
use Rattle.dayrows.proofs.Faults.{none-fault}
use Rattle.dayrows.proofs.Within.{both}
use Rattle.dayrows.proofs.SoundRows.{row_fits}
use Rattle.dayvalues.specs.Row.{number_at}
use Rattle.dayruns.specs.Run.{Fields, place_of, row_of, rows_of}
use Rattle.dayruns.specs.Walk.{walk_after, ended}
use Rattle.dayfile.proofs.WrittenRuns.{Written, row-again, rows-again, run-again}
use Rattle.pointentries.specs.Entries.{entries, entry_run, entry_rows, unread, entry_walk, list_check, is_of}
use Rattle.entrylists.specs.PointRows.{entry_field}
use Rattle.entrylists.proofs.Sides.{entry-bounded}

-- every number of an entry is within its bounds
bounded-all : (f : ℕ → ℕ) (at : ℕ) → ((place : ℕ) → place < 4 → in_bounds (column_in (body Entry) place) (f (at + place)) ≡ true)
    → bounded f Entry at ≡ true
unfolding bounded
bounded-all f at all =
    le-leb _ _ (le_of_eq (sym (first-none (λ place. not (in_bounds (column_in (body Entry) place) (f (at + place)))) 4
    (λ place l. ap not (all place l)))))

-- a key rises wherever its numbers stand
module _ (f g : ℕ → ℕ) (key before here other_before other_here : ℕ)
    (first : (place : ℕ) → place < key → f (before + place) ≡ g (other_before + place))
    (second : (place : ℕ) → place < key → f (here + place) ≡ g (other_here + place)) where
  difference_moved : difference f key before here ≡ difference g key other_before other_here
  unfolding difference
  difference_moved = first-same key _ _ (λ place l. rw (first place l, second place l))

  rises_moved :
      cond (ltb (difference g key other_before other_here) key)
      (ltb (g (other_before + difference g key other_before other_here)) (g (other_here + difference g key other_before other_here)))
      false ≡ true
      → cond (ltb (difference f key before here) key)
      (ltb (f (before + difference f key before here)) (f (here + difference f key before here))) false ≡ true
  rises_moved e =
      let place = difference g key other_before other_here in
      let l = ltb-true place key (both (ltb place key) _ e).0 in
      rw (difference_moved, first place l, second place l) e

-- ---- so many of a day's entries from a row on, as a list that is read as one of a side
module _ (day : Day) (numbers : List ℕ) (S : Sound day numbers) (from many side : ℕ)
    (inside : from + many ≤ count day.counts Entry) where
  abbrev number : ℕ → ℕ → ℕ
  number i place = number_at day.counts (col numbers) Entry (from + i) place

  abbrev row : ℕ → List ℕ
  row i = row_from (col numbers) Entry (row_start day.counts Entry (from + i))

  abbrev list : List ℕ
  list = joined many (λ i. entry_field day.counts (col numbers) (from + i))

  abbrev F : Fields
  F = entries list side

  abbrev written : Written F
  written =
      record {
        row = row;
        many = many;
        ahead = [];
        rest = [];
        is = sym (append-nil list);
        here = refl;
        each = λ i. length-listed _ _;
        fits = λ i l. row_fits day numbers S Entry refl (from + i) (omega (arith, l, inside));
        few = omega (arith, inside, S.few Entry);
        apart = tt;
      }

  -- an entry's numbers are read back
  pub number-again : (i place : ℕ) → i < many → place < 4 → col (row_of F i) place ≡ number i place
  number-again i place l k = ap (λ row. col row place) (row-again F written i l) ∙ col-listed 4 (λ place. number i place) place k

  pub list-long : length list ≡ place_of F many
  list-long =
      omega (
        arith,
        length-joined (λ i. entry_field day.counts (col numbers) (from + i)) (field_size Entry)
            (λ i. length-row-field (col numbers) Entry (row_start day.counts Entry (from + i))) many,
      )

  -- ---- entries of that side
  module _ (sided : (i : ℕ) → i < many → number i 0 ≡ side) where
    -- a row's numbers among those of so many rows
    stands : (n i place : ℕ) → i < n → place < 4 → col (joined n row) (row_start no_rows Entry i + place) ≡ number i place
    unfolding sum
    stands n i place l k =
        ap (λ at. col (joined n row) (at + place)) (zero-add (i * 4))
        ∙ col-joined row 4 (λ i. length-listed _ _) n i place l k
        ∙ col-listed 4 (λ place. number i place) place k

    abbrev read : ℕ → ℕ → ℕ
    read i = col (joined (suc i) row)

    risen : (i : ℕ) → i < many → rises no_rows (read i) Entry i ≡ true
    unfolding rises passes
    risen zero l = refl
    risen (suc i) l =
        let at : from + suc i ≡ suc (from + i) = add-suc from i in
        rises_moved (read (suc i)) (col numbers) 3 (row_start no_rows Entry i) (row_start no_rows Entry (suc i))
        (row_start day.counts Entry (from + i)) (row_start day.counts Entry (suc (from + i)))
        (λ place k. stands (suc (suc i)) i place (omega arith) (omega (arith, k)))
        (λ place k. stands (suc (suc i)) (suc i) place (omega arith) (omega (arith, k))
        ∙ ap (λ row. number_at day.counts (col numbers) Entry row place) at)
        (both _ _ (S.passes Entry refl Test.Key (suc (from + i)) (omega (arith, l, inside)))).0

    passed : (i : ℕ) → i < many → (test : Test) → passes test (Side side) no_rows (read i) Entry i ≡ true
    unfolding passes some_idle
    passed i l Test.Bounds =
        rw (
          lt-ltb i 512 (omega (arith, l, inside, S.few Entry)),
          bounded-all (read i) (row_start no_rows Entry i)
              (λ place k.
              ap (in_bounds (column_in (body Entry) place)) (stands (suc i) i place (lt-suc_self i) k)
              ∙ entry-bounded day numbers S (from + i) (omega (arith, l, inside)) place k),
        )
        (eq-eqb _ side (ap (read i) (omega arith) ∙ stands (suc i) i 0 (lt-suc_self i) (omega arith) ∙ sided i l))
    passed i l Test.Key = rw (risen i l)
    passed i l Test.Mdq = refl

    read-sound : (i : ℕ) → i < many → fault (Side side) no_rows (col (rows_of F (suc i))) Entry i ≡ Ok tt
    read-sound i l = rw (rows-again F written (suc i) l) (none-fault (Side side) no_rows (read i) Entry i (passed i l))

    run_is : entry_run list side ≡ record { rows = many; place = place_of F many; found = Ok tt }
    run_is = run-again F written (λ many. col (rows_of F many)) read-sound

    pub rows_are : entry_rows list side ≡ many
    rows_are = ap (λ run. run.rows) run_is

    faultless : (entry_walk list side).found ≡ Ok tt
    unfolding ended
    faultless =
        ap (λ run. (ended list (walk_after unread Entry run)).found) run_is
        ∙ rw (le-leb (length list) (place_of F many) (le_of_eq list-long))

    pub list-accepted : (point : ℕ) → side ≤ 1 → 0 < point → list_check list side point ≡ Ok tt
    unfolding list_check
    list-accepted point h l =
        accepts-both
        (accepts-both (accepts-both refl (accepts-kept 3 (le-leb side 1 h))) (accepts-kept 3 (lt-ltb 0 point l)))
        (rw faultless)

    pub point_is : (point i : ℕ) → i < many → is_of list side point i ≡ eqb (number i 1) point
    point_is point i l = ap (λ found. eqb found point) (number-again i 1 l (omega arith))
