-- The laws of counts and places, over the places of tables: no tag is named but where a count is made.
use mathlib.Core.Path.{◌≡◌, refl, ap, sym, ◌∙◌, fun_ext}
use mathlib.Core.Bool.{cond}
use mathlib.Core.Logic.{⊎_elim}
use Prim.Native.Nat.{ℕ, suc, ◌+◌, ◌*◌, ◌≤◌, ◌<◌}
use native.Mathlib.Nat.{mul-le-mul_right, eq-or-lt_of_le, le_of_suc-le-suc, le_step, lt-suc_self, zero-mul}
use native.Mathlib.Decide.{ℕ_discrete}
use native.Mathlib.Omega.{arith}
use lib.Dec.{eqb}
use borrow.Author.Tests.{eq-eqb, ne_eqb}
use Rattle.columns.specs.Sum.{sum}
use Rattle.columns.proofs.Sums.{sum_mono, sum_cong, sum-within, sum-rest}
use Rattle.dayformat.specs.declared.form.Tag.{Tag}
use Rattle.dayformat.specs.declared.form.Tag.TheVariants.{Head, Shipper, Point, Entry, Meter, Excused}
use Rattle.dayformat.specs.declared.layout.Counts.{Counts}
use Rattle.dayformat.specs.Format.{tag_byte, most, many_tables, tag_at, table_place, form}
use Rattle.dayformat.specs.Layout.{count, counts_of, no_rows, with_count, most_counts, held, numbers_before, numbers_in, most_numbers, table_start}
use Rattle.dayformat.specs.Private.{HasTable, Few, Agree, NoneFrom}
use Rattle.dayformat.proofs.Every.{every, inside, place_at, table_at, byte_tells}

-- ---- counts made of a figure for each tag
count-made : (figure : Tag → ℕ) (tag : Tag) → HasTable tag → count (counts_of figure) tag ≡ figure tag
count-made figure Head t = absurd (omega (arith, ap tag_byte t))
count-made figure Shipper t = refl
count-made figure Point t = refl
count-made figure Entry t = refl
count-made figure Meter t = refl
count-made figure Excused t = refl

-- counts that agree on every table are the same
pub agree-all : (c d : Counts) → Agree many_tables c d → c ≡ d
agree-all c d same = ap counts_of (fun_ext (every (λ tag. count c tag ≡ count d tag) refl same))

-- ---- a table begins behind the tables before it, and lies within the day's numbers
start_at : (c : Counts) (place : ℕ) → place < many_tables → table_start c (tag_at place) ≡ numbers_before c place
start_at c place l = ap (numbers_before c) (place_at place l)

pub before_same : (n : ℕ) (c d : Counts) → Agree n c d → numbers_before c n ≡ numbers_before d n
before_same n c d same = sum_cong n _ _ (λ place l. ap (λ rows. rows * (form (tag_at place)).columns) (same place l))

pub before-within : (c : Counts) (n m : ℕ) → n ≤ m → numbers_before c n ≤ numbers_before c m
before-within c n m = sum-within n m _

-- the rows of a tag end where the next table begins
pub before-next : (c : Counts) (tag : Tag) → HasTable tag → numbers_before c (suc (table_place tag)) ≡ table_start c tag + held c tag
unfolding sum
before-next c tag t = ap (λ other. table_start c tag + held c other) t

pub table-inside : (c : Counts) (tag : Tag) → HasTable tag → table_start c tag + held c tag ≤ numbers_in c
table-inside c tag t = omega (arith, before-next c tag t, before-within c (suc (table_place tag)) many_tables (inside tag))

-- ---- so many rows of the table at a place: its own count is new, and the others stay
module _ (n : ℕ) (l : n < many_tables) (c : Counts) (rows : ℕ) where
  abbrev grown_counts : Counts
  grown_counts = with_count c (tag_at n) rows

  abbrev figure : Tag → ℕ
  figure other = cond (eqb (tag_byte other) (tag_byte (tag_at n))) rows (count c other)

  pub own_count : count grown_counts (tag_at n) ≡ rows
  own_count = count-made figure (tag_at n) (table_at n l) ∙ rw (eq-eqb (tag_byte (tag_at n)) (tag_byte (tag_at n)) refl)

  other-count : (place : ℕ) → place < many_tables → (place ≡ n → ⊥) → count grown_counts (tag_at place) ≡ count c (tag_at place)
  other-count place k other =
      count-made figure (tag_at place) (table_at place k)
      ∙ rw (ne_eqb (tag_byte (tag_at place)) (tag_byte (tag_at n))
      (λ same. other (sym (place_at place k) ∙ ap table_place (byte_tells (tag_at place) (tag_at n) same) ∙ place_at n l)))

  -- so the tables before it agree
  agree-before : Agree n grown_counts c
  agree-before place k = other-count place (omega (arith, l)) (λ e. omega (arith, e))

  pub few_with : Few c → rows ≤ (form (tag_at n)).most → Few grown_counts
  few_with few fits = every (λ tag. count grown_counts tag ≤ (form tag).most) (few Head) (λ place k. by place k (ℕ_discrete place n))
    where
      by : (place : ℕ) → place < many_tables → Dec (place ≡ n) → count grown_counts (tag_at place) ≤ (form (tag_at place)).most
      by place k (yes e) = rw (e, own_count) fits
      by place k (no other) = rw (other-count place k other) (few (tag_at place))

  -- where no table from it on has rows, none after it has, and it begins where the day's numbers ended
  pub none_with : NoneFrom n c → NoneFrom (suc n) grown_counts
  none_with none place from k = other-count place k (λ e. omega (arith, e, from)) ∙ none place (omega (arith, from)) k

  pub agree-rows : (d : Counts) → Agree (suc n) grown_counts d → Agree n c d × (rows ≡ count d (tag_at n))
  agree-rows d same = (
    λ place k. sym (agree-before place k) ∙ same place (le_step k),
    sym own_count ∙ same n (lt-suc_self n),
  )

pub agree_with : (n : ℕ) (l : n < many_tables) (c d : Counts) → Agree n c d → Agree (suc n) (with_count c (tag_at n) (count d (tag_at n))) d
agree_with n l c d same place k =
    ⊎_elim (λ e. rw e (own_count n l c (count d (tag_at n))))
    (λ below. agree-before n l c (count d (tag_at n)) place below ∙ same place below) (eq-or-lt_of_le (le_of_suc-le-suc k))

-- ---- no rows from a place on
pub none-none : (n : ℕ) → NoneFrom n no_rows
none-none n place from k = count-made (λ tag. 0) (tag_at place) (table_at place k)

pub no_numbers : numbers_in no_rows ≡ 0
unfolding sum
no_numbers = refl

pub ends : (c : Counts) (n : ℕ) → n ≤ many_tables → NoneFrom n c → numbers_in c ≡ numbers_before c n
ends c n l none =
    sum-rest n many_tables (λ place. held c (tag_at place)) l
    (λ place from k. ap (λ rows. rows * (form (tag_at place)).columns) (none place from k) ∙ zero-mul _)

pub starts-after : (c : Counts) (n : ℕ) → n < many_tables → NoneFrom n c → table_start c (tag_at n) ≡ numbers_in c
starts-after c n l none = start_at c n l ∙ sym (ends c n (omega (arith, l)) none)

pub grown : (n : ℕ) (l : n < many_tables) (c : Counts) (rows : ℕ) → NoneFrom n c
    → numbers_in (with_count c (tag_at n) rows) ≡ numbers_in c + rows * (form (tag_at n)).columns
unfolding sum
grown n l c rows none =
    ends (with_count c (tag_at n) rows) (suc n) l (none_with n l c rows none)
    ∙ ap (λ before. before + held (with_count c (tag_at n) rows) (tag_at n))
    (before_same n (with_count c (tag_at n) rows) c (agree-before n l c rows) ∙ sym (ends c n (omega (arith, l)) none))
    ∙ ap (λ count. numbers_in c + count * (form (tag_at n)).columns) (own_count n l c rows)

-- ---- counts within their bounds have room
pub few-none : Few no_rows
few-none =
    every (λ tag. count no_rows tag ≤ (form tag).most) (omega arith) (λ place l. rw (none-none 0 place (omega arith) l) (omega arith))

-- of a full day
pub most-count : (place : ℕ) → place < many_tables → count most_counts (tag_at place) ≡ (form (tag_at place)).most
most-count place l = count-made most (tag_at place) (table_at place l)

few-held : (c : Counts) → Few c → (place : ℕ) → place < many_tables → held c (tag_at place) ≤ held most_counts (tag_at place)
few-held c few place l =
    rw (most-count place l) (mul-le-mul_right (form (tag_at place)).columns (few (tag_at place)))

few-before : (c : Counts) → Few c → (n : ℕ) → n ≤ many_tables → numbers_before c n ≤ numbers_before most_counts n
few-before c few n l = sum_mono n _ _ (λ place k. few-held c few place (omega (arith, l, k)))

pub few_fit : (c : Counts) → Few c → numbers_in c ≤ most_numbers
few_fit c few = few-before c few many_tables (omega arith)

-- the table at a place, however full
pub room_after : (c : Counts) → Few c → (n : ℕ) → n < many_tables
    → table_start c (tag_at n) + (form (tag_at n)).most * (form (tag_at n)).columns ≤ most_numbers
unfolding sum
room_after c few n l =
    let full : held most_counts (tag_at n) ≡ (form (tag_at n)).most * (form (tag_at n)).columns =
    ap (λ rows. rows * (form (tag_at n)).columns) (most-count n l)
    in omega (
      arith,
      full,
      start_at c n l,
      few-before c few n (omega (arith, l)),
      before-within most_counts (suc n) many_tables l,
    )
