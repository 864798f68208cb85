-- A row's tests look at nothing but the numbers before the row's end and the counts of earlier tags.
use mathlib.Core.Path.{◌≡◌, refl, ap, sym, ◌∙◌}
use mathlib.Core.Bool.{Bool, true, false, cond, not}
use mathlib.Core.List.{List, [], ◌∷◌}
use mathlib.Core.Logic.{◌⊎◌, inl, inr}
use Prim.Native.Nat.{ℕ, zero, suc, ◌+◌, ◌<◌}
use lib.Dec.{leb, ltb, eqb}
use native.Mathlib.Nat.{mul-le-mul_right}
use native.Mathlib.Omega.{arith}
use borrow.Author.Tests.{ltb-true}
use Rattle.columns.proofs.Firsts.{first-same}
use Rattle.dayformat.specs.declared.form.Tag.{Tag}
use Rattle.dayformat.specs.declared.rules.Name.{Name}
use Rattle.dayformat.specs.declared.rules.Pair.{Pair}
use Rattle.dayformat.specs.declared.layout.Counts.{Counts}
use Rattle.dayformat.specs.Format.{body, names, mdqs, cap, first_name, table_place, column_in, form}
use Rattle.dayformat.specs.Layout.{count, table_start, row_start}
use Rattle.dayformat.specs.Private.{Agree}
use Rattle.dayformat.proofs.Every.{all_of, all_first}
use Rattle.dayformat.proofs.Layouts.{before_same, before-next, before-within}
use Rattle.dayformat.proofs.Small.{small}
use Rattle.dayrows.specs.declared.Source.{Source}
use Rattle.dayrows.specs.declared.Source.TheVariants.{File, Side}
use Rattle.dayrows.specs.declared.Test.{Test}
use Rattle.dayrows.specs.declared.Test.TheVariants.{Bounds, Key, Mdq}
use Rattle.dayrows.specs.Test.{in_bounds, bounded, difference, lists, all_under, caps, capped, of_source}
use Rattle.dayrows.specs.Test.{less, rises, names_listed, names_known, some_idle, passes, fault}
use Rattle.dayrows.proofs.Capping.{cap-inside, cap-fits, uncapped}
use Rattle.dayrows.proofs.Fitting.{Fits, fits, fits_is, names_fit, inside_row, inside_row_is, mdqs-inside}

-- the tables before a tag's begin where they did, and so does its own
pub start-same : (tag : Tag) (c d : Counts) → Agree (table_place tag) c d → table_start c tag ≡ table_start d tag
start-same tag c d e = before_same (table_place tag) c d e

-- what follows a test counts only where it passes
after_test : (t x y : Bool) → (t ≡ true → x ≡ y) → cond t x false ≡ cond t y false
after_test true x y same = same refl
after_test false x y same = refl

module _ (f g : ℕ → ℕ) where
  -- the numbers before a place, and so many from a place on
  abbrev Before : ℕ → Type 0
  Before end = (place : ℕ) → place < end → f place ≡ g place

  abbrev From : ℕ → ℕ → Type 0
  From at many = (place : ℕ) → place < many → f (at + place) ≡ g (at + place)

  bounded-same : (tag : Tag) (at : ℕ) → From at (form tag).columns → bounded f tag at ≡ bounded g tag at
  unfolding bounded
  bounded-same tag at same =
      ap (leb (form tag).columns)
      (first-same _ _ _ (λ place l. ap (λ number. not (in_bounds (column_in (body tag) place) number)) (same place l)))

  difference-same : (many one other : ℕ) → From one many → From other many → difference f many one other ≡ difference g many one other
  unfolding difference
  difference-same many one other first second = first-same _ _ _ (λ place l. rw (first place l, second place l))

  -- the first number in which two keys differ is compared only where they do
  less-same : (key one other : ℕ) → From one key → From other key → less f key one other ≡ less g key one other
  less-same key one other first second =
      let place = difference f key one other in
      rw (← difference-same key one other first second)
      (after_test (ltb place key) (ltb (f (one + place)) (f (other + place))) (ltb (g (one + place)) (g (other + place)))
      (λ differ. let l = ltb-true place key differ in rw (first place l, second place l)))

  module _ (tag : Tag) (c d : Counts) (start : table_start c tag ≡ table_start d tag) where
    rises-same : (row : ℕ) → Before (row_start c tag (suc row)) → rises c f tag row ≡ rises d g tag row
    unfolding rises
    rises-same zero same = refl
    rises-same (suc row) same =
        rw (← start)
        (less-same (form tag).key (row_start c tag row) (row_start c tag (suc row))
        (λ place l. same (row_start c tag row + place) (omega (arith, (small tag).key)))
        (λ place l. same (row_start c tag (suc row) + place) (omega (arith, (small tag).key))))

    key-same : (row at : ℕ) → row < count c tag → Before (row_start c tag (count c tag)) → From at (form tag).key
        → difference f (form tag).key (row_start c tag row) at ≡ difference g (form tag).key (row_start c tag row) at
    key-same row at l same here =
        difference-same (form tag).key (row_start c tag row) at
        (λ place h. same (row_start c tag row + place) (omega (arith, (small tag).key, mul-le-mul_right (form tag).columns l))) here

    lists-same : (at : ℕ) → count c tag ≡ count d tag → Before (row_start c tag (count c tag)) → From at (form tag).key
        → lists c f tag at ≡ lists d g tag at
    unfolding lists
    lists-same at many same here =
        rw (← start, ← many)
        (ap (λ row. ltb row (count c tag)) (first-same _ _ _ (λ row l. ap (leb (form tag).key) (key-same row at l same here))))

  -- the tables that a row names stand before its own
  module _ (tag : Tag) (c d : Counts) (row : ℕ) (e : Agree (table_place tag) c d) (same : Before (row_start c tag (suc row)))
      (name : Name) (F : Fits tag name) where
    named_start : table_start c name.tag ≡ table_start d name.tag
    named_start = start-same name.tag c d (λ place l. e place (omega (arith, l, F.before)))

    named_count : count c name.tag ≡ count d name.tag
    named_count = rw F.table at (e (table_place name.tag) F.before)

    named-before : Before (row_start c name.tag (count c name.tag))
    named-before place l =
        same place
        (omega (
          arith,
          l,
          before-next c name.tag F.table,
          before-within c (suc (table_place name.tag)) (table_place tag) F.before,
        ))

    name-from : From (row_start c tag row + name.place) (form name.tag).key
    name-from place l = same (row_start c tag row + name.place + place) (omega (arith, l, F.near))

    listed_same : lists c f name.tag (row_start c tag row + name.place) ≡ lists d g name.tag (row_start c tag row + name.place)
    listed_same = lists-same name.tag c d named_start (row_start c tag row + name.place) named_count named-before name-from

  names_same : (tag : Tag) (c d : Counts) (row : ℕ) → Agree (table_place tag) c d → Before (row_start c tag (suc row))
      → (list : List Name) → all_of (fits tag) list ≡ true
      → names_listed c f (row_start c tag row) list ≡ names_listed d g (row_start c tag row) list
  unfolding names_listed
  names_same tag c d row e same [] all = refl
  names_same tag c d row e same (name ∷ rest) all =
      let first = all_first (fits tag) name rest all in
      rw (listed_same tag c d row e same name (fits_is tag name first.0), names_same tag c d row e same rest first.1)

  idle-same : (tag : Tag) (at : ℕ) → From at (form tag).columns → (list : List Pair) → all_of (inside_row tag) list ≡ true
      → some_idle f at list ≡ some_idle g at list
  unfolding some_idle
  idle-same tag at same [] all = refl
  idle-same tag at same (pair ∷ rest) all =
      let first = all_first (inside_row tag) pair rest all in
      let here = inside_row_is tag pair first.0 in
      rw (same pair.mdq here.0, same pair.schedule here.1, idle-same tag at same rest first.1)

  under_same : (many one other : ℕ) → From one many → From other many → all_under f many one other ≡ all_under g many one other
  unfolding all_under
  under_same many one other first second =
      ap (leb many)
      (first-same many (λ place. ltb (f (other + place)) (f (one + place))) (λ place. ltb (g (other + place)) (g (one + place)))
      (λ place l. rw (first place l, second place l)))

  -- a row that caps stands in a table before, and nothing else is looked at
  caps-same : (tag : Tag) (c d : Counts) (row : ℕ) → Agree (table_place tag) c d → Before (row_start c tag (suc row))
      → Fits tag (first_name tag) → (other : ℕ) → other < count c (first_name tag).tag
      → caps c f tag (row_start c tag row) other ≡ caps d g tag (row_start c tag row) other
  unfolding caps
  caps-same tag c d row e same F other l =
      let name = first_name tag in
      let at = row_start c tag row in
      let start = named_start tag c d row e same name F in
      let before = named-before tag c d row e same name F in
      let inside = cap-inside tag in
      rw (
        ← start,
        key-same name.tag c d start other (at + name.place) l before (name-from tag c d row e same name F),
        under_same (cap tag).many (at + (cap tag).place) (row_start c name.tag other + (cap tag).under)
            (λ place k. same (at + (cap tag).place + place) (omega (arith, k, inside.inside)))
            (λ place k.
            before (row_start c name.tag other + (cap tag).under + place)
            (omega (arith, k, inside.under, mul-le-mul_right (form name.tag).columns l))),
      )

  capped_same : (tag : Tag) (c d : Counts) (row : ℕ) → Agree (table_place tag) c d → Before (row_start c tag (suc row))
      → capped c f tag (row_start c tag row) ≡ capped d g tag (row_start c tag row)
  unfolding capped
  capped_same tag c d row e same = by (cap-fits tag)
    where
      at : ℕ
      at = row_start c tag row

      by : ((cap tag).many ≡ 0) ⊎ Fits tag (first_name tag) → capped c f tag at ≡ capped d g tag at
      by (inl none) = uncapped c f tag at none ∙ sym (uncapped d g tag at none)
      by (inr F) =
          rw (
            listed_same tag c d row e same (first_name tag) F,
            ← named_count tag c d row e same (first_name tag) F,
            first-same (count c (first_name tag).tag) (λ other. caps c f tag at other) (λ other. caps d g tag at other)
                (caps-same tag c d row e same F),
          )

  of_source-same : (source : Source) (tag : Tag) (c d : Counts) (row : ℕ) → Agree (table_place tag) c d
      → Before (row_start c tag (suc row))
      → of_source source c f tag (row_start c tag row) ≡ of_source source d g tag (row_start c tag row)
  of_source-same File tag c d row e same = capped_same tag c d row e same
  of_source-same (Side side) tag c d row e same =
      ap (λ number. eqb number side) (same (row_start c tag row) (omega (arith, (small tag).some_columns)))

  known_same : (source : Source) (tag : Tag) (c d : Counts) (row : ℕ) → Agree (table_place tag) c d → Before (row_start c tag (suc row))
      → names_known source c f tag (row_start c tag row) ≡ names_known source d g tag (row_start c tag row)
  known_same File tag c d row e same = names_same tag c d row e same (names tag) (names_fit tag)
  known_same (Side side) tag c d row e same = refl

pub passes_same : (test : Test) (source : Source) (tag : Tag) (c d : Counts) (f g : ℕ → ℕ) (row : ℕ) → Agree (table_place tag) c d
    → ((place : ℕ) → place < row_start c tag (suc row) → f place ≡ g place)
    → passes test source c f tag row ≡ passes test source d g tag row
unfolding passes
passes_same Bounds source tag c d f g row e same =
    let at = row_start c tag row in
    rw (
      ← start-same tag c d e,
      bounded-same f g tag at (λ place l. same (at + place) (omega arith)),
      of_source-same f g source tag c d row e same,
    )
passes_same Key source tag c d f g row e same =
    rw (rises-same f g tag c d (start-same tag c d e) row same, ← start-same tag c d e, known_same f g source tag c d row e same)
passes_same Mdq source tag c d f g row e same =
    let at = row_start c tag row in
    rw (← start-same tag c d e, idle-same f g tag at (λ place l. same (at + place) (omega arith)) (mdqs tag) (mdqs-inside tag))

pub fault-same : (source : Source) (tag : Tag) (c d : Counts) (f g : ℕ → ℕ) (row : ℕ) → Agree (table_place tag) c d
    → ((place : ℕ) → place < row_start c tag (suc row) → f place ≡ g place)
    → fault source c f tag row ≡ fault source d g tag row
unfolding fault
fault-same source tag c d f g row e same =
    rw (
      passes_same Bounds source tag c d f g row e same,
      passes_same Key source tag c d f g row e same,
      passes_same Mdq source tag c d f g row e same,
    )
