-- Where a row's names are looked for: the keys lie within the numbers, and what is found is listed.
use mathlib.Core.Path.{◌≡◌, refl, ap, sym, ◌∙◌}
use mathlib.Core.Bool.{Bool, true, false, cond}
use mathlib.Core.List.{List, [], ◌∷◌}
use mathlib.Core.Logic.{◌⊎◌, inl, inr, ⊎_elim}
use Prim.Native.Nat.{ℕ, suc, ◌+◌, ◌*◌, ◌≤◌, ◌<◌}
use native.Mathlib.Nat.{mul-le-mul_right, add-zero}
use native.Mathlib.Omega.{arith}
use borrow.Author.Tests.{leb-true, ltb-true, eqb-true}
use lib.Dec.{leb, ltb, eqb}
use lib.ListN.{length, get_or}
use Rattle.columns.specs.Column.{col}
use Rattle.columns.specs.First.{first_from}
use Rattle.columns.specs.Sum.{sum}
use Rattle.dayformat.specs.declared.form.Tag.{Tag}
use Rattle.dayformat.specs.declared.form.Tag.TheVariants.{Head, Shipper, Point, Entry}
use Rattle.dayformat.specs.declared.form.Form.{Form}
use Rattle.dayformat.specs.declared.rules.Name.{Name}
use Rattle.dayformat.specs.declared.layout.Counts.{Counts}
use Rattle.dayformat.specs.Format.{◌is_a◌, names, first_name, tag_byte, table_place, filled_up, form}
use Rattle.dayformat.specs.Layout.{count, row_start}
use Rattle.dayformat.specs.Private.{HasTable}
use Rattle.dayformat.proofs.Every.{either, passes-every, byte_tells, all_of, all_at}
use Rattle.dayformat.proofs.Filled.{length_filled}
use Rattle.dayformat.proofs.Layouts.{before-next, before-within}
use Rattle.dayformat.proofs.Small.{small}
use Rattle.dayrows.specs.Test.{keyed, lists, capped, names_listed, named}
use Rattle.dayrows.proofs.Capping.{cap-fits, first_of, capped_by}
use Rattle.dayrows.proofs.Enough.{keyed_by}
use Rattle.dayrows.proofs.Naming.{listed_filled}
use Rattle.dayrows.proofs.Within.{both}
use Rattle.dayruns.specs.Private.{Same, KeysInside, CapsInside, under_cap, RowRead}
use Rattle.dayruns.proofs.RowReading.{row_room}

-- ---- a row of the table that a key is looked for in
module _ (counts : Counts) (tag : Tag) (numbers : List ℕ) (at row : ℕ) {found : Form} (is : found ≡ form tag) {start : ℕ}
    (begins : start ≡ row_start counts tag 0) (l : row < count counts tag) where
  pub row_here : start + row * found.columns ≡ row_start counts tag row
  row_here = rw is (omega (arith, begins))

  pub row_inside : KeysInside counts tag at numbers
      → (start + row * found.columns + found.key ≤ length numbers) × (at + found.key ≤ length numbers)
  row_inside K = rw (row_here, is) (K.1 row l, K.0)

  pub row-keyed : Same (col numbers) found.key (start + row * found.columns) at → keyed counts (col numbers) tag at row ≡ true
  row-keyed same =
      keyed_by counts (col numbers) tag row at
      (λ place h. ap (λ from. col numbers (from + place)) (sym row_here) ∙ same place (omega (arith, h, ap (λ form. form.key) is)))

-- ---- a tag's names, filled up: each stands within the row, and is the head's or is listed in a table before
abbrev sits : Tag → Name → Bool
sits tag name =
    cond (leb (name.place + (form name.tag).key) (form tag).columns)
    (cond (ltb (table_place name.tag) (table_place tag)) true (eqb (tag_byte name.tag) (tag_byte Head)))
    false

abbrev Before : Tag → Tag → Type 0
Before tag other = (other ≡ Head) ⊎ (HasTable other × (table_place other < table_place tag))

before : (tag other : Tag) → cond (ltb (table_place other) (table_place tag)) true (eqb (tag_byte other) (tag_byte Head)) ≡ true
    → Before tag other
before tag other e = ⊎_elim inl (λ t. by (ltb (table_place other) (table_place tag)) refl t.1 e) (either other)
  where
    by : (earlier : Bool) → ltb (table_place other) (table_place tag) ≡ earlier → HasTable other
        → cond earlier true (eqb (tag_byte other) (tag_byte Head)) ≡ true → Before tag other
    by true is t e = inr (t, ltb-true _ _ is)
    by false is t e = inl (byte_tells other Head (eqb-true _ _ e))

-- a table before ends before the row
row_ends : (counts : Counts) (tag other : Tag) (row room : ℕ) → row_start counts tag row ≤ room → HasTable other
    → table_place other < table_place tag → (i : ℕ) → i < count counts other → row_start counts other i + (form other).columns ≤ room
row_ends counts tag other row room ends table earlier i l =
    omega (
      arith,
      ends,
      mul-le-mul_right (form other).columns l,
      before-next counts other table,
      before-within counts (suc (table_place other)) (table_place tag) earlier,
    )

-- the head's key is empty
rows_inside : (counts : Counts) (tag other : Tag) (row room : ℕ) → row_start counts tag row ≤ room → Before tag other
    → (i : ℕ) → i < count counts other → row_start counts other i + (form other).key ≤ room
unfolding sum
rows_inside counts tag other row room ends (inl is) i l = rw is (omega (arith, rw is at l))
rows_inside counts tag other row room ends (inr t) i l =
    omega (arith, (small other).key, row_ends counts tag other row room ends t.0 t.1 i l)

module _ {counts : Counts} {file : List ℕ} {tag : Tag} {at row : ℕ} {lent after : List ℕ} {kept : Bool}
    (R : RowRead counts file tag at row lent after kept) (k : kept ≡ true) {to : ℕ} (here : to ≡ row_start counts tag row)
    {list : List Name} (is : list ≡ filled_up 2 (0 is_a Head) (names tag)) where
  pub name-inside : (next : ℕ) (past : Name) → next < 2
      → KeysInside counts (get_or list next past).tag (to + (get_or list next past).place) after
  unfolding first_from
  name-inside next past l =
      let name = get_or (filled_up 2 (0 is_a Head) (names tag)) next past in
      let fits =
      both (leb (name.place + (form name.tag).key) (form tag).columns)
      (cond (ltb (table_place name.tag) (table_place tag)) true (eqb (tag_byte name.tag) (tag_byte Head)))
      (all_at (sits tag) (filled_up 2 (0 is_a Head) (names tag))
      (passes-every (λ tag. all_of (sits tag) (filled_up 2 (0 is_a Head) (names tag))) refl (omega arith) tag) next past
      (rw length_filled l))
      in let near = leb-true (name.place + (form name.tag).key) (form tag).columns fits.0 in
      rw is (
        omega (arith, here, row_room R k, near),
        rows_inside counts tag name.tag row (length after) (omega (arith, row_room R k)) (before tag name.tag fits.1),
      )

  -- the row that the first name is found in, where it caps any numbers
  pub caps-inside : (past : Name) {other : ℕ} → other < count counts (get_or list 0 past).tag
      → CapsInside counts tag (get_or list 0 past).tag to other after
  caps-inside past {other} l =
      let first = first_of tag is past in (
        ap (λ name. name.tag) first,
        l,
        omega (arith, here, row_room R k),
        rw first
            (⊎_elim inl
            (λ F.
            inr
            (row_ends counts tag (first_name tag).tag row (length after) (omega (arith, row_room R k)) F.table F.before other
            (rw first at l)))
            (cap-fits tag)),
      )

-- ---- where both are listed, so is every name of the row
module _ (counts : Counts) (f : ℕ → ℕ) where
  abbrev Found : ℕ → Name → Type 0
  Found at name = lists counts f name.tag (at + name.place) ≡ true

  both-listed : (at : ℕ) (list : List Name) (past : Name) → length list ≡ 2 → Found at (get_or list 0 past) → Found at (get_or list 1 past)
      → names_listed counts f at list ≡ true
  unfolding names_listed
  both-listed at [] past long one two = absurd (omega (arith, long))
  both-listed at (x ∷ []) past long one two = absurd (omega (arith, long))
  both-listed at (x ∷ y ∷ []) past long one two = rw (one, two)
  both-listed at (x ∷ y ∷ z ∷ rest) past long one two = absurd (omega (arith, long))

  pub both-named : (tag : Tag) (row : ℕ) {to : ℕ} → to ≡ row_start counts tag row → {list : List Name} (past : Name)
      → list ≡ filled_up 2 (0 is_a Head) (names tag) → Found to (get_or list 0 past) → Found to (get_or list 1 past)
      → named counts f tag (row_start counts tag row) ≡ true
  both-named tag row {to} here {list} past is one two =
      ap (named counts f tag) (sym here)
      ∙ sym (listed_filled counts f to tag)
      ∙ ap (names_listed counts f to) (sym is)
      ∙ both-listed to list past (ap length is ∙ length_filled 2 (0 is_a Head) (names tag)) one two

  -- and where the row of the first caps the row's numbers, it keeps under them
  pub first-caps : (tag : Tag) (row : ℕ) {to : ℕ} → to ≡ row_start counts tag row → {list : List Name} (past : Name)
      → list ≡ filled_up 2 (0 is_a Head) (names tag) → {other : ℕ} → other < count counts (get_or list 0 past).tag
      → keyed counts f (get_or list 0 past).tag (to + (get_or list 0 past).place) other ≡ true
      → under_cap counts f tag (get_or list 0 past).tag to other ≡ true → capped counts f tag (row_start counts tag row) ≡ true
  first-caps tag row {to} here {list} past is {other} l same under =
      let first = first_of tag is past in
      rw (← here) (capped_by counts f tag to other (rw first at l) (rw first at same) (rw first at under))

  -- an entry's point and shipper
  pub entry_named : (row : ℕ) {to : ℕ} → to ≡ row_start counts Entry row → lists counts f Point to ≡ true
      → lists counts f Shipper (to + 2) ≡ true → named counts f Entry (row_start counts Entry row) ≡ true
  unfolding names_listed
  entry_named row {to} here point shipper = ap (named counts f Entry) (sym here) ∙ rw (add-zero, point, shipper)
