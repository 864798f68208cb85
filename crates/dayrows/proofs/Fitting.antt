-- What a tag's data promise: names and MDQs stand within the row, and what is named is listed in a table before.
use mathlib.Core.Path.{◌≡◌, refl}
use mathlib.Core.Bool.{Bool, true, false, cond}
use mathlib.Core.List.{List}
use Prim.Native.Nat.{ℕ, ◌+◌, ◌≤◌, ◌<◌}
use native.Mathlib.Omega.{arith}
use lib.Dec.{leb, ltb, eqb}
use lib.ListN.{get_or}
use borrow.Author.Tests.{leb-true, ltb-true, eqb-true}
use Rattle.columns.specs.First.{first_from}
use Rattle.dayformat.specs.declared.form.Tag.{Tag}
use Rattle.dayformat.specs.declared.rules.Name.{Name}
use Rattle.dayformat.specs.declared.rules.Pair.{Pair}
use Rattle.dayformat.specs.Format.{names, ◌for◌, mdqs, tag_byte, tag_at, table_place, filled_up, form}
use Rattle.dayformat.specs.Private.{HasTable}
use Rattle.dayformat.proofs.Every.{passes-every, byte_tells, all_of, all_at}
use Rattle.dayformat.proofs.Filled.{length_filled}
use Rattle.dayrows.proofs.Within.{both}

-- ---- a name
pub record Fits (tag : Tag) (name : Name) : Type 0 where
  pub near : name.place + (form name.tag).key ≤ (form tag).columns
  pub before : table_place name.tag < table_place tag
  pub table : HasTable name.tag

abbrev pub fits : Tag → Name → Bool
fits tag name =
    cond (leb (name.place + (form name.tag).key) (form tag).columns)
    (cond (ltb (table_place name.tag) (table_place tag))
    (eqb (tag_byte (tag_at (table_place name.tag))) (tag_byte name.tag))
    false)
    false

pub fits_is : (tag : Tag) (name : Name) → fits tag name ≡ true → Fits tag name
fits_is tag name e =
    let near = both (leb (name.place + (form name.tag).key) (form tag).columns) _ e in
    let before = both (ltb (table_place name.tag) (table_place tag)) _ near.1 in
    record {
      near = leb-true _ _ near.0;
      before = ltb-true _ _ before.0;
      table = byte_tells _ _ (eqb-true _ _ before.1);
    }

pub names_fit : (tag : Tag) → all_of (fits tag) (names tag) ≡ true
unfolding first_from
names_fit = passes-every (λ tag. all_of (fits tag) (names tag)) refl (omega arith)

-- ---- an MDQ and its schedule
abbrev pub inside_row : Tag → Pair → Bool
inside_row tag pair = cond (ltb pair.mdq (form tag).columns) (ltb pair.schedule (form tag).columns) false

pub inside_row_is : (tag : Tag) (pair : Pair) → inside_row tag pair ≡ true
    → (pair.mdq < (form tag).columns) × (pair.schedule < (form tag).columns)
inside_row_is tag pair e =
    let inside = both (ltb pair.mdq (form tag).columns) _ e in
    (ltb-true _ _ inside.0, ltb-true _ _ inside.1)

pub mdqs-inside : (tag : Tag) → all_of (inside_row tag) (mdqs tag) ≡ true
unfolding first_from
mdqs-inside = passes-every (λ tag. all_of (inside_row tag) (mdqs tag)) refl (omega arith)

-- the array of a tag's MDQs, filled up, has places within the row
pub pair_inside : (tag : Tag) {list : List Pair} → list ≡ filled_up 2 (0 for 0) (mdqs tag) → (next : ℕ) (past : Pair) → next < 2
    → ((get_or list next past).mdq < (form tag).columns) × ((get_or list next past).schedule < (form tag).columns)
unfolding first_from
pair_inside tag is next past l =
    rw is
    (inside_row_is tag (get_or (filled_up 2 (0 for 0) (mdqs tag)) next past)
    (all_at (inside_row tag) (filled_up 2 (0 for 0) (mdqs tag))
    (passes-every (λ tag. all_of (inside_row tag) (filled_up 2 (0 for 0) (mdqs tag))) refl (omega arith) tag) next past
    (rw length_filled l)))
