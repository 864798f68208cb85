-- What caps a row's numbers: where it stands, what is enough, and that a tag without a cap asks nothing.
use mathlib.Core.Path.{◌≡◌, refl, ap}
use mathlib.Core.Bool.{Bool, true, false, cond}
use mathlib.Core.Logic.{◌⊎◌, inl, inr}
use Prim.Native.Nat.{ℕ, ◌+◌, ◌≤◌, ◌<◌}
use native.Mathlib.Omega.{arith}
use lib.Dec.{leb, ltb, eqb}
use lib.ListN.{get_or}
use borrow.Author.Tests.{leb-true, ltb-true, eqb-true, le-ltb}
use Rattle.columns.specs.First.{first, first_from}
use Rattle.columns.proofs.Firsts.{first-marked}
use Rattle.dayformat.specs.declared.form.Tag.{Tag}
use Rattle.dayformat.specs.declared.form.Tag.TheVariants.{Head}
use Rattle.dayformat.specs.declared.rules.Name.{Name}
use Rattle.dayformat.specs.declared.layout.Counts.{Counts}
use Rattle.dayformat.specs.Format.{◌is_a◌, names, cap, first_name, filled_up, form}
use Rattle.dayformat.specs.Layout.{count, row_start}
use Rattle.dayformat.proofs.Every.{passes-every}
use Rattle.dayformat.proofs.Filled.{first_filled}
use Rattle.dayrows.specs.declared.Source.TheVariants.{File}
use Rattle.dayrows.specs.declared.Test.TheVariants.{Bounds}
use Rattle.dayrows.specs.Test.{bounded, keyed, lists, all_under, caps, capped, passes}
use Rattle.dayrows.proofs.Fitting.{Fits, fits, fits_is}
use Rattle.dayrows.proofs.Searches.{witnessed, unmarked}

-- ---- a tag's data
-- capped numbers and those that cap them stand within their rows
pub record Capped (tag : Tag) : Type 0 where
  pub name : (first_name tag).place ≤ 68
  pub inside : (cap tag).place + (cap tag).many ≤ (form tag).columns
  pub under : (cap tag).under + (cap tag).many ≤ (form (first_name tag).tag).columns

pub cap-inside : (tag : Tag) → Capped tag
unfolding first_from
cap-inside tag =
    record {
      name = leb-true _ _ (passes-every (λ tag. leb (first_name tag).place 68) refl (omega arith) tag);
      inside = leb-true _ _ (passes-every (λ tag. leb ((cap tag).place + (cap tag).many) (form tag).columns) refl (omega arith) tag);
      under =
          leb-true _ _
          (passes-every (λ tag. leb ((cap tag).under + (cap tag).many) (form (first_name tag).tag).columns) refl (omega arith) tag);
    }

-- nothing is capped, or the row that caps stands in a table before
pub cap-fits : (tag : Tag) → ((cap tag).many ≡ 0) ⊎ Fits tag (first_name tag)
unfolding first_from
cap-fits tag =
    by (eqb (cap tag).many 0) refl
    (passes-every (λ tag. cond (eqb (cap tag).many 0) true (fits tag (first_name tag))) refl (omega arith) tag)
  where
    by : (b : Bool) → eqb (cap tag).many 0 ≡ b → cond b true (fits tag (first_name tag)) ≡ true
        → ((cap tag).many ≡ 0) ⊎ Fits tag (first_name tag)
    by true none e = inl (eqb-true _ _ none)
    by false some e = inr (fits_is tag (first_name tag) e)

-- the array of a tag's names begins with its first
pub first_of : (tag : Tag) {list : _} → list ≡ filled_up 2 (0 is_a Head) (names tag) → (past : Name) → get_or list 0 past ≡ first_name tag
first_of tag is past = rw is (first_filled tag past)

-- ---- numbers none of which is above the other
pub all_under_by : (f : ℕ → ℕ) (many one other : ℕ) → ((place : ℕ) → place < many → f (one + place) ≤ f (other + place))
    → all_under f many one other ≡ true
unfolding all_under
all_under_by f many one other all = unmarked _ many (λ place l. le-ltb _ _ (all place l))

module _ (counts : Counts) (f : ℕ → ℕ) (tag : Tag) (at : ℕ) where
  abbrev name : Name
  name = first_name tag

  -- a row that has the key and of whose numbers none is less is enough
  pub capped_by : (row : ℕ) → row < count counts name.tag → keyed counts f name.tag (at + name.place) row ≡ true
      → all_under f (cap tag).many (at + (cap tag).place) (row_start counts name.tag row + (cap tag).under) ≡ true
      → capped counts f tag at ≡ true
  unfolding capped caps
  capped_by row l same none =
      by (lists counts f name.tag (at + name.place))
      (witnessed (λ row. caps counts f tag at row) (count counts name.tag) row l (rw (same, none)))
    where
      by : (b : Bool) {x : Bool} → x ≡ true → cond b x true ≡ true
      by true e = e
      by false e = refl

  -- no number, no cap
  pub uncapped : (cap tag).many ≡ 0 → capped counts f tag at ≡ true
  unfolding capped lists
  uncapped none = by (lists counts f name.tag (at + name.place)) refl
    where
      some : ℕ
      some = first (count counts name.tag) (λ row. keyed counts f name.tag (at + name.place) row)

      by : (b : Bool) → lists counts f name.tag (at + name.place) ≡ b → capped counts f tag at ≡ true
      by true e =
          let l = ltb-true some (count counts name.tag) e in
          capped_by some l (first-marked _ (count counts name.tag) l)
          (all_under_by f (cap tag).many _ _ (λ place k. absurd (omega (arith, k, none))))
      by false e = rw e

-- so a row of a tag without a cap is asked for what it was before there were any: not one too many, and each number within its bounds
pub uncapped_bounds : (counts : Counts) (f : ℕ → ℕ) (tag : Tag) (row : ℕ) → (cap tag).many ≡ 0
    → passes Bounds File counts f tag row
    ≡ cond (ltb row (form tag).most) (bounded f tag (row_start counts tag row)) false
unfolding passes
uncapped_bounds counts f tag row none =
    rw (uncapped counts f tag (row_start counts tag row) none)
    (ap (λ inside. cond (ltb row (form tag).most) inside false) (by (bounded f tag (row_start counts tag row))))
  where
    by : (inside : Bool) → cond inside true false ≡ inside
    by true = refl
    by false = refl
