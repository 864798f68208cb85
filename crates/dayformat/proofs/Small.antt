-- A body is short, whatever the tag, and holds its key; each of its numbers is spelled by few bytes.
use mathlib.Core.Path.{◌≡◌, refl}
use mathlib.Core.Bool.{Bool, true, false, cond}
use mathlib.Core.List.{List, [], ◌∷◌}
use Prim.Native.Nat.{ℕ, ◌-◌, ◌*◌, ◌^◌, ◌≤◌, ◌<◌}
use native.Mathlib.Nat.{mul-le-mul_left}
use native.Mathlib.Omega.{arith}
use lib.Dec.{leb, ltb}
use borrow.Author.Tests.{leb-true, ltb-true}
use Rattle.columns.specs.Column.{listed}
use Rattle.columns.specs.First.{first_from}
use Rattle.columns.specs.Sum.{sum}
use Rattle.columns.proofs.Sums.{sum-within}
use Rattle.bigendian.specs.Number.{widest}
use Rattle.bigendian.specs.Row.{size}
use Rattle.dayformat.specs.declared.body.Column.{Column}
use Rattle.dayformat.specs.declared.body.Several.{Several}
use Rattle.dayformat.specs.declared.form.Tag.{Tag}
use Rattle.dayformat.specs.Format.{none, body, many_tables, tag_at, column_in, form}
use Rattle.dayformat.proofs.Every.{passes-every, all_of, all_first}

pub record Small (tag : Tag) : Type 0 where
  pub columns : (form tag).columns ≤ 68
  pub size : (form tag).size ≤ 270
  pub most : (form tag).most ≤ 512
  pub key : (form tag).key ≤ (form tag).columns
  pub some_columns : 0 < (form tag).columns
  pub some-fields : 0 < (form tag).most

pub small : (tag : Tag) → Small tag
unfolding listed size column_in first_from
small tag =
    record {
      columns = leb-true _ _ (passes-every (λ tag. leb (form tag).columns 68) refl (omega arith) tag);
      size = leb-true _ _ (passes-every (λ tag. leb (form tag).size 270) refl (omega arith) tag);
      most = leb-true _ _ (passes-every (λ tag. leb (form tag).most 512) refl (omega arith) tag);
      key = leb-true _ _ (passes-every (λ tag. leb (form tag).key (form tag).columns) refl (omega arith) tag);
      some_columns = ltb-true _ _ (passes-every (λ tag. ltb 0 (form tag).columns) refl (omega arith) tag);
      some-fields = ltb-true _ _ (passes-every (λ tag. ltb 0 (form tag).most) refl (omega arith) tag);
    }

-- so many rows of it have so few numbers
pub rows-small : (tag : Tag) (row : ℕ) → row < 2 ^ 32 → row * (form tag).columns ≤ 68 * 2 ^ 32
rows-small tag row l = omega (arith, mul-le-mul_left row (small tag).columns)

-- and so few numbers have a row of each table before a place, and of all
pub columns_few : (n : ℕ) → n ≤ many_tables → sum n (λ place. (form (tag_at place)).columns) ≤ 180
unfolding sum
columns_few n l = omega (arith, sum-within n many_tables (λ place. (form (tag_at place)).columns) l, all)
  where
    all : sum many_tables (λ place. (form (tag_at place)).columns) ≤ 180
    all = omega arith

-- ---- what holds of every kind of a body holds of every number of it
column-each : (test : Column → Bool) → test none ≡ true → (all : List Several) → all_of (λ several. test several.kind) all ≡ true
    → (place : ℕ) → test (column_in all place) ≡ true
unfolding column_in
column-each test past [] each place = past
column-each test past (several ∷ rest) each place =
    by (ltb place several.many) (column-each test past rest first.1 (place - several.many))
  where
    first : (test several.kind ≡ true) × (all_of (λ several. test several.kind) rest ≡ true)
    first = all_first (λ several. test several.kind) several rest each

    by : (b : Bool) → test (column_in rest (place - several.many)) ≡ true
        → test (cond b several.kind (column_in rest (place - several.many))) ≡ true
    by true h = first.0
    by false h = h

-- no number has more bytes than a u32
pub narrow_kinds : (tag : Tag) → all_of (λ several. leb several.kind.width widest) (body tag) ≡ true
unfolding first_from
narrow_kinds = passes-every (λ tag. all_of (λ several. leb several.kind.width widest) (body tag)) refl (omega arith)

pub narrow : (tag : Tag) (place : ℕ) → (column_in (body tag) place).width ≤ widest
narrow tag place = leb-true _ _ (column-each (λ column. leb column.width widest) refl (body tag) (narrow_kinds tag) place)

-- a number within its bounds can be spelled
pub spelled : (tag : Tag) (place : ℕ) → (column_in (body tag) place).high < 256 ^ (column_in (body tag) place).width
unfolding first_from
spelled tag place =
    ltb-true _ _
    (column-each (λ column. ltb column.high (256 ^ column.width)) refl (body tag)
    (passes-every (λ tag. all_of (λ several. ltb several.kind.high (256 ^ several.kind.width)) (body tag)) refl (omega arith) tag)
    place)
