-- The head's field as it is written, read back.
use Rattle.std.specs.Prelude.{Ok, is_ok}
use mathlib.Core.Path.{◌≡◌, refl, ap, sym, ◌∙◌}
use mathlib.Core.Bool.{true, cond, not}
use mathlib.Core.List.{List, [], ◌++◌}
use Prim.Native.Nat.{ℕ, zero, suc, ◌+◌, ◌^◌, ◌≤◌, ◌<◌}
use native.Mathlib.Nat.{le_of_eq}
use native.Mathlib.Omega.{arith}
use borrow.Author.Tests.{le-leb}
use lib.ListN.{length, drop}
use Rattle.columns.specs.Column.{col, listed, joined}
use Rattle.columns.specs.Sum.{sum}
use Rattle.columns.proofs.Firsts.{first-none}
use Rattle.columns.proofs.Lists.{length-listed}
use Rattle.units.specs.Bound.{most_gigajoules}
use Rattle.bigendian.specs.Row.{decode, Fit}
use Rattle.dayformat.specs.declared.day.Head.{Head}
use Rattle.dayformat.specs.declared.form.Tag.TheVariants as Tag
use Rattle.dayformat.specs.Format.{body, column_in, widths, field_size, field}
use Rattle.dayformat.specs.Layout.{no_rows, row_start}
use Rattle.dayformat.specs.DayBytes.{head_row}
use Rattle.dayrows.specs.declared.Source.TheVariants.{File}
use Rattle.dayrows.specs.declared.Test.{Test}
use Rattle.dayrows.specs.declared.Test.TheVariants.{Bounds, Key, Mdq}
use Rattle.dayrows.specs.Test.{in_bounds, bounded, rises, names_listed, some_idle, passes}
use Rattle.dayrows.specs.Whole.{broken}
use Rattle.dayrows.proofs.Capping.{uncapped}
use Rattle.dayrows.proofs.Faults.{none-fault}
use Rattle.dayrows.proofs.Breaking.{whole-none}
use Rattle.dayruns.specs.Run.{place_of, rows_of, field_fault}
use Rattle.dayfile.specs.File.{head_fields, head_fault, head_of, headed}
use Rattle.dayfile.proofs.FieldsThere.{whole-there, row-there}
use Rattle.dayfile.proofs.FileAgain.{head-numbers}

-- the day number is a u32, and both capacities are within their bound
pub record Bounded (head : Head) : Type 0 where
  pub day : head.day < 2 ^ 32
  pub free_flow : head.free_flow.0 ≤ most_gigajoules
  pub compressor : head.compressor.0 ≤ most_gigajoules

module _ (head : Head) (B : Bounded head) where
  head-fits : Fit (widths Tag.Head) (head_row head)
  unfolding listed column_in
  head-fits = record { as_many = sym (length-listed 3 (λ place. (column_in (body Tag.Head) place).width)); below = below }
    where
      below : (place : ℕ) → place < length (widths Tag.Head) → col (head_row head) place < 256 ^ col (widths Tag.Head) place
      below zero l = omega (arith, B.day)
      below (suc zero) l = omega (arith, B.free_flow)
      below (suc (suc zero)) l = omega (arith, B.compressor)
      below (suc (suc (suc place))) l = absurd (omega (arith, l))

  head-within : (place : ℕ) → place < 3 → in_bounds (column_in (body Tag.Head) place) (col (head_row head) place) ≡ true
  unfolding column_in
  head-within zero l = rw (le-leb 0 head.day (omega arith), le-leb head.day 4_294_967_295 (omega (arith, B.day)))
  head-within (suc zero) l = rw (
    le-leb 0 head.free_flow.0 (omega arith),
    le-leb head.free_flow.0 most_gigajoules
        B.free_flow,
  )
  head-within (suc (suc zero)) l = rw (
    le-leb 0 head.compressor.0 (omega arith),
    le-leb head.compressor.0 most_gigajoules
        B.compressor,
  )
  head-within (suc (suc (suc place))) l = absurd (omega (arith, l))

  module _ (rest : List ℕ) where
    abbrev file : List ℕ
    file = field Tag.Head (head_row head) ++ rest

    first : place_of (head_fields file) 0 ≡ 0
    first = omega arith

    row_back : decode (widths Tag.Head) (drop 3 file) ≡ head_row head
    row_back = row-there Tag.Head (head_row head) head-fits [] rest

    rows_back : rows_of (head_fields file) 1 ≡ head_row head
    unfolding joined
    rows_back = ap (λ at. decode (widths Tag.Head) (drop (at + 3) file)) first ∙ row_back

    head-passes : (test : Test) → passes test File no_rows (col (head_row head)) Tag.Head 0 ≡ true
    unfolding passes bounded rises names_listed some_idle sum
    head-passes Bounds =
        rw (
          le-leb 3 _
              (le_of_eq
              (sym
              (first-none (λ place. not
              (in_bounds (column_in (body Tag.Head) place) (col (head_row head) (row_start no_rows Tag.Head 0 + place)))) 3
              (λ place l.
              let at : row_start no_rows Tag.Head 0 + place ≡ place = omega arith in
              ap (λ k. not (in_bounds (column_in (body Tag.Head) place) (col (head_row head) k))) at
              ∙ ap not (head-within place l))))),
          uncapped no_rows (col (head_row head)) Tag.Head (row_start no_rows Tag.Head 0) refl,
        )
    head-passes Key = refl
    head-passes Mdq = refl

    pub head-sound : head_fault file ≡ Ok tt
    unfolding field_fault
    head-sound =
        let whole : broken file Tag.Head (place_of (head_fields file) 0) ≡ Ok tt =
        ap (broken file Tag.Head) first ∙ whole-none file Tag.Head 0 (whole-there Tag.Head (head_row head) head-fits [] rest)
        in rw (whole, rows_back) (none-fault File no_rows (col (head_row head)) Tag.Head 0 head-passes)

    pub headed-again : headed file ≡ record { found = Ok tt; place = field_size Tag.Head; counts = no_rows }
    unfolding headed
    headed-again = ap (λ n. record { found = n; place = cond (is_ok n) (field_size Tag.Head) 0; counts = no_rows }) head-sound

    -- and the head is the same
    same_row : head_row (head_of file) ≡ head_row head
    same_row = sym (head-numbers file) ∙ row_back

    pub head-again : head_of file ≡ head
    head-again =
        ap (λ n. record { day = n; free_flow = (head_of file).free_flow; compressor = (head_of file).compressor })
        (ap (λ row. col row 0) same_row)
        ∙ ap (λ n. record { day = head.day; free_flow = record { 0 = n }; compressor = (head_of file).compressor })
        (ap (λ row. col row 1) same_row)
        ∙ ap (λ n. record { day = head.day; free_flow = head.free_flow; compressor = record { 0 = n } })
        (ap (λ row. col row 2) same_row)
