-- A row's key against that of the row before.
use mathlib.Core.Path.{◌≡◌, sym, ◌∙◌}
use mathlib.Core.Bool.{true, false}
use Prim.Native.Nat.{ℕ, zero, suc, ◌+◌, ◌-◌, ◌≤◌, ◌<◌}
use lib.Dec.{ltb}
use borrow.Author.Tests.{lt-ltb, le-ltb}
use native.Mathlib.Omega.{arith}
use Rattle.dayformat.specs.declared.form.Tag.{Tag}
use Rattle.dayformat.specs.declared.layout.Counts.{Counts}
use Rattle.dayformat.specs.Format.{form}
use Rattle.dayformat.specs.Layout.{row_start}
use Rattle.dayrows.specs.Test.{difference, less, rises}

-- two keys are compared in the number in which they first differ, and where they differ in none neither is less
module _ (numbers : ℕ → ℕ) (key one other place : ℕ) (p : place ≡ difference numbers key one other) where
  pub less_by : place < key → ltb (numbers (one + place)) (numbers (other + place)) ≡ less numbers key one other
  less_by l = rw (← p, lt-ltb place key l)

  pub not_less : key ≤ place → false ≡ less numbers key one other
  not_less l = rw (← p, le-ltb place key l)

module _ (counts : Counts) (numbers : ℕ → ℕ) (tag : Tag) where
  pub rises-first : (row : ℕ) → row ≡ 0 → rises counts numbers tag row ≡ true
  unfolding rises
  rises-first row e = rw e

  -- a later row's key rises where that of the row which ends at it is less
  pub rises-less : (row before : ℕ) → (row ≡ 0 → ⊥) → before + (form tag).columns ≡ row_start counts tag row
      → rises counts numbers tag row ≡ less numbers (form tag).key before (row_start counts tag row)
  unfolding rises
  rises-less zero before some b = absurd (omega (arith, some))
  rises-less (suc row) before some b = let here : before ≡ row_start counts tag row = omega (arith, b) in rw here

  row_before : (row : ℕ) → (row ≡ 0 → ⊥) → row_start counts tag (row - 1) + (form tag).columns ≡ row_start counts tag row
  row_before zero some = absurd (omega (arith, some))
  row_before (suc row) some = let e : suc row - 1 ≡ row = omega arith in rw e (omega arith)

  module _ (key before here place : ℕ) (k : key ≡ (form tag).key) (p : place ≡ difference numbers key before here)
      (row : ℕ) (some : row ≡ 0 → ⊥) (b : before ≡ row_start counts tag (row - 1)) (h : here ≡ row_start counts tag row) where
    later : less numbers key before here ≡ rises counts numbers tag row
    later = rw (k, h) (sym (rises-less row before some (rw b (row_before row some))))

    pub rises_by : place < key → ltb (numbers (before + place)) (numbers (here + place)) ≡ rises counts numbers tag row
    rises_by l = less_by numbers key before here place p l ∙ later

    pub stays : key ≤ place → false ≡ rises counts numbers tag row
    stays l = not_less numbers key before here place p l ∙ later
