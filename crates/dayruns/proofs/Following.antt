-- Whether there may be a row, and it follows another of its table.
use mathlib.Core.Path.{◌≡◌, ap, sym}
use mathlib.Core.Bool.{true, false, cond}
use Prim.Native.Nat.{ℕ, ◌-◌, ◌≤◌, ◌<◌}
use native.Mathlib.Nat.{mul-le-mul_right}
use native.Mathlib.Omega.{arith}
use borrow.Author.Tests.{lt-ltb, le-ltb}
use lib.Dec.{ltb}
use Rattle.dayformat.specs.declared.form.Tag.{Tag}
use Rattle.dayformat.specs.declared.form.Form.{Form}
use Rattle.dayformat.specs.declared.layout.Counts.{Counts}
use Rattle.dayformat.specs.Format.{form}
use Rattle.dayformat.specs.Layout.{row_start}
use Rattle.dayformat.proofs.Small.{small}
use Rattle.dayrows.specs.Test.{less, rises}
use Rattle.dayrows.proofs.Rising.{rises-first, rises-less}

-- the row before stands whole before a later one
pub room-before : (counts : Counts) (tag : Tag) (row : ℕ) → (row ≡ 0 → ⊥) → (form tag).columns ≤ row_start counts tag row
room-before counts tag row some = let l : 1 ≤ row = omega (arith, some) in omega (arith, mul-le-mul_right (form tag).columns l)

module _ (counts : Counts) (tag : Tag) (row : ℕ) (f : ℕ → ℕ) where
  pub follows_none : row ≡ 0 → true ≡ cond (ltb row (form tag).most) (rises counts f tag row) false
  follows_none e =
      rw (lt-ltb row (form tag).most (omega (arith, e, (small tag).some-fields)), rises-first counts f tag row e)

  module _ {found : Form} (is : found ≡ form tag) where
    pub too_many : found.most ≤ row → false ≡ cond (ltb row (form tag).most) (rises counts f tag row) false
    too_many h = rw (le-ltb row (form tag).most (omega (arith, h, ap (λ form. form.most) is)))

    pub follows : {here : ℕ} → row < found.most → (row ≡ 0 → ⊥) → here ≡ row_start counts tag row
        → less f found.key (here - found.columns) here ≡ cond (ltb row (form tag).most) (rises counts f tag row) false
    follows few some h =
        let before = row_start counts tag row - (form tag).columns in
        rw (lt-ltb row (form tag).most (omega (arith, few, ap (λ form. form.most) is)), is, h)
        (sym (rises-less counts f tag row before some (omega (arith, room-before counts tag row some))))
