-- Texts laid one after another make a text, which is as long as they are together.
use mathlib.Core.Path.{◌≡◌, refl, ap, ◌∙◌}
use mathlib.Core.List.{List}
use Prim.Native.Nat.{ℕ, zero, suc, ◌+◌, ◌*◌, ◌≤◌, ◌<◌}
use native.Mathlib.Nat.{le_antisymm, le_step, lt-suc_self}
use native.Mathlib.Numerals.{add-one}
use native.Mathlib.Omega.{arith}
use lib.ListN.{length, length-append}
use lib.Seq.{length-sets}
use Rattle.columns.specs.Column.{joined}
use Rattle.text.specs.Text.{Laid}
use Rattle.text.proofs.Laying.{laid_both}

-- one text more of as many
module _ (f : ℕ → List ℕ) {lent : List ℕ} {at : ℕ} where
  pub texts_none : Laid (joined 0 f) lent at 0 lent
  unfolding joined
  texts_none = record { counts = omega arith; lays = refl }

  pub texts_more : {row size m : ℕ} {list after : List ℕ} → Laid (joined row f) lent at size list → Laid (f row) list (at + size) m after
      → Laid (joined (row + 1) f) lent at (size + m) after
  unfolding joined
  texts_more a b = rw add-one (laid_both a b)

  -- no row is left
  pub texts_all : {row many size : ℕ} {list : List ℕ} → row ≤ many → many ≤ row → Laid (joined row f) lent at size list
      → Laid (joined many f) lent at size list
  texts_all {row} {many} h l L = let all : many ≡ row = le_antisymm l h in rw all L

-- what is laid keeps the block's length
pub laid-long : {bytes lent after : List ℕ} {at m : ℕ} → Laid bytes lent at m after → length after ≡ length lent
laid-long {bytes} {lent} {at = at} L = ap length L.lays ∙ length-sets lent at bytes

-- texts of at most so many bytes each
pub texts_most : (f : ℕ → List ℕ) (most n : ℕ) → ((i : ℕ) → i < n → length (f i) ≤ most) → length (joined n f) ≤ n * most
unfolding joined
texts_most f most zero each = omega arith
texts_most f most (suc n) each =
    omega (arith, length-append (joined n f) (f n), texts_most f most n (λ i l. each i (le_step l)), each n (lt-suc_self n))
