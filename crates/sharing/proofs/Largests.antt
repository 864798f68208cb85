-- The largest marked number is marked where 0 is, no larger one is, and only it has both.
use mathlib.Core.Path.{◌≡◌, refl, ap, ◌∙◌}
use mathlib.Core.Logic.{⊎_elim, ◌⊎◌}
use mathlib.Core.Bool.{Bool, true, false, cond}
use Prim.Native.Nat.{ℕ, zero, suc, ◌≤◌, ◌<◌}
use native.Mathlib.Nat.{le_refl, eq-or-lt_of_le, le_of_suc-le-suc}
use native.Mathlib.Omega.{arith}
use Rattle.sharing.specs.Largest.{largest}

module _ (p : ℕ → Bool) where
  pub largest_le : (n : ℕ) → largest p n ≤ n
  unfolding largest
  largest_le zero = le_refl 0
  largest_le (suc n) = by (p (suc n)) (largest_le n)
    where
      by : (m : Bool) → largest p n ≤ n → cond m (suc n) (largest p n) ≤ suc n
      by true h = le_refl (suc n)
      by false h = omega arith

  pub largest-marked : p 0 ≡ true → (n : ℕ) → p (largest p n) ≡ true
  unfolding largest
  largest-marked z zero = z
  largest-marked z (suc n) = by (p (suc n)) refl (largest-marked z n)
    where
      by : (m : Bool) → p (suc n) ≡ m → p (largest p n) ≡ true → p (cond m (suc n) (largest p n)) ≡ true
      by true e h = e
      by false e h = h

  pub largest-last : (n k : ℕ) → largest p n < k → k ≤ n → p k ≡ false
  unfolding largest
  largest-last zero k l h = absurd (omega arith)
  largest-last (suc n) k l h = by (p (suc n)) refl l (largest-last n k) (eq-or-lt_of_le h)
    where
      by : (m : Bool) → p (suc n) ≡ m → cond m (suc n) (largest p n) < k → (largest p n < k → k ≤ n → p k ≡ false)
          → (k ≡ suc n) ⊎ (k < suc n) → p k ≡ false
      by true e l below s = absurd (omega arith)
      by false e l below s = ⊎_elim (λ last. ap p last ∙ e) (λ lower. below l (le_of_suc-le-suc lower)) s
