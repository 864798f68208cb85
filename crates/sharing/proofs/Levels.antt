-- The laws of one round, for any rows: order, the step from a level to the next, one level, and what a short row says.
use mathlib.Core.Path.{◌≡◌, ap}
use mathlib.Core.Logic.{◌≢◌, ⊎_elim, ◌⊎◌, inl, inr}
use mathlib.Core.Bool.{Bool}
use Prim.Native.Nat.{ℕ, ◌+◌, ◌*◌, ◌≤◌, ◌<◌}
use native.Mathlib.Nat.{le_antisymm, le_refl, mul-le-mul_left, eq-or-lt_of_le}
use native.Mathlib.Decide.{ℕ_discrete}
use native.Mathlib.Omega.{arith, by_contra}
use borrow.Author.Tests.{leb-true, leb-false, le-leb}
use lib.Dec.{leb}
use Rattle.columns.specs.Sum.{sum}
use Rattle.columns.proofs.Sums.{sum_mono, sum_add, sum_scale, sum_same, sum_bound}
use Rattle.sharing.specs.Largest.{largest}
use Rattle.sharing.specs.Round.{share, total, top, level, shares}
use Rattle.sharing.specs.Private.{Small, Weighted}
use Rattle.sharing.proofs.Largests.{largest_le, largest-marked, largest-last}

-- ---- one row
pub share_mono : (w q : ℕ) {t u : ℕ} → t ≤ u → share w q t ≤ share w q u
share_mono w q l = omega (arith, mul-le-mul_left w l)

-- one more level adds at most one to a row of weight at most 1,000,000
pub share_step : (w q t : ℕ) → w ≤ 1_000_000 → share w q (t + 1) ≤ share w q t + 1
share_step w q t l = omega arith

-- at the top a row with a weight is full
pub share-top : (w q t : ℕ) → t ≡ top → 0 < w → q ≤ 1_000_000 → share w q t ≡ q
share-top w q t e l b = omega (arith, ap (λ k. w * k) e)

-- what makes a level the round's: it fits, and it is the top or one more does not fit
pub record IsLevel (n : ℕ) (w q : ℕ → ℕ) (c t : ℕ) : Type 0 where
  pub capped : t ≤ top
  pub fits : total n w q t ≤ c
  pub last : (t ≡ top) ⊎ (c < total n w q (t + 1))

module _ (n : ℕ) (w : ℕ → ℕ) where
  -- ---- the total
  pub total_mono : (q : ℕ → ℕ) {t u : ℕ} → t ≤ u → total n w q t ≤ total n w q u
  total_mono q l = sum_mono n _ _ (λ i h. share_mono (w i) (q i) l)

  pub total_need : (p q : ℕ → ℕ) (t : ℕ) → ((i : ℕ) → i < n → q i ≤ p i) → total n w q t ≤ total n w p t
  total_need p q t less = sum_mono n _ _ (λ i h. omega (arith, less i h))

  pub total_step : (q : ℕ → ℕ) (t : ℕ) → Small n w → total n w q (t + 1) ≤ total n w q t + n
  total_step q t b =
      omega (
        arith,
        sum_mono n _ (λ i. share (w i) (q i) t + 1) (λ i h. share_step (w i) (q i) t (b i h)),
        sum_add n (λ i. share (w i) (q i) t) (λ i. 1),
        sum_same n 1,
      )

  pub total-weights : (q : ℕ → ℕ) (t : ℕ) → total n w q t * 1_000_000 ≤ sum n w * t
  total-weights q t =
      omega (
        arith,
        sum_scale n (λ i. share (w i) (q i) t) 1_000_000,
        sum_mono n (λ i. share (w i) (q i) t * 1_000_000) (λ i. w i * t) (λ i h. omega arith),
        sum_scale n w t,
      )

  pub total-zero : (q : ℕ → ℕ) → total n w q 0 ≡ 0
  total-zero q = omega (arith, sum_bound n (λ i. share (w i) (q i) 0) 0 (λ i h. omega arith))

  -- ---- a round has a level, and it is `level`
  pub level_is : (q : ℕ → ℕ) (c : ℕ) → IsLevel n w q c (level n w q c)
  unfolding level
  level_is q c =
      record {
        capped = largest_le fitting top;
        fits = leb-true _ _ (largest-marked fitting (le-leb (total n w q 0) c (omega (arith, total-zero q))) top);
        last =
            ⊎_elim (λ e. inl e)
            (λ l. inr (leb-false _ _ (largest-last fitting top (largest fitting top + 1) (omega arith) (omega arith))))
            (eq-or-lt_of_le (largest_le fitting top));
      }
    where
      fitting : ℕ → Bool
      fitting t = leb (total n w q t) c

  -- ---- order: with needs no larger and a capacity no smaller, the level is no lower
  pub level_order : (p q : ℕ → ℕ) {c d t u : ℕ} → ((i : ℕ) → i < n → q i ≤ p i) → c ≤ d
      → IsLevel n w p c t → IsLevel n w q d u → t ≤ u
  level_order p q {t = t} {u = u} less more L K =
      by_contra t u
      (λ h.
      ⊎_elim (λ e. omega arith) (λ g. omega (arith, total_mono q {t = u + 1} {u = t} (omega arith), total_need p q t less)) K.last)

  -- one level
  pub level_one : (q : ℕ → ℕ) {c t : ℕ} → IsLevel n w q c t → t ≡ level n w q c
  level_one q {c} L =
      le_antisymm (level_order q q (λ i h. le_refl (q i)) (le_refl c) L (level_is q c))
      (level_order q q (λ i h. le_refl (q i)) (le_refl c) (level_is q c) L)

  -- a larger capacity lowers no row's share
  pub more-capacity : (q : ℕ → ℕ) {c d : ℕ} → c ≤ d → (i : ℕ) → shares n w q c i ≤ shares n w q d i
  more-capacity q {c} {d} more i =
      share_mono (w i) (q i) (level_order q q (λ j h. le_refl (q j)) more (level_is q c) (level_is q d))

  -- where one row lowers its need, no other row's share is lower
  pub less_need : (p q : ℕ → ℕ) (c i : ℕ) → q i ≤ p i → ((k : ℕ) → k ≢ i → q k ≡ p k)
      → (j : ℕ) → j ≢ i → shares n w p c j ≤ shares n w q c j
  less_need p q c i less others j other =
      omega (arith, share_mono (w j) (p j) (level_order p q lower (le_refl c) (level_is p c) (level_is q c)), others j other)
    where
      lower : (k : ℕ) → k < n → q k ≤ p k
      lower k h = elim (ℕ_discrete k i) [ yes e ↦ omega (arith, ap q e, ap p e) | no f ↦ omega (arith, others k f) ]

  -- ---- the shares add up to at most the capacity
  pub level-fits : (q : ℕ → ℕ) (c : ℕ) → sum n (shares n w q c) ≤ c
  level-fits q c = (level_is q c).fits

  -- and where a row is short they fall short of it by less than one for each row
  pub shortfall : (q : ℕ → ℕ) (c : ℕ) → Small n w → Small n q → Weighted n w q
      → (i : ℕ) → i < n → shares n w q c i < q i → c < sum n (shares n w q c) + n
  shortfall q c bw bq weighted i l short =
      ⊎_elim (λ e. omega (arith, share-top (w i) (q i) (level n w q c) e (weighted i l (omega arith)) (bq i l)))
      (λ g. omega (arith, total_step q (level n w q c) bw)) (level_is q c).last
