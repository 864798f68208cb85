-- Shares by ratio, for all their uses: they add up to at most c and fall short by fewer than there are rows; and a round
-- gives a row its need or its part less one.
use mathlib.Core.Path.{◌≡◌, ap}
use mathlib.Core.Logic.{⊎_elim}
use Prim.Native.Nat.{ℕ, ◌+◌, ◌*◌, ◌-◌, ◌/◌, ◌≤◌, ◌<◌, min}
use native.Mathlib.Nat.{
  mul-le-mul_left,
  mul-le-mul_right,
  mul-zero,
  zero-mul,
  eq-zero-or-pos,
  div-zero,
  zero-div,
  div-mul-le_self,
  lt-div-mul-add,
  le_of_mul-le-mul_right,
  lt_of_mul-lt-mul_right,
}
use native.Mathlib.Omega.{arith}
use Rattle.columns.specs.Sum.{sum}
use Rattle.columns.proofs.Sums.{sum_mono, sum_add, sum_scale, sum_same, sum_bound, sum-positive}
use Rattle.sharing.specs.Round.{level, shares}
use Rattle.sharing.specs.Private.{Small}
use Rattle.sharing.specs.Part.{part}
use Rattle.sharing.proofs.Levels.{share-top, total-weights, level_is}

-- of c so much is given to n rows: never more, and less by fewer than there are rows, if there is one
pub record Spent (n c given : ℕ) : Type 0 where
  pub most : given ≤ c
  pub short : 0 < n → c < given + n

module _ (n : ℕ) (w : ℕ → ℕ) (c : ℕ) where
  -- the parts come to at most c
  pub parts_fit : 0 < sum n w → sum n (part n w c) ≤ c
  parts_fit pos =
      le_of_mul-le-mul_right {k = sum n w}
      (omega (
        arith,
        sum_scale n (part n w c) (sum n w),
        sum_mono n (λ i. part n w c i * sum n w) (λ i. w i * c) (λ i l. omega (arith, div-mul-le_self (c * w i) (sum n w))),
        sum_scale n w c,
      ))
      pos

  -- and fall short of it by fewer than there are rows
  pub parts_left : 0 < sum n w → c < sum n (part n w c) + n
  parts_left pos =
      lt_of_mul-lt-mul_right (sum n w)
      (omega (
        arith,
        sum_scale n (part n w c) (sum n w),
        sum_scale n w c,
        sum_add n (λ i. w i * c) (λ i. 1),
        sum_same n 1,
        sum_add n (λ i. part n w c i * sum n w) (λ i. sum n w),
        sum_same n (sum n w),
        sum-positive n w pos,
        sum_mono n (λ i. w i * c + 1) (λ i. part n w c i * sum n w + sum n w)
            (λ i l. omega (arith, lt-div-mul-add {a = c * w i} {b = sum n w} pos)),
      ))

  -- of nothing a part is nothing
  pub part_none : c ≡ 0 → (i : ℕ) → part n w c i ≡ 0
  part_none none i = rw (none, zero-mul, zero-div)

  -- where weights that are all zero have nothing to share, the parts spend c
  pub parts_spent : (0 < c → 0 < sum n w) → Spent n c (sum n (part n w c))
  parts_spent weighted =
      ⊎_elim
      (λ none.
      record {
        most = omega (arith, sum_bound n (part n w c) 0 (λ i l. omega (arith, part_none none i)));
        short = λ row. omega arith;
      })
      (λ some. record { most = parts_fit (weighted some); short = λ row. parts_left (weighted some) }) (eq-zero-or-pos c)

-- where c × 1,000,000 is at most W × (t + 1), the part by ratio less one is within v × t / 1,000,000
under_ratio : (c v W t : ℕ) → 0 < W → v ≤ 1_000_000 → c * 1_000_000 ≤ W * (t + 1) → c * v / W - 1 ≤ v * t / 1_000_000
under_ratio c v W t pos b h =
    omega (
      arith,
      le_of_mul-le-mul_right {m = c * v / W * 1_000_000} {n = v * (t + 1)} {k = W}
          (omega (arith, mul-le-mul_right 1_000_000 (div-mul-le_self (c * v) W), mul-le-mul_left v h)) pos,
    )

module _ (n : ℕ) (w q : ℕ → ℕ) (c : ℕ) (bw : Small n w) (bq : Small n q) where
  -- a row gets at least the smaller of its need and its part less one
  pub pro_rata : (i : ℕ) → i < n → min (q i) (part n w c i - 1) ≤ shares n w q c i
  pro_rata i l =
      ⊎_elim (λ none. omega (arith, ap (λ k. c * w i / k) none, div-zero (c * w i)))
      (λ some.
      ⊎_elim
      (λ e.
      ⊎_elim (λ z. omega (arith, ap (λ k. c * k / sum n w) z, ap (λ k. k / sum n w) (mul-zero c), zero-div (sum n w)))
      (λ pos. omega (arith, share-top (w i) (q i) t e pos (bq i l)))
      (eq-zero-or-pos (w i)))
      (λ g. omega (arith, under_ratio c (w i) (sum n w) t some (bw i l) (omega (arith, total-weights n w q (t + 1)))))
      (level_is n w q c).last)
      (eq-zero-or-pos (sum n w))
    where
      t : ℕ
      t = level n w q c
