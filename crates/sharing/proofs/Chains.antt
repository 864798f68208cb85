-- The laws of a further round: what a row has goes up, stays within its need and the capacity, and the floors add up.
use mathlib.Core.Path.{◌≡◌}
use Prim.Native.Nat.{ℕ, ◌+◌, ◌-◌, ◌≤◌, ◌<◌, min}
use native.Mathlib.Omega.{arith}
use Rattle.columns.specs.Sum.{sum}
use Rattle.columns.proofs.Sums.{sum_add}
use Rattle.sharing.specs.Round.{shares}
use Rattle.sharing.specs.Private.{Small, Weighted}
use Rattle.sharing.specs.Chain.{unmet, after}
use Rattle.sharing.specs.Part.{part}
use Rattle.sharing.proofs.Levels.{level-fits, shortfall}
use Rattle.sharing.proofs.Parts.{pro_rata}

-- two floors add up, to the need
both : (q a b s r : ℕ) → min q a ≤ s → min (q - s) b ≤ r → min q (a + b) ≤ s + r
both q a b s r h k = omega arith

module _ (n : ℕ) (w q : ℕ → ℕ) (c : ℕ) (s : ℕ → ℕ) where
  pub after_up : (i : ℕ) → s i ≤ after n w q c s i
  unfolding after
  after_up i = omega arith

  pub after_le : (i : ℕ) → s i ≤ q i → after n w q c s i ≤ q i
  unfolding after
  after_le i h = omega arith

  pub after-sum : sum n (after n w q c s) ≡ sum n s + sum n (shares n w (unmet q s) c)
  unfolding after
  after-sum = sum_add n s (shares n w (unmet q s) c)

  pub after-fits : sum n (after n w q c s) ≤ sum n s + c
  after-fits = omega (arith, after-sum, level-fits n w (unmet q s) c)

  module _ (bw : Small n w) (bq : Small n q) where
    unmet-small : Small n (unmet q s)
    unmet-small i l = omega (arith, bq i l)

    pub after-short : Weighted n w q → (i : ℕ) → i < n → after n w q c s i < q i → sum n s + c < sum n (after n w q c s) + n
    unfolding after
    after-short weighted i l short =
        omega (
          arith,
          after-sum,
          shortfall n w (unmet q s) c bw unmet-small (λ j k o. weighted j k (omega arith)) i l (omega arith),
        )

    pub after_floor : (a i : ℕ) → i < n → min (q i) a ≤ s i → min (q i) (a + (part n w c i - 1)) ≤ after n w q c s i
    unfolding after
    after_floor a i l h =
        both (q i) a (part n w c i - 1) (s i) (shares n w (unmet q s) c i) h (pro_rata n w (unmet q s) c bw unmet-small i l)
