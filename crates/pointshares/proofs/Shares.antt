-- The shares of an hour: each case of the rule, and what the shares come to together.
use mathlib.Core.Path.{◌≡◌, ◌∙◌}
use Prim.Native.Nat.{ℕ, zero, suc, ◌+◌, ◌-◌, ◌*◌, ◌≤◌, ◌<◌}
use native.Mathlib.Decide.{dec_lt}
use native.Mathlib.Omega.{arith}
use borrow.Author.Tests.{lt-ltb, le-ltb}
use Rattle.columns.specs.Sum.{sum}
use Rattle.columns.proofs.Sums.{sum_add, sum_same, sum_cong}
use Rattle.sharing.specs.Part.{part}
use Rattle.sharing.proofs.Parts.{Spent, parts_spent}
use Rattle.pointshares.specs.Share.{share}

module _ (n : ℕ) (re mdq : ℕ → ℕ) (h : ℕ) where
  pub share_alone : n < 2 → (i : ℕ) → share n re mdq h i ≡ h
  unfolding share
  share_alone few i = rw (lt-ltb n 2 few)

  module _ (two : 2 ≤ n) where
    pub share-over : h < sum n re → (i : ℕ) → share n re mdq h i ≡ part n re h i
    unfolding share
    share-over over i = rw (le-ltb n 2 two, lt-ltb h (sum n re) over)

    pub share-beyond : sum n re ≤ h → (i : ℕ) → share n re mdq h i ≡ re i + part n mdq (h - sum n re) i
    unfolding share
    share-beyond within i = rw (le-ltb n 2 two, le-ltb h (sum n re) within)

    spent-over : h < sum n re → Spent n h (sum n (share n re mdq h))
    spent-over over =
        rw (sum_cong n _ _ (λ i l. share-over over i)) (parts_spent n re h (λ some. omega arith))

    spent-beyond : sum n re ≤ h → (sum n re < h → 0 < sum n mdq) → Spent n h (sum n (share n re mdq h))
    spent-beyond within firm =
        let same = sum_cong n _ _ (λ i l. share-beyond within i) ∙ sum_add n re (part n mdq (h - sum n re)) in
        let spare = parts_spent n mdq (h - sum n re) (λ some. firm (omega arith)) in
        record { most = omega arith; short = λ row. omega (arith, spare.short row) }

  spent_alone : n < 2 → Spent n h (sum n (share n re mdq h))
  spent_alone few = rw (sum_cong n _ _ (λ i l. share_alone few i) ∙ sum_same n h) (few_have n few)
    where
      few_have : (n : ℕ) → n < 2 → Spent n h (n * h)
      few_have zero l = omega arith
      few_have (suc zero) l = omega arith
      few_have (suc (suc n)) l = absurd (omega arith)

  -- where two or more have capacity beyond their entitlements and a firm MDQ, the shares spend it
  pub spent : (2 ≤ n → sum n re < h → 0 < sum n mdq) → Spent n h (sum n (share n re mdq h))
  spent served =
      elim (dec_lt n 2) [
        | yes few ↦ spent_alone few
        | no many ↦
            elim (dec_lt h (sum n re)) [
              | yes over ↦ spent-over (omega arith) over
              | no within ↦ spent-beyond (omega arith) (omega arith) (served (omega arith))
            ]
      ]
