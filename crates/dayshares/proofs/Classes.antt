-- The laws of a class that follows another, and of full rows.
use mathlib.Core.Path.{◌≡◌, refl}
use mathlib.Core.Bool.{Bool, true, false}
use Prim.Native.Nat.{ℕ, ◌+◌, ◌≤◌, ◌<◌}
use native.Mathlib.Omega.{arith}
use borrow.Author.Tests.{leb-true, leb-false, ltb-true, ltb-false}
use lib.Dec.{ltb}
use Rattle.columns.specs.Sum.{sum}
use Rattle.columns.proofs.Firsts.{first-same, first-passed, first-marked}
use Rattle.columns.proofs.Sums.{sum_same}
use Rattle.sharing.specs.Round.{shares}
use Rattle.sharing.specs.Private.{Small, Weighted}
use Rattle.sharing.proofs.Levels.{level-fits, shortfall}
use Rattle.dayshares.specs.Class.{first_short, full, class_given}

module _ (n : ℕ) (w q : ℕ → ℕ) (c : ℕ) where
  pub class_le : (held : Bool) (i : ℕ) → class_given held n w q c i ≤ q i
  unfolding class_given
  class_le true i = omega arith
  class_le false i = omega arith

  pub class_fits : (held : Bool) → sum n (class_given held n w q c) ≤ c
  unfolding class_given
  class_fits true = level-fits n w q c
  class_fits false = omega (arith, sum_same n 0)

  -- gas only where the class is held
  pub class_held : (held : Bool) (i : ℕ) → 0 < class_given held n w q c i → held ≡ true
  unfolding class_given
  class_held true i l = refl
  class_held false i l = absurd (omega arith)

  -- where it is held and a row is short, less than one GJ for each row is left
  pub class_short : Small n w → Small n q → Weighted n w q → (held : Bool) → held ≡ true → (i : ℕ) → i < n
      → class_given held n w q c i < q i → c < sum n (class_given held n w q c) + n
  unfolding class_given
  class_short bw bq weighted held e i l short =
      let s : shares n w q c i < q i = rw e at short in rw e (shortfall n w q c bw bq weighted i l s)

module _ (n : ℕ) (q s : ℕ → ℕ) where
  -- full rows have at least their schedule
  pub full-rows : full n q s ≡ true → (i : ℕ) → i < n → q i ≤ s i
  full-rows e i l = ltb-false (s i) (q i) (first-passed (λ k. ltb (s k) (q k)) n (leb-true _ _ e) i l)

  -- where the rows are not full one is short
  pub short_row : full n q s ≡ false → (i : ℕ) × (i < n) × (s i < q i)
  short_row e =
      let l : first_short n q s < n = leb-false _ _ e in
      (first_short n q s, l, ltb-true _ _ (first-marked (λ k. ltb (s k) (q k)) n l))

pub full-same : (n : ℕ) (q s r : ℕ → ℕ) → ((i : ℕ) → i < n → s i ≡ r i) → full n q s ≡ full n q r
full-same n q s r same = rw (first-same n (λ i. ltb (s i) (q i)) (λ i. ltb (r i) (q i)) (λ i l. rw (same i l)))
