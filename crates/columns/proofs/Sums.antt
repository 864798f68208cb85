-- The laws of sums over rows.
use mathlib.Core.Path.{◌≡◌, ap, sym, ◌∙◌}
use mathlib.Core.Logic.{⊎_elim}
use Prim.Native.Nat.{ℕ, zero, suc, ◌+◌, ◌-◌, ◌*◌, ◌≤◌, ◌<◌}
use native.Mathlib.Nat.{add-zero, lt-suc_self, le_step, le_of_suc-le-suc, eq-or-lt_of_le, le_antisymm, le_of_eq}
use native.Mathlib.Numerals.{add-one}
use native.Mathlib.Omega.{arith}
use Rattle.columns.specs.Sum.{sum}

pub sum-none : (f : ℕ → ℕ) → sum 0 f ≡ 0
unfolding sum
sum-none f = omega arith

pub sum-next : (n : ℕ) (f : ℕ → ℕ) → sum (n + 1) f ≡ sum n f + f n
unfolding sum
sum-next n f = rw add-one

pub sum_mono : (n : ℕ) (f g : ℕ → ℕ) → ((i : ℕ) → i < n → f i ≤ g i) → sum n f ≤ sum n g
unfolding sum
sum_mono zero f g h = omega arith
sum_mono (suc n) f g h = omega (arith, sum_mono n f g (λ i l. h i (le_step l)), h n (lt-suc_self n))

pub sum_add : (n : ℕ) (f g : ℕ → ℕ) → sum n (λ i. f i + g i) ≡ sum n f + sum n g
unfolding sum
sum_add zero f g = omega arith
sum_add (suc n) f g = omega (arith, sum_add n f g)

pub sum_scale : (n : ℕ) (f : ℕ → ℕ) (k : ℕ) → sum n (λ i. f i * k) ≡ sum n f * k
unfolding sum
sum_scale zero f k = omega arith
sum_scale (suc n) f k = omega (arith, sum_scale n f k)

pub sum_same : (n k : ℕ) → sum n (λ i. k) ≡ n * k
unfolding sum
sum_same zero k = omega arith
sum_same (suc n) k = omega (arith, sum_same n k)

-- a row is at most the sum
pub row_le_sum : (n : ℕ) (f : ℕ → ℕ) (i : ℕ) → i < n → f i ≤ sum n f
unfolding sum
row_le_sum zero f i l = omega arith
row_le_sum (suc n) f i l =
    ⊎_elim (λ e. omega (arith, ap f e)) (λ k. omega (arith, row_le_sum n f i k)) (eq-or-lt_of_le (le_of_suc-le-suc l))

-- columns that agree on the rows have one sum
pub sum_cong : (n : ℕ) (f g : ℕ → ℕ) → ((i : ℕ) → i < n → f i ≡ g i) → sum n f ≡ sum n g
sum_cong n f g h =
    le_antisymm (sum_mono n f g (λ i l. le_of_eq (h i l))) (sum_mono n g f (λ i l. le_of_eq (sym (h i l))))

-- ---- the rows from n on: their sum is not negative, and where they are zero they add nothing
pub sum-within : (n m : ℕ) (f : ℕ → ℕ) → n ≤ m → sum n f ≤ sum m f
unfolding sum
sum-within n zero f l = rw (le_antisymm l (omega arith)) (omega arith)
sum-within n (suc m) f l =
    ⊎_elim (λ e. rw e (omega arith)) (λ k. omega (arith, sum-within n m f (le_of_suc-le-suc k))) (eq-or-lt_of_le l)

pub sum-rest : (n m : ℕ) (f : ℕ → ℕ) → n ≤ m → ((i : ℕ) → n ≤ i → i < m → f i ≡ 0) → sum m f ≡ sum n f
unfolding sum
sum-rest n zero f l none = rw (le_antisymm l (omega arith))
sum-rest n (suc m) f l none =
    ⊎_elim (λ e. rw e)
    (λ k. omega (arith, none m (le_of_suc-le-suc k) (lt-suc_self m), sum-rest n m f (le_of_suc-le-suc k) (λ i a b. none i a (le_step b))))
    (eq-or-lt_of_le l)

-- ---- the window of n rows from one on, and the window after it
module _ (f : ℕ → ℕ) (from : ℕ) where
  -- each with the row that only the other has; so no difference below is cut off at zero
  both_windows : (n : ℕ) → sum n (λ i. f (from + 1 + i)) + f from ≡ sum n (λ i. f (from + i)) + f (from + n)
  unfolding sum
  both_windows zero = rw add-zero
  both_windows (suc n) =
      let last : from + 1 + n ≡ from + suc n = omega arith in
      omega (arith, both_windows n, ap f last)

  -- the sum of a window is that of the window before, plus what enters, less what leaves
  pub sum_rolled : (n : ℕ) → sum n (λ i. f (from + 1 + i)) ≡ sum n (λ i. f (from + i)) + f (from + n) - f from
  sum_rolled n = omega (arith, both_windows n)

-- bounded rows have a bounded sum
pub sum_bound : (n : ℕ) (f : ℕ → ℕ) (k : ℕ) → ((i : ℕ) → i < n → f i ≤ k) → sum n f ≤ n * k
sum_bound n f k h = omega (arith, sum_mono n f (λ i. k) h, sum_same n k)

-- a loop has added up the rows of f below `row`, of n
pub record Adding (n : ℕ) (f : ℕ → ℕ) (row total : ℕ) : Type 0 where
  pub inside : row ≤ n
  pub adds : total ≡ sum row f

module _ (n : ℕ) (f : ℕ → ℕ) where
  pub adding_none : Adding n f 0 0
  adding_none = record { inside = omega arith; adds = sym (sum-none f) }

  module _ {row total : ℕ} (A : Adding n f row total) where
    pub adding_next : {figure : ℕ} → row < n → figure ≡ f row → Adding n f (row + 1) (total + figure)
    adding_next l e = record { inside = omega arith; adds = omega (arith, A.adds, sum-next row f) }

    pub adding_bound : (k : ℕ) → ((i : ℕ) → i < n → f i ≤ k) → total ≤ row * k
    adding_bound k h = omega (arith, A.adds, sum_bound row f k (λ i l. h i (omega (arith, A.inside))))

    pub adding_all : n ≤ row → total ≡ sum n f
    adding_all l = A.adds ∙ ap (λ m. sum m f) (le_antisymm A.inside l)

-- a sum above zero has a row
pub sum-positive : (n : ℕ) (f : ℕ → ℕ) → 0 < sum n f → 0 < n
unfolding sum
sum-positive zero f h = omega arith
sum-positive (suc n) f h = omega arith
