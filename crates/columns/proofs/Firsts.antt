-- The first marked row: how a search finds it, and what it says of the rows.
use mathlib.Core.Path.{◌≡◌, refl, ap, sym, ◌∙◌}
use mathlib.Core.Logic.{⊎_elim, ◌⊎◌, inl, inr}
use mathlib.Core.Bool.{Bool, true, false, cond, not, true≢false}
use mathlib.Core.List.{List}
use Prim.Native.Nat.{ℕ, zero, suc, ◌+◌, ◌≤◌, ◌<◌}
use native.Mathlib.Nat.{le_antisymm, eq-or-lt_of_le}
use borrow.Author.Count.{below_more}
use borrow.Author.Tests.{lt-ltb, le-ltb}
use native.Mathlib.Omega.{arith}
use lib.Dec.{ltb}
use lib.ListN.{length}
use Rattle.std.specs.List.{position_or_len, position}
use Rattle.std.specs.Prelude.{unwrap_or, Some, None}
use Rattle.std.proofs.lemmas.List.Sums.{prefix_len-le-length, fails_before_first, passes_at_first}
use Rattle.columns.specs.Column.{col}
use Rattle.columns.specs.First.{first_from, first}

module _ (p : ℕ → Bool) where
  -- a search from j passes the rows below i and stops at i
  from_found : (n j i : ℕ) → j ≤ i → i < j + n → ((k : ℕ) → j ≤ k → k < i → p k ≡ false) → p i ≡ true → first_from n j p ≡ i
  unfolding first_from
  from_found zero j i a b before here = omega arith
  from_found (suc n) j i a b before here =
      ⊎_elim (λ e. let marked : p j ≡ true = ap p e ∙ here in rw marked e)
      (λ l. rw (before j (omega arith) l) (from_found n (suc j) i l (omega arith) (λ k x y. before k (omega arith) y) here))
      (eq-or-lt_of_le a)

  from-none : (n j : ℕ) → ((k : ℕ) → j ≤ k → k < j + n → p k ≡ false) → first_from n j p ≡ j + n
  unfolding first_from
  from-none zero j none = omega arith
  from-none (suc n) j none =
      rw (none j (omega arith) (omega arith)) (omega (arith, from-none n (suc j) (λ k x y. none k (omega arith) (omega arith))))

  pub first_found : (n i : ℕ) → i < n → ((k : ℕ) → k < i → p k ≡ false) → p i ≡ true → first n p ≡ i
  first_found n i l before here = from_found n 0 i (omega arith) (omega arith) (λ k x y. before k y) here

  pub first-none : (n : ℕ) → ((k : ℕ) → k < n → p k ≡ false) → first n p ≡ n
  first-none n none = omega (arith, from-none n 0 (λ k x y. none k (omega arith)))

  from_le : (n j : ℕ) → first_from n j p ≤ j + n
  unfolding first_from
  from_le zero j = omega arith
  from_le (suc n) j = go (p j) (from_le n (suc j))
    where
      go : (m : Bool) → first_from n (suc j) p ≤ suc j + n → cond m j (first_from n (suc j) p) ≤ j + suc n
      go true h = omega arith
      go false h = omega arith

  pub first_le : (n : ℕ) → first n p ≤ n
  first_le n = omega (arith, from_le n 0)

  -- no row before it is marked
  from-before : (n j k : ℕ) → j ≤ k → k < first_from n j p → p k ≡ false
  unfolding first_from
  from-before zero j k a b = absurd (omega arith)
  from-before (suc n) j k a b = go (p j) refl b (eq-or-lt_of_le a) (from-before n (suc j) k)
    where
      go : (m : Bool) → p j ≡ m → k < cond m j (first_from n (suc j) p) → (j ≡ k) ⊎ (j < k)
          → (j < k → k < first_from n (suc j) p → p k ≡ false) → p k ≡ false
      go true e h s later = absurd (omega arith)
      go false e h s later = ⊎_elim (λ here. ap p (sym here) ∙ e) (λ l. later l h) s

  pub first-before : (n k : ℕ) → k < first n p → p k ≡ false
  first-before n k h = from-before n 0 k (omega arith) h

  pub first-passed : (n : ℕ) → n ≤ first n p → (k : ℕ) → k < n → p k ≡ false
  first-passed n h k l = first-before n k (omega arith)

  from-marked : (n j : ℕ) → first_from n j p < j + n → p (first_from n j p) ≡ true
  unfolding first_from
  from-marked zero j h = absurd (omega arith)
  from-marked (suc n) j h = go (p j) refl h (from-marked n (suc j))
    where
      go : (m : Bool) → p j ≡ m → cond m j (first_from n (suc j) p) < j + suc n
          → (first_from n (suc j) p < suc j + n → p (first_from n (suc j) p) ≡ true) → p (cond m j (first_from n (suc j) p)) ≡ true
      go true e h later = e
      go false e h later = later (omega arith)

  -- and where it stopped, the row is
  pub first-marked : (n : ℕ) → first n p < n → p (first n p) ≡ true
  first-marked n h = from-marked n 0 (omega arith)

-- tests that agree on the rows mark the same row first
pub first-same : (n : ℕ) (p r : ℕ → Bool) → ((i : ℕ) → i < n → p i ≡ r i) → first n p ≡ first n r
first-same n p r same = by (eq-or-lt_of_le (first_le p n))
  where
    by : (first n p ≡ n) ⊎ (first n p < n) → first n p ≡ first n r
    by (inl e) =
        e ∙ sym (first-none r n (λ k l. sym (same k l) ∙ first-passed p n (omega arith) k l))
    by (inr l) =
        sym
        (first_found r n (first n p) l (λ k h. sym (same k (omega arith)) ∙ first-before p n k h)
        (sym (same (first n p) l) ∙ first-marked p n l))

-- ---- a loop that looks for the first marked row: no row that it has passed is marked
pub record Searched (p : ℕ → Bool) (n row : ℕ) : Type 0 where
  pub inside : row ≤ n
  pub passed : (k : ℕ) → k < row → p k ≡ false

module _ (p : ℕ → Bool) (n : ℕ) where
  pub searched_none : Searched p n 0
  searched_none = record { inside = omega arith; passed = λ k l. absurd (omega arith) }

  module _ (row : ℕ) (S : Searched p n row) where
    pub searched_more : row < n → p row ≡ false → Searched p n (row + 1)
    searched_more l e = record { inside = omega arith; passed = below_more (λ k. p k ≡ false) row S.passed e }

    pub stops : row < n → p row ≡ true → row ≡ first n p
    stops l e = sym (first_found p n row l S.passed e)

    pub ends : n ≤ row → row ≡ first n p
    ends l = le_antisymm S.inside l ∙ sym (first-none p n (λ k h. S.passed k (omega arith)))

-- ---- a loop that looks at every row, and only ever clears its flag
-- a test that only takes away: what is kept after it was kept before it and passed
pub kept-passed : {Failed Passed : Type 0} {before after : Bool} → (Failed × (after ≡ false)) ⊎ (Passed × (after ≡ before))
    → after ≡ true → Passed × (before ≡ true)
kept-passed (inl failed) e = absurd (true≢false (sym e ∙ failed.1))
kept-passed (inr passed) e = (passed.0, sym passed.1 ∙ e)

-- ---- the library's search of a list: the place of its first element that a test marks, or its length
module _ {X : Type 0} (p : X → Bool) where
  pub unwrap_or-position : (xs : List X) → unwrap_or (position p xs) (length xs) ≡ position_or_len p xs
  unwrap_or-position xs =
      unwrapped (ltb place (length xs)) ∙ ⊎_elim (λ e. rw (le-ltb place (length xs) (omega (arith, e))) (sym e))
      (λ l. rw (lt-ltb place (length xs) l)) (eq-or-lt_of_le (prefix_len-le-length (λ x. not (p x)) xs))
    where
      place : ℕ
      place = position_or_len p xs

      unwrapped : (m : Bool) → unwrap_or (cond m (Some place) None) (length xs) ≡ cond m place (length xs)
      unwrapped true = refl
      unwrapped false = refl

-- in a column it is the first marked row
pub position-first : (p : ℕ → Bool) (xs : List ℕ) → position_or_len p xs ≡ first (length xs) (λ i. p (col xs i))
position-first p xs = by (eq-or-lt_of_le (prefix_len-le-length (λ x. not (p x)) xs))
  where
    by : (position_or_len p xs ≡ length xs) ⊎ (position_or_len p xs < length xs)
        → position_or_len p xs ≡ first (length xs) (λ i. p (col xs i))
    by (inl e) = e ∙ sym (first-none (λ i. p (col xs i)) (length xs) (λ k l. fails_before_first p xs k 0 (omega (arith, e))))
    by (inr l) =
        sym
        (first_found (λ i. p (col xs i)) (length xs) (position_or_len p xs) l (λ k h. fails_before_first p xs k 0 h)
        (passes_at_first p xs 0 l))
