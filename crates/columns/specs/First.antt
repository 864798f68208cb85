-- The lowest of n rows that a test marks, or n where it marks none.
use Rattle.std.specs.Prelude.{Bool, cond, ℕ, zero, suc}

-- the lowest marked row of the n rows from i on, or the row after them
unfoldable pub first_from : ℕ → ℕ → (ℕ → Bool) → ℕ
first_from zero i p = i
first_from (suc n) i p = cond (p i) i (first_from n (suc i) p)

abbrev pub first : ℕ → (ℕ → Bool) → ℕ
first n p = first_from n 0 p
