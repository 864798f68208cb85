-- The largest number from 0 to n that a test marks, or 0 where it marks none.
use Rattle.std.specs.Prelude.{Bool, cond, ℕ, zero, suc}

unfoldable pub largest : (ℕ → Bool) → ℕ → ℕ
largest p zero = zero
largest p (suc n) = cond (p (suc n)) (suc n) (largest p n)
