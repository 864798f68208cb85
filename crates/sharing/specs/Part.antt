-- 01, "A day's shares": the part of c that a row has by its ratio, c × weight / the sum of all weights, rounded down; zero where that
-- sum is zero.
use Rattle.std.specs.Prelude.{ℕ, ◌*◌, ◌/◌}
use Rattle.columns.specs.Sum.{sum}

-- a number over zero is zero
abbrev pub part : ℕ → (ℕ → ℕ) → ℕ → ℕ → ℕ
part n w c i = c * w i / sum n w
