-- 01, "Charges": half up (house rule) is the nearest whole number, and of two as near the upper one.
use Rattle.std.specs.Prelude.{◌≡◌, ℕ, ◌+◌, ◌-◌, ◌*◌, ◌/◌, ◌≤◌}

unfoldable pub half_up : ℕ → ℕ → ℕ
half_up numerator denominator = (numerator + denominator / 2) / denominator

-- how far a whole number is from numerator / denominator, times the denominator
abbrev pub distance : ℕ → ℕ → ℕ → ℕ
distance numerator denominator whole = (numerator - whole * denominator) + (whole * denominator - numerator)

-- the house rule in its own words
pub record Nearest (numerator denominator whole : ℕ) : Type 0 where
  pub nearest : (other : ℕ) → distance numerator denominator whole ≤ distance numerator denominator other
  pub upper : (other : ℕ) → distance numerator denominator other ≡ distance numerator denominator whole → other ≤ whole
