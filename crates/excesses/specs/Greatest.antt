-- 01, "Overruns of a day"; cl. 7.2: the greatest of the four overruns is charged.
use Rattle.std.specs.Prelude.{◌≡◌, ◌⊎◌, ℕ, ◌≤◌, max}

abbrev pub greatest : ℕ → ℕ → ℕ → ℕ → ℕ
greatest hourly twelve_hourly receipt delivery = max (max hourly twelve_hourly) (max receipt delivery)

-- the greatest is one of four and no less than any
pub record Greatest (a b c d g : ℕ) : Type 0 where
  pub one : (g ≡ a) ⊎ ((g ≡ b) ⊎ ((g ≡ c) ⊎ (g ≡ d)))
  pub first : a ≤ g
  pub second : b ≤ g
  pub third : c ≤ g
  pub fourth : d ≤ g
