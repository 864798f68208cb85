-- What the laws of a round ask of its rows.
use Rattle.std.specs.Prelude.{ℕ, ◌<◌, ◌≤◌}

-- every row of a column is at most 1,000,000
abbrev pub Small : ℕ → (ℕ → ℕ) → Type 0
Small n f = (i : ℕ) → i < n → f i ≤ 1_000_000

-- no row with a need has weight zero
abbrev pub Weighted : ℕ → (ℕ → ℕ) → (ℕ → ℕ) → Type 0
Weighted n w q = (i : ℕ) → i < n → 0 < q i → 0 < w i
