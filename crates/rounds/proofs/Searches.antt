-- The search for the level: low fits and high does not, so where they meet low is the level, however they were brought together.
use mathlib.Core.Path.{◌≡◌, refl, ap}
use mathlib.Core.Logic.{inl, inr}
use Prim.Native.Nat.{ℕ, ◌+◌, ◌≤◌, ◌<◌}
use native.Mathlib.Nat.{le_refl}
use native.Mathlib.Omega.{arith}
use Rattle.sharing.specs.Round.{top, total, level}
use Rattle.sharing.proofs.Levels.{total-zero, level_one}

pub record Bracket (n : ℕ) (w q : ℕ → ℕ) (c low high : ℕ) : Type 0 where
  pub below : low < high
  pub within : high ≤ top
  pub fits : total n w q low ≤ c
  pub over : c < total n w q high

module _ (n : ℕ) (w q : ℕ → ℕ) (c : ℕ) where
  -- where all that can be met is met, the level is the top
  pub level-top : total n w q top ≤ c → top ≡ level n w q c
  level-top fits = level_one n w q (record { capped = le_refl top; fits = fits; last = inl refl })

  pub bracket_start : c < total n w q top → Bracket n w q c 0 top
  bracket_start over = record { below = omega arith; within = le_refl top; fits = omega (arith, total-zero n w q); over = over }

  module _ {low high : ℕ} (B : Bracket n w q c low high) where
    pub bracket_up : (t : ℕ) → t < high → total n w q t ≤ c → Bracket n w q c t high
    bracket_up t l fits = record { below = l; within = B.within; fits = fits; over = B.over }

    pub bracket_down : (t : ℕ) → low < t → t < high → c < total n w q t → Bracket n w q c low t
    bracket_down t l h over = record { below = l; within = omega (arith, B.within); fits = B.fits; over = over }

    pub bracket_level : high ≤ low + 1 → low ≡ level n w q c
    bracket_level met =
        level_one n w q
        (record { capped = omega arith; fits = B.fits; last = inr (omega (arith, B.over, ap (total n w q) next)) })
      where
        next : high ≡ low + 1
        next = omega (arith, B.below, met)
