-- How long a line can be: its words, and a byte behind each.
use mathlib.Core.List.{List, [], ◌∷◌}
use Prim.Native.Nat.{ℕ, suc, ◌+◌, ◌^◌, ◌≤◌, ◌<◌}
use native.Mathlib.Nat.{le_refl}
use native.Mathlib.Omega.{arith}
use lib.ListN.{length, length-append}
use Rattle.text.specs.Text.{decimal}
use Rattle.text.proofs.Decimals.{length-below}
use Rattle.units.specs.declared.refusal.Refusal.{Refusal}
use Rattle.lines.specs.Line.{spaced, line, title, refused}

pub line-none : length (line []) ≤ 1
unfolding line
line-none = omega arith

-- for callers: with one word more of at most so many bytes
pub line-within : (word : List ℕ) (words : List (List ℕ)) {m n : ℕ} → length word ≤ m → length (line words) ≤ n
    → length (line (word ∷ words)) ≤ m + 1 + n
unfolding line
line-within word [] l h = omega (arith, length-append word (10 ∷ []))
line-within word (next ∷ words) l h =
    omega (arith, length-append (spaced word) (line (next ∷ words)), length-append word (32 ∷ []))

-- with one figure more, which so many digits spell
pub figure-within : (k figure : ℕ) (words : List (List ℕ)) {n : ℕ} → figure < 10 ^ suc k → length (line words) ≤ n
    → length (line (decimal figure ∷ words)) ≤ k + 2 + n
figure-within k figure words l h = omega (arith, line-within (decimal figure) words (length-below k figure l) h)

-- the last of a line
pub figure-last : (k figure : ℕ) → figure < 10 ^ suc k → length (line (decimal figure ∷ [])) ≤ k + 2
unfolding line
figure-last k figure l = omega (arith, length-append (decimal figure) (10 ∷ []), length-below k figure l)

-- for callers: a refusal's line, of a byte's three digits and a place's twenty
pub refused-within : (refusal : Refusal) → refusal.number < 10 ^ 3 → refusal.place < 10 ^ 20 → length (refused refusal) ≤ 33
refused-within refusal number place =
    line-within title _ (le_refl 7) (figure-within 2 refusal.number _ number (figure-last 19 refusal.place place))
