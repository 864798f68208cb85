-- 01, "One sharing round" (cl. 3.2, 3.4): a round has n rows, weights w, needs q and a capacity c.
use Rattle.std.specs.Prelude.{ℕ, ◌*◌, ◌/◌, min, leb}
use Rattle.columns.specs.Sum.{sum}
use Rattle.sharing.specs.Largest.{largest}

-- a level gives a row the smaller of its need and weight × level / 1,000,000 rounded down
abbrev pub share : ℕ → ℕ → ℕ → ℕ
share w q t = min q (w * t / 1_000_000)

-- what the rows get together at a level
abbrev pub total : ℕ → (ℕ → ℕ) → (ℕ → ℕ) → ℕ → ℕ
total n w q t = sum n (λ i. share (w i) (q i) t)

abbrev pub top : ℕ
top = 1_000_000_000_000

-- the largest whole level from 0 to 1,000,000,000,000 whose shares add up to at most c
unfoldable pub level : ℕ → (ℕ → ℕ) → (ℕ → ℕ) → ℕ → ℕ
level n w q c = largest (λ t. leb (total n w q t) c) top

-- what each row gets
abbrev pub shares : ℕ → (ℕ → ℕ) → (ℕ → ℕ) → ℕ → ℕ → ℕ
shares n w q c i = share (w i) (q i) (level n w q c)
