-- A class that follows another: held in one round only where no row above it is short (cl. 3.4).
use Rattle.std.specs.Prelude.{Bool, cond, ℕ, leb, ltb}
use Rattle.columns.specs.First.{first}
use Rattle.sharing.specs.Round.{level, shares}

-- the lowest row that is given less than its schedule, or the number of rows
abbrev pub first_short : ℕ → (ℕ → ℕ) → (ℕ → ℕ) → ℕ
first_short n q s = first n (λ i. ltb (s i) (q i))

-- every row is given its schedule
abbrev pub full : ℕ → (ℕ → ℕ) → (ℕ → ℕ) → Bool
full n q s = leb n (first_short n q s)

-- level 0 for a round not held
unfoldable pub class_level : Bool → ℕ → (ℕ → ℕ) → (ℕ → ℕ) → ℕ → ℕ
class_level held n w q c = cond held (level n w q c) 0

-- and its rows get zero
unfoldable pub class_given : Bool → ℕ → (ℕ → ℕ) → (ℕ → ℕ) → ℕ → ℕ → ℕ
class_given held n w q c i = cond held (shares n w q c i) 0
