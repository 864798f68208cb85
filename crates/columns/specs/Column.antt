-- A row is a number from 0; a column gives each row its figure.
use Rattle.std.specs.Prelude.{List, [], ◌∷◌, ◌++◌, ℕ, zero, suc, get_or}

-- the column that a list holds
abbrev pub col : List ℕ → ℕ → ℕ
col xs i = get_or xs i 0

-- the first n rows of a column, or of anything that has rows, as a list
unfoldable pub listed : {X : Type 0} → ℕ → (ℕ → X) → List X
listed zero f = []
listed (suc n) f = listed n f ++ (f n ∷ [])

-- n lists, one after another
unfoldable pub joined : ℕ → (ℕ → List ℕ) → List ℕ
joined zero f = []
joined (suc n) f = joined n f ++ f n
