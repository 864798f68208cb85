-- The lowest row of a list whose figure is above the most allowed, or the number of rows where none is.
use Rattle.std.specs.Prelude.{List, ℕ, ltb, length}
use Rattle.columns.specs.Column.{col}
use Rattle.columns.specs.First.{first}

abbrev pub first_above : ℕ → List ℕ → ℕ
first_above most xs = first (length xs) (λ i. ltb most (col xs i))
