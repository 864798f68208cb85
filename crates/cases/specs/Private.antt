-- What the reading of one case takes from the input.
use Rattle.std.specs.Prelude.{ℕ, ◌≤◌, List, length, Option}
use Rattle.std.specs.Io.KnownBytes.{Consumes, IsAtEnd}

-- a word at least
abbrev pub TakesWord : Option (List ℕ) → Option (List ℕ) → Type 0
TakesWord before after = (bytes : List ℕ) × Consumes before after bytes × (4 ≤ length bytes)

-- what is left, to the end of it
abbrev pub TakesLast : Option (List ℕ) → Option (List ℕ) → Type 0
TakesLast before after = (bytes : List ℕ) × Consumes before after bytes × IsAtEnd after
