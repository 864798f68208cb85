-- A table of figures: each line has what a definition gives, and what 01 says.
use Rattle.std.specs.Prelude.{List, [], ◌∷◌}

infix 70 ◌is◌
pub data Line : Type 1 where
  ◌is◌ : {Figure : Type 0} → Figure → Figure → Line

-- a figure for each line, of the line's own type
abbrev pub Column : List Line → Type 0
Column [] = Unit
Column (◌is◌ {Figure} x y ∷ lines) = Figure × Column lines

-- what the definitions give
unfoldable pub defined : (lines : List Line) → Column lines
defined [] = tt
defined (x is y ∷ lines) = (x, defined lines)

-- what 01 says
unfoldable pub said : (lines : List Line) → Column lines
said [] = tt
said (x is y ∷ lines) = (y, said lines)
