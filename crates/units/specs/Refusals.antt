-- 01, "Refusal numbers": a refusal has a number and a place.
use Rattle.std.specs.Prelude.{Bool, cond, List, ℕ, leb, length, Result, Ok, Err}
use Rattle.units.specs.declared.refusal.Refusal.{Refusal}
use Rattle.units.specs.Above.{first_above}

-- a single figure, a count, list lengths, totals or output: place 0
abbrev pub plain : ℕ → Refusal
plain number = record { number = number; place = 0 }

-- in a list: the row from 0
abbrev pub at_row : ℕ → ℕ → Refusal
at_row number row = record { number = number; place = row }

-- in a file: the field's first byte
abbrev pub at_byte : ℕ → ℕ → Refusal
at_byte number byte = record { number = number; place = byte }

-- what the tests of an input find
abbrev pub Check : Type 0
Check = Result (Unit {0}) Refusal

-- x where the input is accepted, y where it is refused
abbrev pub accepted_or : {X : Type 0} → Check → X → X → X
accepted_or (Ok _) x y = x
accepted_or (Err r) x y = y

-- of two tests the first that refuses wins
unfoldable pub first_refusal : Check → Check → Check
first_refusal (Ok _) next = next
first_refusal (Err refusal) next = Err refusal

infixl 20 ◌then◌
abbrev pub ◌then◌ : Check → Check → Check
one then other = first_refusal one other

-- refused by number unless kept
unfoldable pub keep : Bool → ℕ → Check
keep kept number = cond kept (Ok tt) (Err (plain number))

-- refused by number at the row found, unless it is past the rows
unfoldable pub clear : ℕ → ℕ → ℕ → Check
clear rows found number = cond (leb rows found) (Ok tt) (Err (at_row number found))

-- 3 at the lowest row beyond its bound
abbrev pub within : ℕ → List ℕ → Check
within most xs = clear (length xs) (first_above most xs) 3

-- a refusal told by its number at a row, whatever its place was
unfoldable pub placed : ℕ → Check → Check
placed row (Ok _) = Ok tt
placed row (Err refusal) = Err (at_row refusal.number row)
