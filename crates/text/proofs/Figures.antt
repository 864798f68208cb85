-- Some numbers spelled, from zero to the greatest of 64 bits.
use mathlib.Core.Path.{◌≡◌, refl}
use mathlib.Core.List.{[], ◌∷◌}
use Rattle.text.specs.Text.{digits, decimal}

pub spells_zero : decimal 0 ≡ 48 ∷ []
unfolding digits decimal
spells_zero = refl

pub spells_nine : decimal 9 ≡ 57 ∷ []
unfolding digits decimal
spells_nine = refl

pub spells_ten : decimal 10 ≡ 49 ∷ 48 ∷ []
unfolding digits decimal
spells_ten = refl

pub spells_hundred : decimal 100 ≡ 49 ∷ 48 ∷ 48 ∷ []
unfolding digits decimal
spells_hundred = refl

pub spells_greatest : decimal 18446744073709551615
    ≡ 49 ∷ 56 ∷ 52 ∷ 52 ∷ 54 ∷ 55 ∷ 52 ∷ 52 ∷ 48 ∷ 55 ∷ 51 ∷ 55 ∷ 48 ∷ 57 ∷ 53 ∷ 53 ∷ 49 ∷ 54 ∷ 49 ∷ 53 ∷ []
unfolding digits decimal
spells_greatest = refl
