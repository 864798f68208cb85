-- Some lines, among them those that 01 prints for its first figure.
use mathlib.Core.Path.{◌≡◌, refl}
use mathlib.Core.List.{[], ◌∷◌}
use Rattle.units.specs.Refusals.{at_row}
use Rattle.text.specs.Text.{digits, decimal}
use Rattle.lines.specs.Line.{decimals, line, refused}

-- 7 340 0 0
pub first-shipper : line (decimals (7 ∷ 340 ∷ 0 ∷ 0 ∷ [])) ≡ 55 ∷ 32 ∷ 51 ∷ 52 ∷ 48 ∷ 32 ∷ 48 ∷ 32 ∷ 48 ∷ 10 ∷ []
unfolding line digits decimal
first-shipper = refl

-- DAY 1 FIRM 400 LEFT 0
pub first_day :
    line ((68 ∷ 65 ∷ 89 ∷ []) ∷ decimal 1 ∷ (70 ∷ 73 ∷ 82 ∷ 77 ∷ []) ∷ decimal 400 ∷ (76 ∷ 69 ∷ 70 ∷ 84 ∷ []) ∷ decimal 0 ∷ [])
    ≡ 68 ∷ 65 ∷ 89 ∷ 32 ∷ 49 ∷ 32 ∷ 70 ∷ 73 ∷ 82 ∷ 77 ∷ 32 ∷ 52 ∷ 48 ∷ 48 ∷ 32 ∷ 76 ∷ 69 ∷ 70 ∷ 84 ∷ 32 ∷ 48 ∷ 10 ∷ []
unfolding line digits decimal
first_day = refl

-- no figure
pub line-end : line (decimals []) ≡ 10 ∷ []
unfolding line
line-end = refl

-- REFUSED 4 10
pub fourth : refused (at_row 4 10) ≡ 82 ∷ 69 ∷ 70 ∷ 85 ∷ 83 ∷ 69 ∷ 68 ∷ 32 ∷ 52 ∷ 32 ∷ 49 ∷ 48 ∷ 10 ∷ []
unfolding line digits decimal
fourth = refl
