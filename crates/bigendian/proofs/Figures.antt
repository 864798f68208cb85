-- Some numbers and their bytes.
use mathlib.Core.Path.{◌≡◌, refl}
use mathlib.Core.List.{[], ◌∷◌}
use Rattle.bigendian.specs.Number.{value, bytes}
use Rattle.bigendian.specs.Row.{decode, encode}

pub two_bytes : bytes 2 258 ≡ 1 ∷ 2 ∷ []
unfolding bytes
two_bytes = refl

pub greatest : bytes 4 4294967295 ≡ 255 ∷ 255 ∷ 255 ∷ 255 ∷ []
unfolding bytes
greatest = refl

pub lowest_bytes : bytes 2 65538 ≡ 0 ∷ 2 ∷ []
unfolding bytes
lowest_bytes = refl

pub spells : value (0 ∷ 0 ∷ 1 ∷ 0 ∷ []) ≡ 256
unfolding value
spells = refl

-- side, point and capacity, as tag 3 has them
pub row-there : encode (1 ∷ 2 ∷ 4 ∷ []) (1 ∷ 515 ∷ 256 ∷ []) ≡ 1 ∷ 2 ∷ 3 ∷ 0 ∷ 0 ∷ 1 ∷ 0 ∷ []
unfolding encode bytes
row-there = refl

pub row_back : decode (1 ∷ 2 ∷ 4 ∷ []) (1 ∷ 2 ∷ 3 ∷ 0 ∷ 0 ∷ 1 ∷ 0 ∷ 9 ∷ []) ≡ 1 ∷ 515 ∷ 256 ∷ []
unfolding decode value
row_back = refl
