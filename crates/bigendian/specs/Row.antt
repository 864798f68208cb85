-- A row of numbers as bytes, by a list of widths.
use Rattle.std.specs.Prelude.{◌≡◌, List, [], ◌∷◌, ◌++◌, ℕ, ◌+◌, ◌^◌, ◌<◌, length, take, drop}
use Rattle.columns.specs.Column.{col}
use Rattle.bigendian.specs.Number.{value, bytes}

-- how many bytes a row has
unfoldable pub size : List ℕ → ℕ
size [] = 0
size (width ∷ widths) = width + size widths

-- a row's numbers out of its bytes; what follows them is not looked at
unfoldable pub decode : List ℕ → List ℕ → List ℕ
decode [] list = []
decode (width ∷ widths) list = value (take width list) ∷ decode widths (drop width list)

-- a row's bytes out of its numbers, as far as there are both widths and numbers
unfoldable pub encode : List ℕ → List ℕ → List ℕ
encode [] numbers = []
encode (width ∷ widths) [] = []
encode (width ∷ widths) (number ∷ numbers) = bytes width number ++ encode widths numbers

-- as many numbers as widths, each below what its width can spell
pub record Fit (widths numbers : List ℕ) : Type 0 where
  pub as_many : length numbers ≡ length widths
  pub below : (i : ℕ) → i < length widths → col numbers i < 256 ^ col widths i
