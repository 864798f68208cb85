-- 01, "The day file": numbers big-endian, u32 unless marked.
use Rattle.std.specs.Prelude.{List, [], ◌∷◌, ℕ, zero, suc, ◌+◌, ◌*◌, ◌/◌, ◌%◌, ◌^◌, ◌<◌, length}
use Rattle.columns.specs.Column.{col}

-- the number that bytes spell, the highest first
unfoldable pub value : List ℕ → ℕ
value [] = 0
value (byte ∷ rest) = byte * 256 ^ length rest + value rest

-- the bytes of such a width that spell a number, of a number too large its lowest ones
unfoldable pub bytes : ℕ → ℕ → List ℕ
bytes zero number = []
bytes (suc width) number = number / 256 ^ width % 256 ∷ bytes width number

-- every element is a byte, as those of a file are
abbrev pub AreBytes : List ℕ → Type 0
AreBytes list = (i : ℕ) → col list i < 256

-- a u32 has so many bytes
abbrev pub widest : ℕ
widest = 4
