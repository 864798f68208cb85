-- How a number is spelled, and how bytes are laid into a lent block.
use Rattle.std.specs.Prelude.{◌≡◌, List, [], ◌∷◌, ◌++◌, ℕ, zero, suc, ◌+◌, ◌-◌, ◌*◌, ◌/◌, ◌%◌, length}
use Rattle.std.proofs.lemmas.List.Edits.{sets}

-- the byte of a number's last digit; 48 is that of zero
abbrev pub last_digit : ℕ → ℕ
last_digit n = 48 + n % 10

-- the digits of a number, highest first and at most so many, without leading zeros: zero has none
unfoldable pub digits : ℕ → ℕ → List ℕ
digits zero n = []
digits (suc most) zero = []
digits (suc most) (suc n) = digits most (suc n / 10) ++ (last_digit (suc n) ∷ [])

-- the digits of its tens, never more of them than the number counts, then its last digit, which zero has too
unfoldable pub decimal : ℕ → List ℕ
decimal n = digits n (n / 10) ++ (last_digit n ∷ [])

-- the number that digits spell, after those that spell `above`
unfoldable pub value_after : ℕ → List ℕ → ℕ
value_after above [] = above
value_after above (byte ∷ bytes) = value_after (above * 10 + (byte - 48)) bytes

abbrev pub value : List ℕ → ℕ
value bytes = value_after 0 bytes

-- the statement of a routine that lays bytes from `at` on: how many it returns, and the lent block before and after;
-- `sets` drops what lies past the block
pub record Laid (bytes lent : List ℕ) (at count : ℕ) (after : List ℕ) : Type 0 where
  pub counts : count ≡ length bytes
  pub lays : after ≡ sets lent at bytes
