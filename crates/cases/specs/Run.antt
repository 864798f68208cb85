-- What a run over all the cases of the input reads.
use Rattle.std.specs.Prelude.{◌≡◌, ℕ, ◌-◌, ◌*◌, ◌^◌, ◌<◌, List, [], length, Option, None, Some, ⊤}

-- all of it, where that is known and shorter than what 2^64 - 1 cases have, of a word at least
abbrev pub ReadWhole : Option (List ℕ) → Option (List ℕ) → Type 0
ReadWhole None after = ⊤
ReadWhole (Some bytes) after = length bytes < (2 ^ 64 - 1) * 4 → after ≡ Some []
