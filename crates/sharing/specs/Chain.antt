-- Rounds one after another: a later round's needs are what is unmet.
use Rattle.std.specs.Prelude.{ℕ, ◌+◌, ◌-◌}
use Rattle.sharing.specs.Round.{shares}

-- of the needs q, where the rows have been given s
abbrev pub unmet : (ℕ → ℕ) → (ℕ → ℕ) → ℕ → ℕ
unmet q s i = q i - s i

-- what the rows have been given after a further round with the capacity c and the weights w
unfoldable pub after : ℕ → (ℕ → ℕ) → (ℕ → ℕ) → ℕ → (ℕ → ℕ) → ℕ → ℕ
after n w q c s i = s i + shares n w (unmet q s) c i
