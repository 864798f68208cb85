-- Two outcomes that meet a statement of this crate are equal.
use mathlib.Core.Path.{◌≡◌, sym, ◌∙◌}
use mathlib.Core.List.{List}
use Prim.Native.Nat.{ℕ, ◌+◌}
use lib.ListN.{set}

pub put_byte_determined : (lent : List ℕ) (at place byte : ℕ) {l₁ l₂ : List ℕ}
    → l₁ ≡ set lent (at + place) byte → l₂ ≡ set lent (at + place) byte → l₁ ≡ l₂
put_byte_determined lent at place byte e h = e ∙ sym h
