-- Two outcomes that meet a statement of this crate are equal.
use mathlib.Core.Path.{◌≡◌, sym, ◌∙◌}
use mathlib.Core.List.{List}
use Prim.Native.Nat.{ℕ, min}
use lib.ListN.{take, drop}
use lib.Seq.{sets}
use Rattle.bigendian.specs.Number.{value, bytes, widest}

pub number_at_determined : (file : List ℕ) (at width : ℕ) {r₁ r₂ : ℕ}
    → r₁ ≡ value (take (min width widest) (drop at file)) → r₂ ≡ value (take (min width widest) (drop at file)) → r₁ ≡ r₂
number_at_determined file at width e h = e ∙ sym h

pub put_number_determined : (number width : ℕ) (lent : List ℕ) (at : ℕ) {l₁ l₂ : List ℕ}
    → l₁ ≡ sets lent at (bytes (min width widest) number) → l₂ ≡ sets lent at (bytes (min width widest) number) → l₁ ≡ l₂
put_number_determined number width lent at e h = e ∙ sym h
