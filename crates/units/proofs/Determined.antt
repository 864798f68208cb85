-- A statement that is an equation determines the answer: two that meet it are equal.
use mathlib.Core.Path.{◌≡◌, sym, ◌∙◌}

pub determined {ℓ} : {X : Type ℓ} {a b answer : X} → a ≡ answer → b ≡ answer → a ≡ b
determined e h = e ∙ sym h
