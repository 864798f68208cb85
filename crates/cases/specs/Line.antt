-- The line of an answer, as the second program has it.
use Rattle.std.specs.Prelude.{ℕ, List, [], ◌∷◌, ◌++◌, ◌/◌, ◌%◌, replicate, Result, Ok, Err, decimal, false}
use Rattle.std.specs.Fmt.{digit_glyph}
use Rattle.std.specs.List.{flat_map}
use Rattle.units.specs.declared.refusal.Refusal.{Refusal}

-- figures, a space before each
abbrev pub spaced : List ℕ → List ℕ
spaced figures = flat_map (λ figure. 32 ∷ decimal figure) figures

-- 01's number and place, and the figures where it is accepted
abbrev pub answered : Result (List ℕ) Refusal → List ℕ
answered (Err refusal) = spaced (refusal.number ∷ refusal.place ∷ [])
answered (Ok figures) = spaced (0 ∷ 0 ∷ []) ++ spaced figures

-- the same with so many zeros for the figures of a refusal
abbrev pub whole : ℕ → Result (List ℕ) Refusal → List ℕ
whole count (Err refusal) = answered (Err refusal) ++ spaced (replicate count 0)
whole count (Ok figures) = answered (Ok figures)

-- bytes, two digits for each
abbrev pub hexadecimal : List ℕ → List ℕ
hexadecimal bytes = flat_map (λ byte. digit_glyph false (byte / 16) ∷ digit_glyph false (byte % 16) ∷ []) bytes
