-- 01, "Figures to check against": the lines that a program prints.
use Rattle.std.specs.Prelude.{List, [], ◌∷◌, ◌++◌, map, ℕ}
use Rattle.units.specs.declared.refusal.Refusal.{Refusal}
use Rattle.text.specs.Text.{decimal}

-- a word and a space
abbrev pub spaced : List ℕ → List ℕ
spaced word = word ++ (32 ∷ [])

-- a word and its figure, each with a space
abbrev pub labelled : List ℕ → ℕ → List ℕ
labelled word figure = spaced word ++ spaced (decimal figure)

-- words separated by single spaces, then the line end
unfoldable pub line : List (List ℕ) → List ℕ
line [] = 10 ∷ []
line (word ∷ []) = word ++ (10 ∷ [])
line (word ∷ next ∷ words) = spaced word ++ line (next ∷ words)

-- figures as words
abbrev pub decimals : List ℕ → List (List ℕ)
decimals figures = map decimal figures

-- of a longer list a line has the first so many
abbrev pub most_figures : ℕ
most_figures = 64

-- DAY, with which a listing begins
abbrev pub day_word : List ℕ
day_word = 68 ∷ 65 ∷ 89 ∷ []

-- REFUSED
abbrev pub title : List ℕ
title = 82 ∷ 69 ∷ 70 ∷ 85 ∷ 83 ∷ 69 ∷ 68 ∷ []

-- REFUSED number place
abbrev pub refused : Refusal → List ℕ
refused refusal = line (title ∷ decimals (refusal.number ∷ refusal.place ∷ []))
