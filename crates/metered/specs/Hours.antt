-- Both sides' 24 hours are one value, two rows of 24, delivered first.
use Rattle.std.specs.Prelude.{List, [], ◌∷◌, ◌++◌, map, ℕ, get_or, replicate, Ok}
use Rattle.units.specs.declared.Megajoules.{Megajoules}
use Rattle.units.specs.Bound.{most_hour}
use Rattle.units.specs.Refusals.{◌then◌, within, Check}

-- the bare numbers of a row
abbrev pub bare_hours : List Megajoules → List ℕ
bare_hours row = map (λ x. x.0) row

abbrev pub delivered : List (List Megajoules) → List ℕ
delivered hours = bare_hours (get_or hours 0 [])

abbrev pub received : List (List Megajoules) → List ℕ
received hours = bare_hours (get_or hours 1 [])

-- yesterday's hours followed by today's
abbrev pub both_days : List Megajoules → List Megajoules → List ℕ
both_days yesterday today = bare_hours yesterday ++ bare_hours today

-- 3 at the lowest hour beyond its bound, delivered hours first
unfoldable pub hours_check : List (List Megajoules) → Check
hours_check hours =
    Ok tt
    then within most_hour (delivered hours)
    then within most_hour (received hours)

-- hours of nothing, and both sides' of today
abbrev pub no_hours : ℕ → List Megajoules
no_hours many = replicate many (record { 0 = 0 })

abbrev pub no_sides : List (List Megajoules)
no_sides = no_hours 24 ∷ no_hours 24 ∷ []
