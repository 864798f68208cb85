-- C-14; cl. 5.4: gas that the operator's own reprofiling moved is excused. Hours excused are laid out as the hours metered.
use Rattle.std.specs.Prelude.{List, ℕ, ◌-◌, min, ltb, length}
use Rattle.columns.specs.Column.{col, listed}
use Rattle.columns.specs.First.{first}
use Rattle.units.specs.declared.Megajoules.{Megajoules}
use Rattle.units.specs.Refusals.{◌then◌, clear, Check}
use Rattle.metered.specs.Hours.{delivered, received}

-- how many hours both lists have
abbrev pub both_have : List ℕ → List ℕ → ℕ
both_have metered excused = min (length metered) (length excused)

-- the lowest hour of which more is excused than was metered, or their number where there is none
abbrev pub first_above_metered : List ℕ → List ℕ → ℕ
first_above_metered metered excused = first (both_have metered excused) (λ hour. ltb (col metered hour) (col excused hour))

-- 3 at that hour: what was metered is the only bound
abbrev pub excused_check : List ℕ → List ℕ → Check
excused_check metered excused = clear (both_have metered excused) (first_above_metered metered excused) 3

-- the same of both sides' hours, delivered first
unfoldable pub excused_hours_check : List (List Megajoules) → List (List Megajoules) → Check
excused_hours_check hours excused =
    excused_check (delivered hours) (delivered excused) then excused_check (received hours) (received excused)

-- hours compared with a limit: metered less excused
abbrev pub compared : List ℕ → List ℕ → List ℕ
compared metered excused = listed (length metered) (λ hour. col metered hour - col excused hour)
