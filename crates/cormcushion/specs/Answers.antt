-- Each opened routine's answer, packed: its refusal, or the one figure that the number has room for; the others go to a lent list.
use Rattle.std.specs.Prelude.{List, [], ◌∷◌, ℕ, Result, Ok, Err}
use Rattle.dayshares.specs.declared.Levels.{Levels}
use Rattle.dayformat.specs.declared.day.Day.{Day}
use Rattle.dayformat.specs.Layout.{numbers_in}
use Rattle.cormcushion.specs.Packed.{accepted, refused}
use Rattle.rounds.specs.declared.Given.{Given}
use Rattle.units.specs.declared.refusal.Refusal.{Refusal}
use Rattle.dayshares.specs.declared.Shares.{Shares}

-- the size of a text
abbrev pub of_listing : Result ℕ Refusal → ℕ
of_listing (Err refusal) = refused refusal
of_listing (Ok size) = accepted size

-- how many numbers a day has
abbrev pub of_reading : Result Day Refusal → ℕ
of_reading (Err refusal) = refused refusal
of_reading (Ok day) = accepted (numbers_in day.counts)

-- the level of a round
abbrev pub of_round : Result Given Refusal → ℕ
of_round (Err refusal) = refused refusal
of_round (Ok given) = accepted given.level

-- what a day's shares leave
abbrev pub of_shares : Result Shares Refusal → ℕ
of_shares (Err refusal) = refused refusal
of_shares (Ok day) = accepted day.left.0

-- ---- the lists
-- day, free flow and compressor capacity; then how many shippers, points, entries, meters and fields of excused gas
abbrev pub day_figures : Day → List ℕ
day_figures day =
    day.head.day
    ∷ day.head.free_flow.0
    ∷ day.head.compressor.0
    ∷ day.counts.shippers
    ∷ day.counts.points
    ∷ day.counts.entries
    ∷ day.counts.meters
    ∷ day.counts.excused
    ∷ []

abbrev pub with_day : Result Day Refusal → List ℕ → List ℕ
with_day (Err refusal) lent = lent
with_day (Ok day) lent = day_figures day

-- rounds one, two and three, auction, lower tier
abbrev pub level_figures : Levels → List ℕ
level_figures levels = levels.one ∷ levels.two ∷ levels.three ∷ levels.auction ∷ levels.lower_tier ∷ []

abbrev pub with_levels : Result Shares Refusal → List ℕ → List ℕ
with_levels (Err refusal) lent = lent
with_levels (Ok day) lent = level_figures day.levels
