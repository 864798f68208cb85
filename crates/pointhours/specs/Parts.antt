-- What a point's part, a run of tag 4 fields, says of its entries. Of any other bytes it says what stands at the same places.
use Rattle.std.specs.Prelude.{List, ℕ, ◌*◌, ◌/◌, min, length, drop}
use Rattle.dayformat.specs.declared.form.Tag.TheVariants.{Entry}
use Rattle.dayformat.specs.declared.layout.Counts.{Counts}
use Rattle.dayformat.specs.Format.{any_number, most, field_size, number_in}
use Rattle.pointhours.specs.HourText.{firm_mdq, hour_lines}

-- of a longer run as many entries as a file can have
abbrev pub most_entries : ℕ
most_entries = most Entry

abbrev pub entries_in : List ℕ → ℕ
entries_in part = min (length part / field_size Entry) most_entries

-- the number at a place of an entry: side, point, shipper, RE
abbrev pub entry_in : List ℕ → ℕ → ℕ → ℕ
entry_in part entry place = number_in Entry (drop (entry * field_size Entry) part) place

abbrev pub shipper_in : List ℕ → ℕ → ℕ
shipper_in part entry = entry_in part entry 2

abbrev pub entitlement_in : List ℕ → ℕ → ℕ
entitlement_in part entry = entry_in part entry 3

-- no u32 is greater
abbrev pub most_number : ℕ
most_number = any_number.high

abbrev pub mdq_in : Counts → (ℕ → ℕ) → List ℕ → ℕ → ℕ
mdq_in counts numbers part entry = min (firm_mdq counts numbers (shipper_in part entry)) most_number

abbrev pub part_lines : Counts → (ℕ → ℕ) → List ℕ → ℕ → List ℕ
part_lines counts numbers part capacity =
    hour_lines capacity (entries_in part) (shipper_in part) (entitlement_in part) (mdq_in counts numbers part)
