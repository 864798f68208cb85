-- The listing of shares is made of the head and of the shippers' rows, so it looks at nothing from tag 9's table on.
use mathlib.Core.Path.{◌≡◌, refl, ap, ap₂, ◌∙◌}
use mathlib.Core.List.{List, ◌++◌}
use Prim.Native.Nat.{ℕ, ◌<◌}
use native.Mathlib.Omega.{arith}
use Rattle.columns.proofs.Joined.{joined_same}
use Rattle.daytable.specs.Table.{Table}
use Rattle.dayformat.specs.declared.day.Day.{Day}
use Rattle.dayformat.specs.declared.form.Tag.TheVariants.{Shipper, Excused}
use Rattle.dayformat.specs.declared.layout.Counts.{Counts}
use Rattle.dayformat.specs.Format.{table_place}
use Rattle.dayformat.specs.Layout.{count, table_start}
use Rattle.dayformat.specs.Private.{Agree}
use Rattle.dayshares.specs.Given.{firm_given, firm_total, auction_given, lower_tier_given, left}
use Rattle.dayvalues.specs.Shippers.{shipper_of}
use Rattle.dayvalues.proofs.Earlier.{Alike, count_same, number_same}
use Rattle.numbershares.specs.DayTable.{table_of}
use Rattle.numbershares.proofs.Earlier.{table_same}
use Rattle.sharelisting.specs.SharesText.{head_line, shipper_line, shipper_lines, shares_text}

-- the lines of a table's shares
abbrev table_lines : ℕ → (ℕ → ℕ) → Table → List ℕ
table_lines rows shipper T = shipper_lines rows shipper (firm_given T) (auction_given T) (lower_tier_given T)

lines_same : {many : ℕ} {c d : Counts} {f g : ℕ → ℕ} → Alike many c d f g → table_place Shipper < many → (T : Table)
    → table_lines (count c Shipper) (shipper_of c f) T ≡ table_lines (count d Shipper) (shipper_of d g) T
lines_same {c = c} {d = d} {g = g} A early T =
    joined_same (count c Shipper) _ _
    (λ row l.
    ap (λ shipper. shipper_line shipper (firm_given T row) (auction_given T row) (lower_tier_given T row))
    (number_same A Shipper refl early row l 0 (omega arith)))
    ∙ ap (λ rows. table_lines rows (shipper_of d g) T) (count_same A Shipper refl early)

pub shares_text-same : (day other : Day) (f g : ℕ → ℕ) → day.head ≡ other.head
    → Agree (table_place Excused) day.counts other.counts
    → ((place : ℕ) → place < table_start day.counts Excused → f place ≡ g place)
    → shares_text day f ≡ shares_text other g
shares_text-same day other f g head agree same =
    let A : Alike (table_place Excused) day.counts other.counts f g = record { agree = agree; numbers = same } in
    let early : table_place Shipper < table_place Excused = omega arith in
    let table : table_of day f ≡ table_of other g = table_same day other A early head in
    ap₂ (λ line lines. line ++ lines)
    (ap₂ (λ head T. head_line head.day (firm_total T) (left T)) head table)
    (ap (table_lines (count day.counts Shipper) (shipper_of day.counts f)) table ∙ lines_same A early (table_of other g))
