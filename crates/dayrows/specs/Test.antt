-- 01, "The day file" and "Refusal numbers": the tests of a row among a day's numbers, for a file and for the writer alike.
use Rattle.std.specs.Prelude.{Bool, true, false, cond, not, List, [], ◌∷◌, ℕ, zero, suc, ◌+◌, leb, ltb, eqb, Ok, Err}
use Rattle.columns.specs.First.{first}
use Rattle.daytable.specs.Acceptance.{idle}
use Rattle.dayformat.specs.declared.form.Tag.{Tag}
use Rattle.dayformat.specs.declared.rules.Name.{Name}
use Rattle.dayformat.specs.declared.rules.Pair.{Pair}
use Rattle.dayformat.specs.declared.body.Column.{Column}
use Rattle.dayformat.specs.declared.layout.Counts.{Counts}
use Rattle.dayformat.specs.Format.{body, names, mdqs, cap, first_name, column_in, form}
use Rattle.dayformat.specs.Layout.{count, row_start}
use Rattle.dayrows.specs.declared.fault.Fault.TheVariants as Fault
use Rattle.dayrows.specs.declared.Source.{Source}
use Rattle.dayrows.specs.declared.Source.TheVariants.{File, Side}
use Rattle.dayrows.specs.declared.Test.{Test}
use Rattle.dayrows.specs.declared.Test.TheVariants.{Bounds, Key, Mdq}
use Rattle.dayrows.specs.Fault.{Found}

-- ---- keys
-- the first of so many numbers in which those from one place on differ from those from another
unfoldable pub difference : (ℕ → ℕ) → ℕ → ℕ → ℕ → ℕ
difference numbers many one other = first many (λ place. not (eqb (numbers (one + place)) (numbers (other + place))))

-- a row of the tag has the key that stands at a place
abbrev pub keyed : Counts → (ℕ → ℕ) → Tag → ℕ → ℕ → Bool
keyed counts numbers tag at row = leb (form tag).key (difference numbers (form tag).key (row_start counts tag row) at)

-- some row of the tag has it
unfoldable pub lists : Counts → (ℕ → ℕ) → Tag → ℕ → Bool
lists counts numbers tag at = ltb (first (count counts tag) (λ row. keyed counts numbers tag at row)) (count counts tag)

-- ---- 3
-- a number within its bounds
abbrev pub in_bounds : Column → ℕ → Bool
in_bounds column number = cond (leb column.low number) (leb number column.high) false

-- every number of the row that begins at a place is within its bounds
unfoldable pub bounded : (ℕ → ℕ) → Tag → ℕ → Bool
bounded numbers tag at =
    leb (form tag).columns (first (form tag).columns (λ place. not (in_bounds (column_in (body tag) place) (numbers (at + place)))))

-- of so many numbers each from one place on is at most that from another on
unfoldable pub all_under : (ℕ → ℕ) → ℕ → ℕ → ℕ → Bool
all_under numbers many one other = leb many (first many (λ place. ltb (numbers (other + place)) (numbers (one + place))))

-- a row that the row at a place names caps its numbers
unfoldable pub caps : Counts → (ℕ → ℕ) → Tag → ℕ → ℕ → Bool
caps counts numbers tag at row =
    let name = first_name tag in
    cond (keyed counts numbers name.tag (at + name.place) row)
    (all_under numbers (cap tag).many (at + (cap tag).place) (row_start counts name.tag row + (cap tag).under))
    false

-- some row that it names does, where there is any; where keys rise there is one at most
unfoldable pub capped : Counts → (ℕ → ℕ) → Tag → ℕ → Bool
capped counts numbers tag at =
    let name = first_name tag in
    cond (lists counts numbers name.tag (at + name.place))
    (ltb (first (count counts name.tag) (λ row. caps counts numbers tag at row)) (count counts name.tag))
    true

-- in a file a row is capped; in a list of one side's entries nothing is looked up, and an entry of the other side is beyond its bound
abbrev pub of_source : Source → Counts → (ℕ → ℕ) → Tag → ℕ → Bool
of_source File counts numbers tag at = capped counts numbers tag at
of_source (Side side) counts numbers tag at = eqb (numbers at) side

-- ---- 5
-- the first number in which the key that stands at one place differs from that at another is the less
abbrev pub less : (ℕ → ℕ) → ℕ → ℕ → ℕ → Bool
less numbers key one other =
    let place = difference numbers key one other in
    cond (ltb place key) (ltb (numbers (one + place)) (numbers (other + place))) false

-- keys rise strictly: that of the row before is less
unfoldable pub rises : Counts → (ℕ → ℕ) → Tag → ℕ → Bool
rises counts numbers tag zero = true
rises counts numbers tag (suc row) = less numbers (form tag).key (row_start counts tag row) (row_start counts tag (suc row))

-- every name of the row that begins at a place is listed
unfoldable pub names_listed : Counts → (ℕ → ℕ) → ℕ → List Name → Bool
names_listed counts numbers at [] = true
names_listed counts numbers at (name ∷ rest) =
    cond (lists counts numbers name.tag (at + name.place)) (names_listed counts numbers at rest) false

abbrev pub named : Counts → (ℕ → ℕ) → Tag → ℕ → Bool
named counts numbers tag at = names_listed counts numbers at (names tag)

-- in a list of entries names aren't looked up
abbrev pub names_known : Source → Counts → (ℕ → ℕ) → Tag → ℕ → Bool
names_known File counts numbers tag at = named counts numbers tag at
names_known (Side side) counts numbers tag at = true

-- ---- 4
-- a firm or auction schedule above zero with that MDQ zero
unfoldable pub some_idle : (ℕ → ℕ) → ℕ → List Pair → Bool
some_idle numbers at [] = false
some_idle numbers at (pair ∷ rest) =
    cond (idle (numbers (at + pair.mdq)) (numbers (at + pair.schedule))) true (some_idle numbers at rest)

abbrev pub starved : (ℕ → ℕ) → Tag → ℕ → Bool
starved numbers tag at = some_idle numbers at (mdqs tag)

-- ---- the tests in 01's order, and the fault of a row: the first that it fails
unfoldable pub passes : Test → Source → Counts → (ℕ → ℕ) → Tag → ℕ → Bool
passes Bounds source counts numbers tag row =
    let at = row_start counts tag row in
    cond (ltb row (form tag).most) (cond (bounded numbers tag at) (of_source source counts numbers tag at) false) false
passes Key source counts numbers tag row =
    cond (rises counts numbers tag row) (names_known source counts numbers tag (row_start counts tag row)) false
passes Mdq source counts numbers tag row = not (starved numbers tag (row_start counts tag row))

unfoldable pub fault : Source → Counts → (ℕ → ℕ) → Tag → ℕ → Found
fault source counts numbers tag row =
    cond (passes Bounds source counts numbers tag row)
    (cond (passes Key source counts numbers tag row)
    (cond (passes Mdq source counts numbers tag row) (Ok tt) (Err Fault.Mdq))
    (Err Fault.Key))
    (Err Fault.Beyond)

-- the lowest row of a table that fails a test, or the number of rows
abbrev pub first_failing : Test → Counts → (ℕ → ℕ) → Tag → ℕ
first_failing test counts numbers tag = first (count counts tag) (λ row. not (passes test File counts numbers tag row))
