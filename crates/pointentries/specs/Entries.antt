-- 01, "An hour at a point": the entries of one point, a part of the receipt list or of the delivery list.
use Rattle.std.specs.Prelude.{◌≡◌, Bool, not, List, ℕ, zero, suc, ◌+◌, ◌-◌, ◌*◌, leb, ltb, eqb, length, take, drop, Ok}
use Rattle.std.specs.Borrow.{Bor}
use Rattle.columns.specs.Column.{col}
use Rattle.columns.specs.First.{first}
use Rattle.units.specs.Refusals.{accepted_or, ◌then◌, keep, Check}
use Rattle.dayformat.specs.declared.form.Tag.TheVariants as Tag
use Rattle.dayformat.specs.Format.{field_size}
use Rattle.dayformat.specs.Layout.{no_rows}
use Rattle.dayrows.specs.declared.Source.TheVariants as Source
use Rattle.dayruns.specs.declared.run.Run.{Run}
use Rattle.dayruns.specs.declared.walk.Walk.{Walk}
use Rattle.dayruns.specs.Run.{Fields, row_of, rows_of, run_of}
use Rattle.dayruns.specs.Walk.{walk_after, ended, file_check}

-- a run of tag 4 fields of one side; names aren't looked up
abbrev pub entries : List ℕ → ℕ → Fields
entries list side = record { source = Source.Side side; counts = no_rows; file = list; at = 0; tag = Tag.Entry }

abbrev pub entry_run : List ℕ → ℕ → Run
entry_run list side = run_of (entries list side) (λ many. col (rows_of (entries list side) many))

-- how many sound entries there are, and the first fault or what follows them
abbrev pub entry_rows : List ℕ → ℕ → ℕ
entry_rows list side = (entry_run list side).rows

abbrev pub unread : Walk
unread = record { found = Ok tt; place = 0; counts = no_rows }

abbrev pub entry_walk : List ℕ → ℕ → Walk
entry_walk list side = ended list (walk_after unread Tag.Entry (entry_run list side))

-- 3 for a side above 1 or point 0, before the list; then the list's first faulty field
unfoldable pub list_check : List ℕ → ℕ → ℕ → Check
list_check list side point =
    Ok tt
    then keep (leb side 1) 3
    then keep (ltb 0 point) 3
    then file_check (entry_walk list side)

-- ---- the run of the point's entries
abbrev pub is_of : List ℕ → ℕ → ℕ → ℕ → Bool
is_of list side point row = eqb (col (row_of (entries list side) row) 1) point

abbrev pub first_entry : List ℕ → ℕ → ℕ → ℕ
first_entry list side point = first (entry_rows list side) (is_of list side point)

-- how many entries from there on are the point's
abbrev pub many_entries : List ℕ → ℕ → ℕ → ℕ
many_entries list side point =
    first (entry_rows list side - first_entry list side point) (λ more. not (is_of list side point (first_entry list side point + more)))

-- a list that is faulty, or lacks the point, has the empty part at its end
unfoldable pub start_in : List ℕ → ℕ → ℕ → ℕ
start_in list side point = accepted_or (list_check list side point) (first_entry list side point * field_size Tag.Entry) (length list)

unfoldable pub long_in : List ℕ → ℕ → ℕ → ℕ
long_in list side point = accepted_or (list_check list side point) (many_entries list side point * field_size Tag.Entry) 0

-- ---- of the two lists, the one that is asked for; a side above 1 has the receipt list
abbrev pub asked {ℓ} : {X : Type ℓ} → ℕ → X → X → X
asked zero receipt delivery = receipt
asked (suc zero) receipt delivery = delivery
asked (suc (suc side)) receipt delivery = receipt

abbrev pub entries_check : List ℕ → List ℕ → ℕ → ℕ → Check
entries_check receipt delivery side point = list_check (asked side receipt delivery) side point

abbrev pub part_start : List ℕ → List ℕ → ℕ → ℕ → ℕ
part_start receipt delivery side point = start_in (asked side receipt delivery) side point

abbrev pub part_long : List ℕ → List ℕ → ℕ → ℕ → ℕ
part_long receipt delivery side point = long_in (asked side receipt delivery) side point

-- the part: its bytes, in which list it is, and where it starts there
pub record Part (list part : Bor (List ℕ)) (start long : ℕ) : Type 0 where
  pub bytes : part.now ≡ take long (drop start list.now)
  pub block : part.ref_ptr.0 ≡ list.ref_ptr.0
  pub starts : part.ref_ptr.1 ≡ list.ref_ptr.1 + start
