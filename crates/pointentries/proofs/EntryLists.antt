-- A list of one side's entries: what its walk finds, and what acceptance says of it.
use Rattle.std.specs.Prelude.{Ok}
use mathlib.Core.Path.{◌≡◌, refl, ap, sym, ◌∙◌}
use mathlib.Core.List.{List, []}
use Prim.Native.Nat.{ℕ, zero, suc, ◌*◌, ◌≤◌, ◌<◌}
use native.Mathlib.Omega.{arith}
use lib.Dec.{leb, ltb}
use lib.ListN.{length, replicate, length-replicate}
use Rattle.columns.specs.Column.{col}
use Rattle.columns.specs.Sum.{sum}
use Rattle.columns.proofs.Firsts.{first_le, first-before}
use Rattle.units.specs.Refusals.{◌then◌, keep, Check}
use Rattle.units.proofs.Checks.{both-accepted}
use Rattle.dayformat.specs.declared.form.Tag.TheVariants as Tag
use Rattle.dayformat.proofs.Sizes.{entry-size}
use Rattle.dayrows.proofs.Breaking.{broken-none}
use Rattle.dayruns.specs.declared.run.Run.{Run}
use Rattle.dayruns.specs.declared.walk.Walk.{Walk}
use Rattle.dayruns.specs.Run.{Fields, place_of, rows_of, field_fault, stops, run_of, laid, Ran}
use Rattle.dayruns.specs.Walk.{walk_after, ended, file_check}
use Rattle.dayruns.proofs.Running.{field-none, goes_sound, ran_sound}
use Rattle.dayruns.proofs.Runs.{run-same, run-front}
use Rattle.dayruns.proofs.Fronts.{front-none}
use Rattle.dayruns.proofs.Ending.{ended-none, faultless}
use Rattle.pointentries.specs.Entries.{entries, entry_run, entry_rows, unread, entry_walk, list_check}
use Rattle.pointentries.specs.Private.{EntriesWalked, ListChecked, most_entry_numbers}

module _ (list : List ℕ) (side : ℕ) where
  abbrev F : Fields
  F = entries list side

  abbrev read : ℕ → ℕ → ℕ
  read many = col (rows_of F many)

  -- a list has at most 512 sound entries, one after another from its first byte on
  pub rows_few : entry_rows list side ≤ 512
  rows_few = first_le (stops F read) 512

  pub place_is : (row : ℕ) → place_of F row ≡ row * 12
  place_is row = rw entry-size (omega arith)

  -- ---- among zeros the rows are tested as if they stood by themselves
  module _ {lent : List ℕ} (empty : lent ≡ replicate most_entry_numbers 0) where
    among_zeros : (many : ℕ) → many ≤ 512 → col (laid F lent many) ≡ read many
    unfolding sum
    among_zeros =
        run-front F [] lent (ap col empty ∙ front-none most_entry_numbers) refl
        (omega (arith, ap length empty, length-replicate {A = ℕ} most_entry_numbers 0))

    run_is : run_of F (λ many. col (laid F lent many)) ≡ entry_run list side
    run_is = run-same F (λ many. col (laid F lent many)) read among_zeros

    pub entries-walked : {after : List ℕ} {run : Run} {walk : Walk} → Ran F lent after run
        → walk ≡ ended list (walk_after unread Tag.Entry run) → EntriesWalked list side after walk
    entries-walked {after} {run} {walk} R e =
        let same : run ≡ entry_run list side = R.answers ∙ run_is in
        record {
          answers = e ∙ ap (λ run. ended list (walk_after unread Tag.Entry run)) same;
          holds = λ none.
              let sound = (ended-none list (walk_after unread Tag.Entry run) (ap (λ walk. walk.found) (sym e) ∙ none)).0 in
              ap col (ran_sound F lent R sound)
              ∙ among_zeros run.rows (rw same rows_few)
              ∙ ap (λ run. read run.rows) same;
        }

  -- ---- every row before the run's end is sound
  pub rows-sound : (row : ℕ) → row < entry_rows list side → field_fault F read row ≡ Ok tt
  rows-sound row l = goes_sound F read row (first-before (stops F read) 512 row l)

  -- the last sound entry ends within the list
  rows-within : entry_rows list side * 12 ≤ length list
  rows-within = by (entry_rows list side) refl
    where
      by : (rows : ℕ) → entry_rows list side ≡ rows → rows * 12 ≤ length list
      by zero e = omega arith
      by (suc row) e =
          let W = broken-none list Tag.Entry (place_of F row) (field-none F read row (rows-sound row (omega (arith, e)))).0 in
          omega (arith, W.there, place_is row, entry-size)

  -- ---- an accepted list has no fault, and nothing follows its last entry
  pub record SoundList : Type 0 where
    pub faultless : (entry_walk list side).found ≡ Ok tt
    pub whole : length list ≡ entry_rows list side * 12

  module _ (point : ℕ) where
    pub accepted-sound : list_check list side point ≡ Ok tt → SoundList
    unfolding list_check
    accepted-sound e =
        let none = faultless (entry_walk list side) (both-accepted _ _ e).1 in
        let ends = (ended-none list (walk_after unread Tag.Entry (entry_run list side)) none).1 in
        record { faultless = none; whole = omega (arith, ends, rows-within, place_is (entry_rows list side)) }

    pub list-checked : {after : List ℕ} {walk : Walk} {check : Check} → EntriesWalked list side after walk
        → check ≡ (Ok tt then keep (leb side 1) 3 then keep (ltb 0 point) 3 then file_check walk)
        → ListChecked list side point after check
    unfolding list_check
    list-checked {check = check} W e =
        let is : check ≡ list_check list side point = rw (← W.answers) e in
        record { answers = is; holds = λ accepted. W.holds (rw W.answers (accepted-sound (sym is ∙ accepted)).faultless) }
