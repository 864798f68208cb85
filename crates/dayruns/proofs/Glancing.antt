-- A row that is laid again is laid as it was, so a field that is not seen to be sound can be taken afresh.
use mathlib.Core.Path.{◌≡◌, ap, ap₂, sym, ◌∙◌}
use mathlib.Core.Bool.{Bool, true, false, cond, true≢false}
use mathlib.Core.List.{List, ◌++◌, append_assoc}
use mathlib.Core.Logic.{⊎_elim}
use Prim.Native.Nat.{ℕ, ◌+◌, ◌≤◌}
use native.Mathlib.Omega.{arith}
use Rattle.std.specs.Prelude.{Ok}
use lib.Dec.{ltb}
use lib.ListN.{length, take, drop, length-append}
use lib.Seq.{sets, sets-eq, length-sets, length-take-le, take_at, drop_at}
use Rattle.columns.specs.Column.{col}
use Rattle.columns.proofs.Lists.{length-listed}
use Rattle.bigendian.specs.Row.{decode}
use Rattle.bigendian.proofs.Rows.{length-decode}
use Rattle.dayformat.specs.declared.form.Tag.{Tag}
use Rattle.dayformat.specs.declared.layout.Counts.{Counts}
use Rattle.dayformat.specs.Format.{widths, form}
use Rattle.dayformat.specs.Layout.{row_start}
use Rattle.dayrows.specs.declared.Source.{Source}
use Rattle.dayrows.specs.declared.Source.TheVariants.{File}
use Rattle.dayrows.specs.declared.Test.{Test}
use Rattle.dayrows.specs.declared.Test.TheVariants.{Bounds, Key, Mdq}
use Rattle.dayrows.specs.Fault.{Found}
use Rattle.dayrows.specs.Test.{bounded, capped, rises, named, passes, fault}
use Rattle.dayrows.specs.Whole.{with_row}
use Rattle.dayrows.proofs.Faults.{none-fault}
use Rattle.dayrows.proofs.Within.{both}
use Rattle.dayfields.specs.Field.{Taken}
use Rattle.dayfields.proofs.Taking.{taken-whole}
use Rattle.dayruns.specs.Private.{Ready, orderly, RowRead, Glanced}

-- ---- numbers laid twice
module _ (vs l : List ℕ) (i : ℕ) (room : i + length vs ≤ length l) where
  ahead : length (take i l) ≡ i
  ahead = length-take-le i l (omega (arith, room))

  start_twice : take i (sets l i vs) ≡ take i l
  start_twice =
      ap (take i) (sets-eq vs l i room ∙ append_assoc (take i l) vs (drop (i + length vs) l))
      ∙ take_at (take i l) (vs ++ drop (i + length vs) l) i ahead

  rest_twice : drop (i + length vs) (sets l i vs) ≡ drop (i + length vs) l
  rest_twice =
      ap (drop (i + length vs)) (sets-eq vs l i room)
      ∙ drop_at (take i l ++ vs) (drop (i + length vs) l) (i + length vs) (omega (arith, ahead, length-append (take i l) vs))

  sets_twice : sets (sets l i vs) i vs ≡ sets l i vs
  sets_twice =
      sets-eq vs (sets l i vs) i (omega (arith, room, length-sets l i vs))
      ∙ ap₂ (λ start rest. start ++ vs ++ rest) start_twice rest_twice
      ∙ sym (sets-eq vs l i room)

-- ---- a row that passes every test but those of its names and its caps is sound where they are listed and it keeps under them
keyed : (counts : Counts) (f : ℕ → ℕ) (tag : Tag) (row : ℕ) → rises counts f tag row ≡ true
    → named counts f tag (row_start counts tag row) ≡ true → passes Key File counts f tag row ≡ true
unfolding passes
keyed counts f tag row risen known = rw (risen, known)

kept_under : (counts : Counts) (f : ℕ → ℕ) (tag : Tag) (row : ℕ)
    → cond (ltb row (form tag).most) (bounded f tag (row_start counts tag row)) false ≡ true
    → capped counts f tag (row_start counts tag row) ≡ true → passes Bounds File counts f tag row ≡ true
unfolding passes
kept_under counts f tag row e under = let inside = both (ltb row (form tag).most) _ e in rw (inside.0, inside.1, under)

sound-named : (counts : Counts) (f : ℕ → ℕ) (tag : Tag) (row : ℕ) → orderly counts f tag row ≡ true
    → named counts f tag (row_start counts tag row) ≡ true → capped counts f tag (row_start counts tag row) ≡ true
    → fault File counts f tag row ≡ Ok tt
unfolding orderly
sound-named counts f tag row e known under =
    let bounds = both _ _ e in
    let rest = both _ _ bounds.1 in
    none-fault File counts f tag row (by bounds.0 rest.0 rest.1)
  where
    by : cond (ltb row (form tag).most) (bounded f tag (row_start counts tag row)) false ≡ true
        → rises counts f tag row ≡ true → passes Mdq File counts f tag row ≡ true
        → (test : Test) → passes test File counts f tag row ≡ true
    by within risen fed Bounds = kept_under counts f tag row within under
    by within risen fed Key = keyed counts f tag row risen known
    by within risen fed Mdq = fed

-- ---- a glance
module _ (source : Source) (counts : Counts) (file : List ℕ) (tag : Tag) (at row : ℕ) (lent : List ℕ) where
  -- nothing done
  pub unseen : Glanced source counts file tag at row lent lent false
  unseen = record { sure = λ no. absurd (true≢false (sym no)); again = λ T. T }

  -- a row laid again
  module _ (ready : Ready file tag at (row_start counts tag row) (length lent)) where
    same : with_row counts file tag at row (with_row counts file tag at row lent) ≡ with_row counts file tag at row lent
    same =
        let numbers = decode (widths tag) (drop (at + 3) file) in
        let long : length numbers ≡ (form tag).columns = length-decode (widths tag) _ ∙ length-listed _ _ in
        sets_twice numbers lent (row_start counts tag row) (omega (arith, ready.1, long))

    afresh : {last : List ℕ} {found : Found} → Taken source counts file tag at row (with_row counts file tag at row lent) last found
        → Taken source counts file tag at row lent last found
    afresh {last} {found} T =
        let there : last ≡ with_row counts file tag at row lent = T.lays ∙ rw (ready.0, same) in
        taken-whole source counts file tag at row lent ready.0 there (T.answers ∙ rw (ready.0, same, there))

  module _ {after : List ℕ} {kept : Bool} (R : RowRead counts file tag at row lent after kept) where
    -- a row is laid as it was, or the numbers are left alone
    again : {last : List ℕ} {found : Found} → Taken source counts file tag at row after last found
        → Taken source counts file tag at row lent last found
    again {last} {found} T =
        ⊎_elim (λ left. rw left at T) (λ laid. afresh laid.0 (rw laid.1 at T)) R.lays

    -- what is seen of a row besides
    abbrev Seen : Type 0
    Seen =
        (kept ≡ true)
        × (source ≡ File)
        × (named counts (col after) tag (row_start counts tag row) ≡ true)
        × (capped counts (col after) tag (row_start counts tag row) ≡ true)

    pub glanced : {sound : Bool} → (sound ≡ true → Seen) → Glanced source counts file tag at row lent after sound
    glanced tells = record { sure = λ yes. sure (tells yes); again = again }
      where
        sure : Seen → Taken source counts file tag at row lent after (Ok tt)
        sure seen =
            let read = R.keeps seen.0 in
            let none = sound-named counts (col after) tag row read.2 seen.2 seen.3 in
            taken-whole source counts file tag at row lent read.0.0 read.1 (rw seen.1 (sym none))

    -- a row laid, and no more said of it
    pub unsure : Glanced source counts file tag at row lent after false
    unsure = glanced (λ no. absurd (true≢false (sym no)))
