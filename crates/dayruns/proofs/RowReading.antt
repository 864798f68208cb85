-- A row that is read stands at its place, and what its bounds, its order and its schedules say together is what the definition asks.
use mathlib.Core.Path.{◌≡◌, refl, ap, sym, ◌∙◌}
use mathlib.Core.Bool.{Bool, true, false, cond, not, true≢false}
use mathlib.Core.List.{List}
use mathlib.Core.Logic.{inl, inr, ⊎_elim}
use Prim.Native.Nat.{ℕ, ◌+◌, ◌≤◌}
use native.Mathlib.Omega.{arith}
use lib.Dec.{ltb}
use lib.ListN.{length, drop}
use lib.Seq.{length-sets}
use Rattle.columns.specs.Column.{col}
use Rattle.bigendian.specs.Row.{decode}
use Rattle.dayformat.specs.declared.form.Tag.{Tag}
use Rattle.dayformat.specs.declared.layout.Counts.{Counts}
use Rattle.dayformat.specs.Format.{widths, form}
use Rattle.dayformat.specs.Layout.{row_start}
use Rattle.dayrows.specs.Test.{bounded, rises, starved, passes}
use Rattle.dayrows.proofs.Breaking.{broken-none}
use Rattle.dayrows.proofs.Within.{both}
use Rattle.dayruns.specs.Private.{Placed, BodyRoom, BodyRead, Ready, orderly, RowRead}

-- a place told of a tag by another name
pub placed_as : (counts : Counts) {tag other : Tag} (row to : ℕ) → tag ≡ other → Placed counts tag row to → Placed counts other row to
placed_as counts row to is placed = rw is at placed

-- a field that is ready has its body behind its header
pub ready-room : (file : List ℕ) (tag : Tag) (at to : ℕ) (kept : Bool) (lent : List ℕ) → Ready file tag at to (length lent)
    → BodyRoom tag file (record { byte = at + 3; to = to; kept = kept }) lent
ready-room file tag at to kept lent ready = (omega (arith, (broken-none file tag at ready.0).there), ready.1)

-- the tests of a row, in the order in which they are found out
orderly_by : (counts : Counts) (f : ℕ → ℕ) (tag : Tag) (row : ℕ) → bounded f tag (row_start counts tag row) ≡ true
    → cond (ltb row (form tag).most) (rises counts f tag row) false ≡ true
    → not (starved f tag (row_start counts tag row)) ≡ true
    → orderly counts f tag row ≡ true
unfolding orderly passes
orderly_by counts f tag row inside next fed =
    let follows = both (ltb row (form tag).most) (rises counts f tag row) next in
    rw (follows.0, inside, follows.1, fed)

-- ---- a row that is read, where its field is ready
module _ (counts : Counts) (file : List ℕ) (tag : Tag) (at row : ℕ) (lent : List ℕ) where
  -- nothing done
  pub unread : RowRead counts file tag at row lent lent false
  unread = record { lays = inl refl; keeps = λ no. absurd (true≢false (sym no)) }

  module _ {to : ℕ} (here : to ≡ row_start counts tag row) (ready : Ready file tag at to (length lent))
      {after : List ℕ} {kept : Bool} (B : BodyRead file tag (record { byte = at + 3; to = to; kept = true }) lent after kept) where
    stands : Ready file tag at (row_start counts tag row) (length lent)
    stands = rw (← here) ready

    pub row_read : {next fed said : Bool} → next ≡ cond (ltb row (form tag).most) (rises counts (col after) tag row) false
        → fed ≡ not (starved (col after) tag to) → said ≡ cond kept (cond next fed false) false
        → RowRead counts file tag at row lent after said
    row_read n f s =
        record {
          lays = ⊎_elim inl (λ laid. inr (stands, rw (← here) laid)) B.lays;
          keeps = λ e.
              let passed = both _ _ (sym s ∙ e) in
              let rest = both _ _ passed.1 in
              let body = B.keeps passed.0 in (
                stands,
                rw (← here) body.0,
                orderly_by counts (col after) tag row (rw (← here) body.1) (sym n ∙ rest.0) (rw (← here) (sym f ∙ rest.1)),
              );
        }

    -- a row that has no schedules
    pub row_plain : {next said : Bool} → next ≡ cond (ltb row (form tag).most) (rises counts (col after) tag row) false
        → starved (col after) tag to ≡ false → said ≡ cond kept next false → RowRead counts file tag at row lent after said
    row_plain {next} n none s = row_read n (rw none) (s ∙ ap (λ more. cond kept more false) (alone next))
      where
        alone : (risen : Bool) → risen ≡ cond risen true false
        alone true = refl
        alone false = refl

-- a row that is kept lies within the numbers
pub row_room : {counts : Counts} {file : List ℕ} {tag : Tag} {at row : ℕ} {lent after : List ℕ} {kept : Bool}
    → RowRead counts file tag at row lent after kept → kept ≡ true → row_start counts tag row + (form tag).columns ≤ length after
row_room {counts} {file} {tag} {at} {row} {lent} R e =
    let read = R.keeps e in
    let long = length-sets lent (row_start counts tag row) (decode (widths tag) (drop (at + 3) file)) in
    omega (arith, read.0.1, ap length read.1, long)
