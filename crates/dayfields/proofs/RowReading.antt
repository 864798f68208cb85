-- The numbers of a body laid into a list one after another.
use mathlib.Core.Path.{◌≡◌, ap, sym, ◌∙◌}
use mathlib.Core.List.{List}
use Prim.Native.Nat.{ℕ, ◌+◌, ◌≤◌, ◌<◌, min}
use native.Mathlib.Nat.{add-zero, add-suc}
use native.Mathlib.Numerals.{add-one}
use native.Mathlib.Omega.{arith}
use lib.ListN.{length, take, drop, set, length-set, drop_of_length-le}
use lib.Seq.{sets, drop-cons, drop-drop}
use Rattle.columns.specs.Column.{col}
use Rattle.columns.proofs.Lists.{length-listed, col-listed}
use Rattle.columns.proofs.Laying.{Laying, laying_none}
use Rattle.bigendian.specs.Number.{value, widest}
use Rattle.bigendian.specs.Row.{decode}
use Rattle.dayformat.specs.declared.form.Tag.{Tag}
use Rattle.dayformat.specs.declared.body.Column.{Column}
use Rattle.dayformat.specs.Format.{body, column_in, widths, form}
use Rattle.dayformat.proofs.Small.{narrow}

module _ (tag : Tag) (file : List ℕ) (at : ℕ) (lent : List ℕ) (to : ℕ) where
  -- the numbers from `place` on are still to lay, out of the bytes from `byte` on
  abbrev pub Reads : ℕ → ℕ → List ℕ → Type 0
  Reads place byte list =
      Laying (decode (widths tag) (drop at file)) lent to (decode (drop place (widths tag)) (drop byte file)) list (to + place)

  pub reads_none : Reads 0 at lent
  reads_none = rw add-zero laying_none

  module _ (place byte : ℕ) {list : List ℕ} (L : Reads place byte list) where
    pub reads_next : {column : Column} {number : ℕ} {after : List ℕ} → place < (form tag).columns → column ≡ column_in (body tag) place
        → number ≡ value (take (min column.width widest) (drop byte file)) → after ≡ set list (to + place) number
        → Reads (place + 1) (byte + column.width) after
    unfolding decode
    reads_next {column} l is n e =
        let here : col (widths tag) place ≡ column.width = col-listed _ _ place l ∙ ap (λ c. c.width) (sym is) in
        let all : min column.width widest ≡ column.width = omega (arith, narrow tag place, ap (λ c. c.width) is) in
        let there = drop-cons (widths tag) place 0 (rw length-listed l) in
        record {
          finishes = rw (e, n, all, add-one, add-suc, ← drop-drop, ← here) (rw there at L.finishes);
          long = ap length e ∙ length-set list (to + place) _ ∙ L.long;
        }

    pub reads_all : (form tag).columns ≤ place → list ≡ sets lent to (decode (widths tag) (drop at file))
    unfolding decode
    reads_all h =
        let none : length (widths tag) ≤ place = rw length-listed h in
        rw (drop_of_length-le (widths tag) none) at L.finishes
