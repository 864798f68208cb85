-- The fields of a table as they are written, read back: the run has all of them and no fault, and the same rows.
use mathlib.Core.Path.{◌≡◌, ap, sym, ◌∙◌}
use mathlib.Core.Logic.{⊎_elim}
use mathlib.Core.Bool.{true, false}
use mathlib.Core.List.{List, ◌++◌, append_assoc}
use Prim.Native.Nat.{ℕ, suc, ◌+◌, ◌-◌, ◌≤◌, ◌<◌}
use native.Mathlib.Nat.{eq-or-lt_of_le}
use native.Mathlib.Omega.{arith}
use lib.ListN.{length, length-append}
use Rattle.std.specs.Prelude.{Ok}
use Rattle.columns.specs.Column.{joined}
use Rattle.columns.proofs.Firsts.{first_found, first-none}
use Rattle.columns.proofs.Joined.{joined_same, joined-split, length-joined}
use Rattle.bigendian.specs.Row.{Fit}
use Rattle.dayformat.specs.Format.{widths, field_size, form, field}
use Rattle.dayformat.proofs.Sizes.{length-field}
use Rattle.dayrows.specs.Test.{fault}
use Rattle.dayrows.proofs.Breaking.{Whole, whole-none}
use Rattle.dayruns.specs.Run.{Fields, place_of, row_of, rows_of, field_fault, begun, stops, run_rows, run_of}
use Rattle.dayfile.proofs.Apart.{Apart, begun-apart, whole-begun}
use Rattle.dayfile.proofs.FieldsThere.{whole-there, row-there}

-- a table's fields in a file: what stands ahead of them and after them
pub record Written (F : Fields) : Type 0 where
  pub row : ℕ → List ℕ
  pub many : ℕ
  pub ahead : List ℕ
  pub rest : List ℕ
  pub is : F.file ≡ ahead ++ (joined many (λ i. field F.tag (row i)) ++ rest)
  pub here : length ahead ≡ F.at
  pub each : (i : ℕ) → length (row i) ≡ (form F.tag).columns
  pub fits : (i : ℕ) → i < many → Fit (widths F.tag) (row i)
  pub few : many ≤ (form F.tag).most
  pub apart : Apart (form F.tag).byte rest

module _ (F : Fields) (W : Written F) where
  abbrev fields_of : ℕ → List ℕ
  fields_of i = field F.tag (W.row i)

  -- so many fields and what stands ahead of them reach up to the next field's place
  reaches : (i : ℕ) → length (W.ahead ++ joined i fields_of) ≡ place_of F i
  reaches i =
      omega (
        arith,
        length-append W.ahead (joined i fields_of),
        length-joined fields_of (field_size F.tag) (λ i. length-field F.tag (W.row i) (W.each i)) i,
        W.here,
      )

  module _ (i : ℕ) (l : i < W.many) where
    abbrev ahead_of : List ℕ
    ahead_of = W.ahead ++ joined i fields_of

    abbrev rest_of : List ℕ
    rest_of = joined (W.many - suc i) (λ k. fields_of (i + suc k)) ++ W.rest

    split : F.file ≡ ahead_of ++ (fields_of i ++ rest_of)
    split =
        let all : i + suc (W.many - suc i) ≡ W.many = omega (arith, l) in
        W.is
        ∙ ap (λ n. W.ahead ++ (joined n fields_of ++ W.rest)) (sym all)
        ∙ ap (λ middle. W.ahead ++ (middle ++ W.rest)) (joined-split fields_of i (W.many - suc i))
        ∙ ap (λ list. W.ahead ++ list) (append_assoc (joined i fields_of)
        (fields_of i ++ joined (W.many - suc i) (λ k. fields_of (i + suc k))) W.rest)
        ∙ sym (append_assoc W.ahead (joined i fields_of)
        (fields_of i ++ joined (W.many - suc i) (λ k. fields_of (i + suc k)) ++ W.rest))
        ∙ ap (λ list. ahead_of ++ list) (append_assoc (fields_of i) (joined (W.many - suc i) (λ k. fields_of (i + suc k))) W.rest)

    whole_at : Whole F.file F.tag (place_of F i)
    whole_at = rw (split, ← reaches i) (whole-there F.tag (W.row i) (W.fits i l) ahead_of rest_of)

    pub row-again : row_of F i ≡ W.row i
    row-again = rw (split, ← reaches i) (row-there F.tag (W.row i) (W.fits i l) ahead_of rest_of)

  pub rows-again : (m : ℕ) → m ≤ W.many → rows_of F m ≡ joined m W.row
  rows-again m l = joined_same m (row_of F) W.row (λ i k. row-again i (omega (arith, k, l)))

  -- after the last field no other of the tag begins
  over : begun F.file F.tag (place_of F W.many) ≡ false
  over =
      ap (begun F.file F.tag) (sym (reaches W.many))
      ∙ ap (λ file. begun file F.tag (length (W.ahead ++ joined W.many fields_of)))
      (W.is ∙ sym (append_assoc W.ahead (joined W.many fields_of) W.rest))
      ∙ begun-apart (W.ahead ++ joined W.many fields_of) W.rest F.tag W.apart

  module _ (read : ℕ → ℕ → ℕ)
      (sound : (i : ℕ) → i < W.many → fault F.source F.counts (read (suc i)) F.tag i ≡ Ok tt) where
    goes_on : (i : ℕ) → i < W.many → stops F read i ≡ false
    unfolding stops field_fault
    goes_on i l =
        rw (
          whole-begun F.file F.tag (place_of F i) (whole_at i l),
          whole-none F.file F.tag (place_of F i) (whole_at i l),
          sound i l,
        )

    stops-there : stops F read W.many ≡ true
    unfolding stops
    stops-there = rw over

    rows_all : run_rows F read ≡ W.many
    rows_all =
        ⊎_elim (λ e. ap (λ n. run_rows F read) e ∙ first-none (stops F read) (form F.tag).most
        (λ i l. goes_on i (omega (arith, l, e))) ∙ sym e)
        (λ l. first_found (stops F read) (form F.tag).most W.many l goes_on stops-there)
        (eq-or-lt_of_le W.few)

    pub run-again : run_of F read ≡ record { rows = W.many; place = place_of F W.many; found = Ok tt }
    run-again = rw (rows_all, over)
