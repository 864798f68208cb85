-- What a caller reads out of a number is the answer that was packed: the digits of kind, number and figure do not meet, 01's numbers
-- have two digits, and a place and a figure that are bounded have fifteen.
use Rattle.std.specs.Prelude.{Ok, Err}
use mathlib.Core.Path.{◌≡◌, refl, ap, ◌∙◌}
use Prim.Native.Nat.{ℕ, ◌≤◌}
use native.Mathlib.Omega.{arith}
use Rattle.units.specs.declared.refusal.Refusal.{Refusal}
use Rattle.units.specs.Verdict.{Verdict, Decided}
use Rattle.units.proofs.Places.{PlacedTo}
use Rattle.cormcushion.specs.Packed.{accepted, refused, packed_check, Unpacks}
use Rattle.units.specs.Refusals.{Check}

-- the greatest that fifteen digits hold
abbrev pub most_figure : ℕ
most_figure = 999_999_999_999_999

-- an answer that the tests decide, with places and a figure that fit
module _ {Figures : Type 0} {found : Check} {worked_out zeros : Figures} {verdict : Verdict Figures}
    (D : Decided found worked_out zeros verdict) (figure : Figures → ℕ) {most : ℕ} (placed : PlacedTo most found)
    (few : most ≤ most_figure) (small : found ≡ Ok tt → figure worked_out ≤ most_figure) where
  by_cases : (is : Check) → found ≡ is → Unpacks (packed_check is (figure worked_out)) verdict figure
  by_cases (Ok _) e =
      let says = D.accepted e in
      let fits = small e in
      record {
        of_kind = omega (arith, fits);
        of_number = omega (arith, fits, says.0);
        of_figure = λ zero. rw says.2 (omega (arith, fits));
        of_place = λ some. absurd (some says.0);
      }
  by_cases (Err refusal) e =
      let says = D.refused refusal e in
      let fits = placed refusal e in
      record {
        of_kind = omega (arith, fits, few, says.3.most);
        of_number = omega (arith, fits, few, says.0, says.3.most);
        of_figure = λ zero. absurd (omega (arith, says.0, says.3.least));
        of_place = λ some. omega (arith, fits, few, says.1);
      }

  pub found_reads : {packed : ℕ} → packed ≡ packed_check found (figure worked_out) → Unpacks packed verdict figure
  found_reads e = rw e (by_cases found refl)

  -- the same where it is packed by its own cases
  pub answer_reads : {Answer : Type 0} (answer : Check → Figures → Answer) (pack : Answer → ℕ)
      → pack (answer (Ok tt) worked_out) ≡ accepted (figure worked_out)
      → ((refusal : Refusal) → pack (answer (Err refusal) worked_out) ≡ refused refusal)
      → {given : Answer} {packed : ℕ} → given ≡ answer found worked_out → packed ≡ pack given → Unpacks packed verdict figure
  answer_reads answer pack accepts refuses is packs = found_reads (packs ∙ ap pack is ∙ by found)
    where
      by : (found : Check) → pack (answer found worked_out) ≡ packed_check found (figure worked_out)
      by (Ok _) = accepts
      by (Err refusal) = refuses refusal
