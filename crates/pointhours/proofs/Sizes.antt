-- How long a point's lines can be: its hour is shared among at most 64, and a refusal has one of 01's numbers and one of 64 rows.
use Rattle.std.specs.Prelude.{Ok, Err}
use mathlib.Core.Path.{◌≡◌, refl}
use mathlib.Core.List.{List, [], ◌∷◌}
use Prim.Native.Nat.{ℕ, ◌≤◌, ◌<◌}
use native.Mathlib.Nat.{le_refl}
use native.Mathlib.Omega.{arith}
use lib.ListN.{length}
use Rattle.columns.specs.Column.{listed}
use Rattle.columns.proofs.Lists.{length-listed}
use Rattle.units.specs.declared.refusal.Refusal.{Refusal}
use Rattle.units.specs.Bound.{most_hour}
use Rattle.pointshares.specs.Share.{hour_shares}
use Rattle.pointshares.specs.Answer.{hour_check}
use Rattle.pointshares.proofs.Accepting.{accepting}
use Rattle.pointshares.proofs.Cases.{share-most}
use Rattle.pointshares.proofs.Decided.{hour_numbered, hour-placed}
use Rattle.lines.specs.Line.{line, decimals, refused}
use Rattle.lines.proofs.Sizes.{line-none, line-within, figure-within}
use Rattle.lines.proofs.Texts.{texts_most}
use Rattle.pointhours.specs.HourText.{share_lines, hour_lines}
use Rattle.units.specs.Refusals.{Check}

-- ---- the hour's own refusal
refused-most : (refusal : Refusal) → refusal.number ≤ 11 → refusal.place ≤ 63 → length (refused refusal) ≤ 15
refused-most refusal n p =
    line-within _ _ (le_refl 7)
    (figure-within 1 refusal.number _ (omega arith) (figure-within 1 refusal.place _ (omega arith) line-none))

-- ---- a line of shipper and share
share-line-most : (shipper share : ℕ) → shipper ≤ 65_535 → share ≤ most_hour → length (line (decimals (shipper ∷ share ∷ []))) ≤ 17
share-line-most shipper share s l =
    figure-within 4 shipper _ (omega arith) (figure-within 8 share _ (omega arith) line-none)

-- 64 such lines
module _ (capacity many : ℕ) (shipper entitlement mdq : ℕ → ℕ) (named : (entry : ℕ) → entry < many → shipper entry ≤ 65_535) where
  abbrev E : List ℕ
  E = listed many entitlement

  abbrev M : List ℕ
  M = listed many mdq

  lines-most : (found : Check) → hour_check capacity E M (length E) ≡ found
      → length (share_lines found many shipper (hour_shares E M capacity)) ≤ 1_088
  lines-most (Ok tt) e =
      let R = (accepting capacity E M (length E) e).shareable in
      omega (
        arith,
        texts_most (λ entry. line (decimals (shipper entry ∷ hour_shares E M capacity entry ∷ []))) 17 many
            (λ entry l. share-line-most (shipper entry) _ (named entry l) (share-most R entry (rw length-listed l))),
        R.rows.few,
        length-listed many entitlement,
      )
  lines-most (Err refusal) e =
      omega (
        arith,
        refused-most refusal (hour_numbered capacity E M (length E) refusal e).most (hour-placed capacity E M (length E) refusal e),
      )

  pub hour-most : length (hour_lines capacity many shipper entitlement mdq) ≤ 1_088
  hour-most = lines-most (hour_check capacity E M (length E)) refl
