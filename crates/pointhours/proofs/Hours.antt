-- What is shared of an hour makes a point's lines: the shares' front, or the refusal.
use Rattle.std.specs.Prelude.{Result, Ok, Err}
use mathlib.Core.Path.{◌≡◌, refl, ap, sym, ◌∙◌, subst}
use mathlib.Core.List.{List, [], ◌∷◌}
use Prim.Native.Nat.{ℕ, ◌≤◌, ◌<◌}
use native.Mathlib.Nat.{le_refl}
use native.Mathlib.Omega.{arith}
use borrow.Author.Tests.{le-leb}
use lib.ListN.{length, take, replicate, length-replicate}
use lib.Seq.{sets}
use Rattle.columns.specs.Column.{col, listed}
use Rattle.columns.proofs.Lists.{length-listed, col-sets, made-part, made-long}
use Rattle.columns.proofs.Joined.{joined_same}
use Rattle.units.specs.declared.Megajoules.{Megajoules}
use Rattle.units.specs.declared.refusal.Refusal.{Refusal}
use Rattle.text.specs.Text.{Laid}
use Rattle.pointshares.specs.Share.{hour_shares}
use Rattle.pointshares.specs.Answer.{hour_check, hour_answer, HourAnswered}
use Rattle.lines.specs.Line.{line, decimals, refused}
use Rattle.pointhours.specs.HourText.{share_lines, hour_lines}
use Rattle.pointhours.specs.Parts.{most_entries}
use Rattle.pointhours.specs.Private.{with_zeros}
use Rattle.units.specs.Refusals.{Check}

-- with room for every share, the room does not matter
check-room : (capacity : ℕ) (entitlements mdqs : List ℕ) (room : ℕ) → length entitlements ≤ room
    → hour_check capacity entitlements mdqs room ≡ hour_check capacity entitlements mdqs (length entitlements)
unfolding hour_check
check-room capacity entitlements mdqs room l =
    rw (le-leb (length entitlements) room l, le-leb (length entitlements) (length entitlements) (le_refl _))

-- what an answer says of the tests
refused-check : (found : Check) (given : Megajoules) (refusal : Refusal) → Err refusal ≡ hour_answer found given
    → found ≡ Err refusal
refused-check (Ok _) given refusal e = let no : ◌≡◌ {A = ℕ} 0 1 = cc in absurd (omega (arith, no))
refused-check (Err x) given refusal e = cc

shared-check : (found : Check) (given shared : Megajoules) → Ok shared ≡ hour_answer found given → found ≡ Ok tt
shared-check (Ok _) given shared e = refl
shared-check (Err x) given shared e = let no : ◌≡◌ {A = ℕ} 0 1 = cc in absurd (omega (arith, no))

-- ---- the front of an array
module _ (many : ℕ) (f : ℕ → ℕ) (few : many ≤ most_entries) {n : ℕ} {made : List ℕ} (as_many : n ≡ many)
    (is : made ≡ with_zeros many f) where
  room : many ≤ length {A = ℕ} (replicate most_entries 0)
  room = omega (arith, few, length-replicate {A = ℕ} most_entries 0)

  pub front_is : take n made ≡ listed many f
  front_is = ap (λ n. take n made) as_many ∙ made-part many f (replicate most_entries 0) made room is

  pub front_long : n ≡ length (take n made)
  front_long = as_many ∙ made-long many f (replicate most_entries 0) made room is ∙ ap (λ n. length (take n made)) (sym as_many)

-- ---- the hour
module _ (capacity many : ℕ) (shipper entitlement mdq : ℕ → ℕ) (few : many ≤ most_entries) {entitlements mdqs lent after : List ℕ}
    {hour : Result Megajoules Refusal} (entitlements_are : entitlements ≡ listed many entitlement) (mdqs_are : mdqs ≡ listed many mdq)
    (as_lent : length lent ≡ most_entries) (A : HourAnswered capacity entitlements mdqs lent hour after) where
  abbrev E : List ℕ
  E = listed many entitlement

  abbrev M : List ℕ
  M = listed many mdq

  as_many : length E ≡ many
  as_many = length-listed many entitlement

  tested : hour_check capacity entitlements mdqs (length lent) ≡ hour_check capacity E M (length E)
  tested = rw (entitlements_are, mdqs_are) (check-room capacity E M (length lent) (omega (arith, as_many, as_lent, few)))

  pub hour-refused : {refusal : Refusal} → hour ≡ Err refusal → {text laid : List ℕ} {at size : ℕ}
      → Laid (refused refusal) text at size laid → Laid (hour_lines capacity many shipper entitlement mdq) text at size laid
  hour-refused {refusal} e {text} {laid} {at} {size} L =
      let found : hour_check capacity E M (length E) ≡ Err refusal =
      sym tested ∙ refused-check _ _ refusal (sym e ∙ A.answers) in
      subst (λ tested. Laid (share_lines tested many shipper (hour_shares E M capacity)) text at size laid) (sym found) L

  module _ {given : Megajoules} (e : hour ≡ Ok given) where
    accepted : hour_check capacity entitlements mdqs (length lent) ≡ Ok tt
    accepted = shared-check _ _ given (sym e ∙ A.answers)

    filled : after ≡ sets lent 0 (listed (length E) (hour_shares E M capacity))
    filled = A.leaves ∙ rw accepted (rw (entitlements_are, mdqs_are))

    share_is : (entry : ℕ) → entry < many → col after entry ≡ hour_shares E M capacity entry
    share_is entry l =
        ap (λ list. col list entry) filled
        ∙ col-sets (length E) (hour_shares E M capacity) lent (omega (arith, as_many, as_lent, few)) entry (omega (arith, as_many, l))

    lines_are : share_lines (Ok tt) many shipper (col after) ≡ hour_lines capacity many shipper entitlement mdq
    lines_are =
        joined_same many _ _ (λ entry l. ap (λ share. line (decimals (shipper entry ∷ share ∷ []))) (share_is entry l))
        ∙ sym (ap (λ found. share_lines found many shipper (hour_shares E M capacity)) (sym tested ∙ accepted))

    pub hour-shared : {text laid : List ℕ} {at size : ℕ} → Laid (share_lines (Ok tt) many shipper (col after)) text at size laid
        → Laid (hour_lines capacity many shipper entitlement mdq) text at size laid
    hour-shared {text} {laid} {at} {size} L = subst (λ lines. Laid lines text at size laid) lines_are L
