-- A text that is counted first, from the block's end on, answers a listing whose input is accepted; a refused input has none.
use Rattle.std.specs.Prelude.{Result, Ok, Err}
use mathlib.Core.Path.{◌≡◌, refl, ap, ◌∙◌}
use mathlib.Core.List.{List}
use Prim.Native.Nat.{ℕ, ◌≤◌, ◌<◌}
use native.Mathlib.Nat.{le_refl}
use native.Mathlib.Omega.{arith}
use borrow.Author.Tests.{le-leb, lt-leb}
use lib.ListN.{length, take}
use lib.Seq.{sets, sets-eq, take_at}
use Rattle.units.specs.declared.refusal.Refusal.{Refusal}
use Rattle.units.specs.Refusals.{plain, keep, Check, first_refusal}
use Rattle.text.specs.Text.{Laid}
use Rattle.lines.specs.Answer.{listing_check, ListingAnswered}
use Rattle.lines.proofs.Lining.{laid-past}

module _ {text lent between : List ℕ} {size : ℕ} (counted : Laid text lent (length lent) size between) where
  same : between ≡ lent
  same = laid-past (le_refl (length lent)) counted

  pub too_long : (refusal : Refusal) → refusal ≡ plain 7 → length lent < size → ListingAnswered (Ok tt) text lent between (Err refusal)
  unfolding listing_check first_refusal keep
  too_long refusal e l =
      let long = lt-leb (length text) (length lent) (omega (arith, counted.counts)) in
      record { answers = rw (long, e); leaves = rw (long, same) }

  pub fits : {after : List ℕ} {again : ℕ} → size ≤ length lent → Laid text between 0 again after
      → ListingAnswered (Ok tt) text lent after (Ok size)
  unfolding listing_check first_refusal keep
  fits h laid =
      let short = le-leb (length text) (length lent) (omega (arith, counted.counts)) in
      record { answers = rw (short, counted.counts); leaves = rw short (laid.lays ∙ ap (λ list. sets list 0 text) same) }

-- for callers: what the tests refuse
pub refused-before : {tests : Check} {refusal : Refusal} (text lent : List ℕ) → tests ≡ Err refusal
    → ListingAnswered tests text lent lent (Err refusal)
unfolding listing_check first_refusal
refused-before text lent e = record { answers = rw e; leaves = rw e }

-- for callers: a text that the block has room for stands whole at its front
module _ {text lent after : List ℕ} {listing : Result ℕ Refusal} (L : ListingAnswered (Ok tt) text lent after listing)
    (room : length text ≤ length lent) where
  pub listed : listing ≡ Ok (length text)
  unfolding listing_check first_refusal keep
  listed = rw (le-leb (length text) (length lent) room) at L.answers

  pub listed-front : take (length text) after ≡ text
  unfolding listing_check first_refusal keep
  listed-front =
      let lays : after ≡ sets lent 0 text = rw (le-leb (length text) (length lent) room) at L.leaves in
      ap (take (length text)) (lays ∙ sets-eq text lent 0 (omega (arith, room))) ∙ take_at text _ (length text) refl
