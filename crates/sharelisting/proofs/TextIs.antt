-- A sound day is shared, and what is laid out of the shared lists is the listing's text.
use Rattle.std.specs.Prelude.{Result, Ok, Err}
use mathlib.Core.Path.{◌≡◌, ap, ap₂, sym, ◌∙◌}
use mathlib.Core.List.{List, ◌++◌}
use Prim.Native.Nat.{ℕ, ◌<◌}
use native.Mathlib.Omega.{arith}
use lib.ListN.{length, replicate, length-replicate}
use lib.Seq.{sets}
use Rattle.columns.specs.Column.{col, listed}
use Rattle.columns.proofs.Lists.{length-listed, col-sets}
use Rattle.columns.proofs.Joined.{joined_same}
use Rattle.units.specs.declared.refusal.Refusal.{Refusal}
use Rattle.units.specs.Bound.{most_rows}
use Rattle.daytable.specs.Table.{Table, rows}
use Rattle.dayformat.specs.declared.day.Day.{Day}
use Rattle.dayformat.specs.declared.form.Tag.TheVariants.{Shipper}
use Rattle.dayformat.specs.Layout.{count}
use Rattle.dayshares.specs.declared.Shares.{Shares}
use Rattle.dayshares.specs.Given.{firm_given, auction_given, lower_tier_given}
use Rattle.dayshares.specs.Answer.{day_shares, shares_verdict}
use Rattle.dayrows.specs.Private.{Sound}
use Rattle.dayvalues.specs.Shippers.{shipper_of}
use Rattle.numbershares.specs.DayTable.{table_of}
use Rattle.numbershares.specs.Answer.{numbers_check, NumbersAnswered}
use Rattle.numbershares.proofs.SharesAccept.{numbers_accept}
use Rattle.sharelisting.specs.Private.{Shared}
use Rattle.sharelisting.specs.SharesText.{head_line, shipper_lines, shares_text}

abbrev zeros : List ℕ
zeros = replicate most_rows 0

long : length zeros ≡ most_rows
long = length-replicate {A = ℕ} most_rows 0

module _ (day : Day) (numbers : List ℕ) (S : Sound day numbers) {firm auction lower_tier : List ℕ} {answer : Result Shares Refusal}
    (H : NumbersAnswered day numbers zeros zeros zeros answer firm auction lower_tier) where
  accepted : numbers_check day numbers (length zeros) (length zeros) (length zeros) ≡ Ok tt
  accepted = numbers_accept day numbers S _ _ _ (omega (arith, long)) (omega (arith, long)) (omega (arith, long))

  abbrev T : Table
  T = table_of day (col numbers)

  shared : answer ≡ Ok (day_shares T)
  shared = H.answers ∙ rw accepted

  pub never_refused : {A : Type 0} (x : Refusal) → answer ≡ Err x → A
  never_refused x e =
      let same : Err x ≡ Ok (day_shares T) = sym e ∙ shared in
      let z : ◌≡◌ {A = ℕ} 0 1 = cc in
      absurd (omega arith)

  many : rows T ≡ count day.counts Shipper
  many = length-listed _ _

  -- a class's list has its shares
  has : (list : List ℕ) (given : ℕ → ℕ) → list ≡ sets zeros 0 (listed (rows T) given) → (row : ℕ)
      → row < count day.counts Shipper
      → col list row ≡ given row
  has list given is row l =
      ap (λ list. col list row) is
      ∙ col-sets (rows T) given zeros (omega (arith, many, S.few Shipper, long)) row
      (omega (arith, many, l))

  pub shared_of : (v : Shares) → answer ≡ Ok v → Shared day numbers v firm auction lower_tier
  shared_of v e =
      let v_is : v ≡ day_shares T = ap (λ day. (shares_verdict day).figures) (sym e ∙ shared) in
      record {
        total = ap (λ v. v.firm.0) v_is;
        rest = ap (λ v. v.left.0) v_is;
        firm_has = has firm (firm_given T) (H.leaves_firm ∙ rw accepted);
        auction_has = has auction (auction_given T) (H.leaves_auction ∙ rw accepted);
        lower_tier_has = has lower_tier (lower_tier_given T) (H.leaves_lower_tier ∙ rw accepted);
      }

-- so what is laid of them is the listing's text
pub text_is : (day : Day) (numbers : List ℕ) (v : Shares) {firm auction lower_tier : List ℕ} → Shared day numbers v firm auction lower_tier
    → head_line day.head.day v.firm.0 v.left.0
    ++ shipper_lines (count day.counts Shipper) (shipper_of day.counts (col numbers)) (col firm) (col auction) (col lower_tier)
    ≡ shares_text day (col numbers)
text_is day numbers v S =
    ap₂ (λ x y. x ++ y) (rw (S.total, S.rest))
    (joined_same (count day.counts Shipper) _ _ (λ row l. rw (S.firm_has row l, S.auction_has row l, S.lower_tier_has row l)))
