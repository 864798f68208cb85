-- What the private routines of this crate ask, and what they do.
use Rattle.std.specs.Prelude.{◌≡◌, List, ℕ, ◌≤◌, ◌<◌, length}
use Rattle.std.proofs.lemmas.List.Edits.{sets}
use Rattle.columns.specs.Column.{col, listed}
use Rattle.columns.specs.Sum.{sum}
use Rattle.units.specs.Bound.{most_hour, most_gigajoules, most_rows}
use Rattle.pointshares.specs.declared.totals.Totals.{Totals}
use Rattle.pointshares.specs.Share.{hour_shares, total}

-- TRE and TMDQ
abbrev pub totals : List ℕ → List ℕ → Totals
totals entitlements mdqs = record { entitlement = total entitlements; mdq = total mdqs }

-- as many firm MDQs as entitlements, few and small enough
pub record Rows (entitlements mdqs : List ℕ) : Type 0 where
  pub same : length entitlements ≡ length mdqs
  pub few : length entitlements ≤ most_rows
  pub reserved : (i : ℕ) → i < length entitlements → col entitlements i ≤ most_hour
  pub firm : (i : ℕ) → i < length entitlements → col mdqs i ≤ most_gigajoules

-- such rows with their totals, and a capacity that they can share
pub record Shareable (h : ℕ) (t : Totals) (entitlements mdqs : List ℕ) : Type 0 where
  pub rows : Rows entitlements mdqs
  pub added : t ≡ totals entitlements mdqs
  pub capacity : h ≤ most_hour
  pub served : 2 ≤ length entitlements → total entitlements < h → 0 < sum (length entitlements) (col mdqs)

-- and a lent list to share it in: what the tests accept
pub record Ready (h : ℕ) (entitlements mdqs : List ℕ) (room : ℕ) : Type 0 where
  pub shareable : Shareable h (totals entitlements mdqs) entitlements mdqs
  pub fits : length entitlements ≤ room

-- the shares stand at the front of what was lent, and given is their sum
pub record Filled (h : ℕ) (entitlements mdqs lent : List ℕ) (given : ℕ) (after : List ℕ) : Type 0 where
  pub front : after ≡ sets lent 0 (listed (length entitlements) (hour_shares entitlements mdqs h))
  pub adds : given ≡ sum (length entitlements) (hour_shares entitlements mdqs h)
