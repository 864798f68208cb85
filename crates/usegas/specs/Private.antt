-- What the private routines of this crate ask, and what they do.
use Rattle.std.specs.Prelude.{◌≡◌, List, ℕ, ◌-◌, ◌≤◌, ◌<◌, length}
use Rattle.std.proofs.lemmas.List.Edits.{sets}
use Rattle.columns.specs.Column.{col, listed}
use Rattle.columns.specs.Sum.{sum}
use Rattle.units.specs.Bound.{most_system_use, most_gigajoules, most_rows}
use Rattle.usegas.specs.Share.{total, gas_shares}

-- schedules, few and small enough
pub record Rows (schedules : List ℕ) : Type 0 where
  pub few : length schedules ≤ most_rows
  pub small : (i : ℕ) → i < length schedules → col schedules i ≤ most_gigajoules

-- such schedules with their total, and gas that they can share
pub record Shareable (net t foundation : ℕ) (schedules : List ℕ) : Type 0 where
  pub rows : Rows schedules
  pub added : t ≡ total foundation schedules
  pub gas : net ≤ most_system_use
  pub scheduled : 0 < net → 0 < total foundation schedules

-- with a lent list to share it in: what the tests accept
pub record Ready (sug fssug foundation : ℕ) (schedules : List ℕ) (room : ℕ) : Type 0 where
  pub net : fssug ≤ sug
  pub shareable : Shareable (sug - fssug) (total foundation schedules) foundation schedules
  pub fits : length schedules ≤ room

-- the shares stand at the front of what was lent, and given is their sum
pub record Filled (net foundation : ℕ) (schedules lent : List ℕ) (given : ℕ) (after : List ℕ) : Type 0 where
  pub front : after ≡ sets lent 0 (listed (length schedules) (gas_shares foundation schedules net))
  pub adds : given ≡ sum (length schedules) (gas_shares foundation schedules net)
