-- What the private routines of this crate ask, and what they do.
use Rattle.std.specs.Prelude.{◌≡◌, List, ℕ, ◌≤◌, length}
use Rattle.std.proofs.lemmas.List.Edits.{sets}
use Rattle.columns.specs.Column.{col, listed}
use Rattle.sharing.specs.Round.{share, total}
use Rattle.sharing.specs.Private.{Small}
use Rattle.units.specs.Bound.{most_capacity, most_rows}

-- as many needs as weights, few and small enough
pub record Rows (ws qs : List ℕ) : Type 0 where
  pub same : length ws ≡ length qs
  pub few : length ws ≤ most_rows
  pub weights : Small (length ws) (col ws)
  pub needs : Small (length ws) (col qs)

-- what a level gives such rows together
abbrev pub given_at : List ℕ → List ℕ → ℕ → ℕ
given_at ws qs t = total (length ws) (col ws) (col qs) t

-- and a capacity and a lent list to share it in: what the tests accept
pub record Ready (c : ℕ) (ws qs : List ℕ) (room : ℕ) : Type 0 where
  pub rows : Rows ws qs
  pub capacity : c ≤ most_capacity
  pub fits : length ws ≤ room

-- the shares at the level t stand at the front of what was lent, and given is their sum
pub record Filled (ws qs : List ℕ) (t : ℕ) (lent : List ℕ) (given : ℕ) (after : List ℕ) : Type 0 where
  pub shares : after ≡ sets lent 0 (listed (length ws) (λ i. share (col ws i) (col qs i) t))
  pub sum : given ≡ total (length ws) (col ws) (col qs) t
