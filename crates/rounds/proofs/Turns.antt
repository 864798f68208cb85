-- What a level has given the rows so far is small.
use mathlib.Core.List.{List}
use Prim.Native.Nat.{ℕ, ◌*◌, ◌≤◌}
use native.Mathlib.Omega.{arith}
use lib.ListN.{length}
use Rattle.columns.specs.Column.{col}
use Rattle.columns.proofs.Sums.{Adding, adding_bound}
use Rattle.sharing.specs.Round.{share}
use Rattle.rounds.specs.Private.{Rows}

pub given-small : {ws qs : List ℕ} (R : Rows ws qs) (level : ℕ) {row total : ℕ}
    → Adding (length ws) (λ i. share (col ws i) (col qs i) level) row total → total ≤ row * 1_000_000
given-small R level A = adding_bound _ _ A 1_000_000 (λ i l. omega (arith, R.needs i l))
