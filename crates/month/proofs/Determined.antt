-- Two answers that meet the statement of a closing are equal, and so are the lent blocks afterwards.
use mathlib.Core.Path.{◌≡◌}
use mathlib.Core.List.{List}
use Prim.Native.Nat.{ℕ}
use Rattle.units.proofs.Determined.{determined}
use Rattle.lines.proofs.Determined.{listed_determined}
use Rattle.month.specs.declared.account.Account.{Account}
use Rattle.month.specs.declared.account.Closed.{Closed}
use Rattle.month.specs.Statement.{ClosingAnswered}

pub closing_determined : {A : Account} {lent : List ℕ} {r₁ r₂ : Closed} {l₁ l₂ : List ℕ} → ClosingAnswered A lent l₁ r₁
    → ClosingAnswered A lent l₂ r₂ → (r₁ ≡ r₂) × (l₁ ≡ l₂)
closing_determined a b =
    let listed = listed_determined a.lists b.lists in
    (rw (listed.0, determined a.empties b.empties), listed.1)
