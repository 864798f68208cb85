-- A day's counts are accepted exactly where each is within its bound.
use Rattle.std.specs.Prelude.{Ok}
use mathlib.Core.Path.{◌≡◌}
use Prim.Native.Nat.{◌≤◌}
use native.Mathlib.Omega.{arith}
use borrow.Author.Tests.{leb-true, le-leb}
use Rattle.units.proofs.Checks.{kept, accepts-kept}
use Rattle.units.proofs.Testing.{each-accepted, accepts-each}
use Rattle.dayformat.specs.declared.layout.Counts.{Counts}
use Rattle.dayformat.specs.Format.{many_tables, tag_at, form}
use Rattle.dayformat.specs.Layout.{count}
use Rattle.dayformat.specs.Acceptance.{counts_check}
use Rattle.dayformat.specs.Private.{Few}
use Rattle.dayformat.proofs.Every.{every}

pub counts-accepted : (counts : Counts) → counts_check counts ≡ Ok tt → Few counts
unfolding counts_check
counts-accepted counts e =
    every (λ tag. count counts tag ≤ (form tag).most) (omega arith)
    (λ place l. leb-true _ _ (kept _ _ (each-accepted _ many_tables e place l)))

pub counts_accept : (counts : Counts) → Few counts → counts_check counts ≡ Ok tt
unfolding counts_check
counts_accept counts few = accepts-each _ many_tables (λ place l. accepts-kept 3 (le-leb _ _ (few (tag_at place))))
