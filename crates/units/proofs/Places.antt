-- How great a refusal's place can be: it is 0, or a row of a list that an earlier test found to be short enough.
use Rattle.std.specs.Prelude.{Ok}
use mathlib.Core.Path.{◌≡◌, refl}
use mathlib.Core.Bool.{Bool}
use mathlib.Core.List.{List}
use Prim.Native.Nat.{ℕ, suc, ◌≤◌}
use native.Mathlib.Omega.{arith}
use borrow.Author.Tests.{leb-true, eqb-true}
use lib.Dec.{leb, eqb}
use lib.ListN.{length}
use Rattle.units.specs.Bound.{most_rows}
use Rattle.units.specs.Refusals.{◌then◌, keep, clear, within, placed, Check}
use Rattle.units.proofs.Checks.{both-accepted, kept}
use Rattle.units.proofs.Verdicts.{Refuses, refuses_none, refuses_then, refuses_keep, refuses_clear, refuses_placed}

abbrev pub PlacedTo : ℕ → Check → Type 0
PlacedTo most = Refuses (λ refusal. refusal.place ≤ most)

module _ {most : ℕ} where
  pub nowhere : PlacedTo most (Ok tt)
  nowhere = refuses_none _

  -- a later test may use what the earlier ones accepted
  infixl 20 ◌then_if◌
  pub ◌then_if◌ : {a b : Check} → PlacedTo most a → (a ≡ Ok tt → PlacedTo most b) → PlacedTo most (a then b)
  ◌then_if◌ {a} {b} A B = refuses_then _ a b A B

  pub plainly : (kept : Bool) (number : ℕ) {a : Check} → a ≡ Ok tt → PlacedTo most (keep kept number)
  plainly kept number accepted = refuses_keep _ kept number (omega arith)

  pub at_one_of : (rows found number : ℕ) → rows ≤ suc most → PlacedTo most (clear rows found number)
  at_one_of rows found number few = refuses_clear _ rows found number (λ inside. omega (arith, inside, few))

  pub placed-there : (row : ℕ) (found : Check) → row ≤ most → PlacedTo most (placed row found)
  placed-there row found l = refuses_placed _ row found (λ refusal e. l)

-- ---- lists of shippers: a row is looked at after the count
pub record Counted (rows : ℕ) (found : Check) : Type 0 where
  pub placed : PlacedTo 63 found
  pub few : found ≡ Ok tt → rows ≤ most_rows

pub counted : {rows : ℕ} {before : Check} → PlacedTo 63 before → Counted rows (before then keep (leb rows most_rows) 3)
counted P = record { placed = P then_if plainly _ 3; few = λ e. leb-true _ _ (kept _ _ (both-accepted _ _ e).1) }

pub counted-list : {rows : ℕ} {before : Check} → Counted rows before → (most : ℕ) (list : List ℕ) → (before ≡ Ok tt → rows ≡ length list)
    → Counted rows (before then within most list)
counted-list {rows} {before} C most list same =
    record {
      placed = C.placed then_if (λ e. at_one_of _ _ 3 (omega (arith, C.few e, same e)));
      few = λ e. C.few (both-accepted before _ e).0;
    }

-- two lists as long as one another, and a single figure
pub two-lists : {single : Check} (most other : ℕ) (xs ys : List ℕ) → PlacedTo 63 single
    → Counted (length xs)
    (Ok tt
    then keep (eqb (length xs) (length ys)) 9
    then single
    then keep (leb (length xs) most_rows) 3
    then within most xs
    then within other ys)
two-lists most other xs ys P =
    counted-list (counted-list (counted (nowhere then_if plainly _ 9 then_if (λ e. P))) most xs (λ e. refl)) other ys
    (λ e.
    let long = (both-accepted _ _ (both-accepted _ _ (both-accepted _ _ (both-accepted _ _ e).0).0).0).1 in
    eqb-true _ _ (kept _ _ long))
