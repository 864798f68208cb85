-- A chain of tests: what acceptance says of every test in it, and what each asks to accept.
use Rattle.std.specs.Prelude.{Ok, Err}
use mathlib.Core.Path.{◌≡◌, refl, sym, ◌∙◌}
use mathlib.Core.Bool.{Bool, true, false, cond}
use mathlib.Core.List.{List}
use Prim.Native.Nat.{ℕ, ◌≤◌, ◌<◌}
use native.Mathlib.Nat.{le_of_eq}
use native.Mathlib.Omega.{arith}
use borrow.Author.Tests.{leb-true, ltb-true, le-leb, le-ltb}
use lib.Dec.{leb, ltb}
use lib.ListN.{length}
use Rattle.columns.specs.Column.{col}
use Rattle.columns.proofs.Firsts.{first-none}
use Rattle.units.specs.declared.refusal.Refusal.{Refusal}
use Rattle.units.specs.Refusals.{at_row, ◌then◌, keep, clear, within, placed, Check, first_refusal}
use Rattle.units.proofs.Aboves.{none_above}

-- a refusal is no acceptance
pub no_acceptance : {A : Type 0} {x : Refusal} → ◌≡◌ {A = Check} (Err x) (Ok tt) → A
no_acceptance e = let z : ◌≡◌ {A = ℕ} 0 1 = cc in absurd (omega arith)

-- and one refusal is one
pub refusal_is : {x y : Refusal} → ◌≡◌ {A = Check} (Err x) (Err y) → x ≡ y
refusal_is e = cc

-- a last test that accepts changes nothing
pub then_accepted : (found : Check) → (found then Ok tt) ≡ found
unfolding first_refusal
then_accepted (Ok _) = refl
then_accepted (Err refusal) = refl

-- ---- from acceptance
pub both-accepted : (a b : Check) → (a then b) ≡ Ok tt → (a ≡ Ok tt) × (b ≡ Ok tt)
unfolding first_refusal
both-accepted (Ok _) b e = (refl, e)
both-accepted (Err x) b e = no_acceptance e

pub kept : (b : Bool) (number : ℕ) → keep b number ≡ Ok tt → b ≡ true
unfolding keep
kept true number e = refl
kept false number e = no_acceptance e

-- a test of two figures that was answered so
pub at_most : (number : ℕ) {figure most : ℕ} {found : Check} → found ≡ keep (leb figure most) number → found ≡ Ok tt → figure ≤ most
at_most number e accepted = leb-true _ _ (kept _ _ (sym e ∙ accepted))

pub below : (number : ℕ) {figure most : ℕ} {found : Check} → found ≡ keep (ltb figure most) number → found ≡ Ok tt → figure < most
below number e accepted = ltb-true _ _ (kept _ _ (sym e ∙ accepted))

pub cleared : (rows found number : ℕ) → clear rows found number ≡ Ok tt → rows ≤ found
unfolding clear
cleared rows found number = by (leb rows found) refl
  where
    by : (b : Bool) → leb rows found ≡ b → cond {A = Check} b (Ok tt) (Err (at_row number found)) ≡ Ok tt → rows ≤ found
    by true h e = leb-true rows found h
    by false h e = no_acceptance e

pub all-within : (most : ℕ) (xs : List ℕ) → within most xs ≡ Ok tt → (i : ℕ) → i < length xs → col xs i ≤ most
all-within most xs e = none_above most xs (cleared _ _ _ e)

pub placed-accepted : (row : ℕ) (found : Check) → placed row found ≡ Ok tt → found ≡ Ok tt
unfolding placed
placed-accepted row (Ok _) e = refl
placed-accepted row (Err refusal) e = no_acceptance e

-- ---- to acceptance
pub accepts-both : {a b : Check} → a ≡ Ok tt → b ≡ Ok tt → (a then b) ≡ Ok tt
unfolding first_refusal
accepts-both e h = rw (e, h)

pub accepts-kept : {b : Bool} (number : ℕ) → b ≡ true → keep b number ≡ Ok tt
unfolding keep
accepts-kept number e = rw e

pub accepts-clear : (rows found number : ℕ) → rows ≤ found → clear rows found number ≡ Ok tt
unfolding clear
accepts-clear rows found number h = rw (le-leb rows found h)

pub accepts-within : (most : ℕ) (xs : List ℕ) → ((i : ℕ) → i < length xs → col xs i ≤ most) → within most xs ≡ Ok tt
accepts-within most xs low =
    accepts-clear _ _ _
    (le_of_eq (sym (first-none (λ i. ltb most (col xs i)) (length xs) (λ i l. le-ltb most (col xs i) (low i l)))))

pub accepts-placed : (row : ℕ) {found : Check} → found ≡ Ok tt → placed row found ≡ Ok tt
unfolding placed
accepts-placed row e = rw e
