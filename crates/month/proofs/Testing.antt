-- Tests of n rows, one after another: what was found so far is what the rows before say.
use Rattle.std.specs.Prelude.{Ok}
use mathlib.Core.Path.{◌≡◌, refl, ap, ◌∙◌}
use Prim.Native.Nat.{ℕ, ◌+◌, ◌≤◌, ◌<◌}
use native.Mathlib.Nat.{le_antisymm}
use native.Mathlib.Numerals.{add-one}
use native.Mathlib.Omega.{arith}
use Rattle.units.specs.Refusals.{Check, ◌then◌}
use Rattle.units.specs.Each.{each}

pub record Testing (n : ℕ) (test : ℕ → Check) (row : ℕ) (found : Check) : Type 0 where
  pub inside : row ≤ n
  pub tests : found ≡ each row test

module _ (n : ℕ) (test : ℕ → Check) where
  pub testing_none : Testing n test 0 (Ok tt)
  unfolding each
  testing_none = record { inside = omega arith; tests = refl }

  pub testing_next : {row : ℕ} {found next answer : Check} → Testing n test row found → row < n → next ≡ test row
      → answer ≡ (found then next) → Testing n test (row + 1) answer
  unfolding each
  testing_next {row} T l is e = record { inside = omega (arith, l); tests = rw add-one (rw (T.tests, is) at e) }

  pub testing_all : {row : ℕ} {found : Check} → Testing n test row found → n ≤ row → found ≡ each n test
  testing_all T l = T.tests ∙ ap (λ k. each k test) (le_antisymm T.inside l)
