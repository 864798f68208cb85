-- Rows tested one after another: what acceptance says of each, what accepts, which refuses; and the loop that tests them as an invariant.
use Rattle.std.specs.Prelude.{Ok, Err}
use mathlib.Core.Path.{◌≡◌, refl, sym}
use mathlib.Core.Logic.{⊎_elim}
use Prim.Native.Nat.{ℕ, zero, suc, ◌+◌, ◌≤◌, ◌<◌}
use native.Mathlib.Nat.{le_antisymm, le_of_suc-le-suc, eq-or-lt_of_le, le_step, lt-suc_self}
use native.Mathlib.Numerals.{add-one}
use native.Mathlib.Omega.{arith}
use Rattle.units.specs.declared.refusal.Refusal.{Refusal}
use Rattle.units.specs.Refusals.{Check, first_refusal}
use Rattle.units.specs.Each.{each}
use Rattle.units.proofs.Checks.{both-accepted, accepts-both}

pub each-accepted : (test : ℕ → Check) (n : ℕ) → each n test ≡ Ok tt → (row : ℕ) → row < n → test row ≡ Ok tt
unfolding each
each-accepted test zero accepted row l = absurd (omega (arith, l))
each-accepted test (suc n) accepted row l =
    let both = both-accepted _ _ accepted in
    ⊎_elim (λ e. rw e both.1) (λ below. each-accepted test n both.0 row below) (eq-or-lt_of_le (le_of_suc-le-suc l))

pub accepts-each : (test : ℕ → Check) (n : ℕ) → ((row : ℕ) → row < n → test row ≡ Ok tt) → each n test ≡ Ok tt
unfolding each
accepts-each test zero all = refl
accepts-each test (suc n) all = accepts-both (accepts-each test n (λ row l. all row (le_step l))) (all n (lt-suc_self n))

-- the first row that is refused refuses the whole
pub each-refused : (test : ℕ → Check) (n row : ℕ) {refusal : Refusal} → row < n → each row test ≡ Ok tt
    → test row ≡ Err refusal → each n test ≡ Err refusal
unfolding each first_refusal
each-refused test zero row l before e = absurd (omega (arith, l))
each-refused test (suc n) row l before e =
    ⊎_elim (λ same. rw (← same, before) e) (λ below. rw (each-refused test n row below before e))
    (eq-or-lt_of_le (le_of_suc-le-suc l))

-- ---- a loop that tests row after row, and stops at the first that is refused: so far all are accepted
module _ (test : ℕ → Check) where
  pub passing_none : each 0 test ≡ Ok tt
  unfolding each
  passing_none = refl

  pub passing_next : {row : ℕ} → each row test ≡ Ok tt → test row ≡ Ok tt → each (row + 1) test ≡ Ok tt
  unfolding each
  passing_next before here = rw add-one (accepts-both before here)

  pub passing_all : (n : ℕ) {row : ℕ} → each row test ≡ Ok tt → row ≤ n → n ≤ row → Ok tt ≡ each n test
  passing_all n before inside past = rw (le_antisymm past inside, before)

  pub stopping_at : (n : ℕ) {row : ℕ} {refusal : Refusal} → each row test ≡ Ok tt → row < n → test row ≡ Err refusal
      → Err refusal ≡ each n test
  stopping_at n {row} before inside here = sym (each-refused test n row inside before here)
