-- The sums over the first days, figure by figure; of an accepted account they are small.
use Rattle.std.specs.Prelude.{Ok, Err}
use mathlib.Core.Path.{◌≡◌, sym, ap, ◌∙◌}
use Prim.Native.Nat.{ℕ, ◌*◌, ◌≤◌, ◌<◌}
use native.Mathlib.Nat.{le_trans, mul-le-mul_right}
use native.Mathlib.Omega.{arith}
use Rattle.columns.specs.Column.{col, listed}
use Rattle.columns.specs.Sum.{sum}
use Rattle.columns.proofs.Lists.{col-listed}
use Rattle.columns.proofs.Sums.{sum_cong, sum_bound}
use Rattle.units.specs.declared.refusal.Refusal.{Refusal}
use Rattle.month.specs.declared.figures.Figures.{Figures}
use Rattle.month.specs.declared.account.AccountDay.{AccountDay}
use Rattle.month.specs.declared.account.Account.{Account}
use Rattle.month.specs.declared.account.Totalled.{Totalled}
use Rattle.month.specs.Figures.{figure, figures_by, figure_bounds}
use Rattle.month.specs.Days.{most_days, days_check}
use Rattle.month.specs.Account.{account_check}
use Rattle.month.specs.Total.{sums, account_sums, total_up}
use Rattle.month.proofs.Accepting.{at_each, figures-kept, days-kept}
use Rattle.units.specs.Refusals.{Check}

-- ---- figure by figure
pub figure_by : (f : ℕ → ℕ) (place : ℕ) → place < 7 → figure (figures_by f) place ≡ f place
unfolding listed
figure_by f place l = col-listed 7 f place l

pub same : (f g : ℕ → ℕ) → ((place : ℕ) → place < 7 → f place ≡ g place) → figures_by f ≡ figures_by g
same f g all =
    rw (
      all 0 (omega arith),
      all 1 (omega arith),
      all 2 (omega arith),
      all 3 (omega arith),
      all 4 (omega arith),
      all 5 (omega arith),
      all 6 (omega arith),
    )

-- ---- sums
module _ (days : ℕ → AccountDay) where
  abbrev pub summed : ℕ → ℕ → ℕ
  summed n place = sum n (λ row. figure (days row).figures place)

  -- of days that are the same
  pub sums_same : (other : ℕ → AccountDay) (n : ℕ) → ((row : ℕ) → row < n → days row ≡ other row) → sums n days ≡ sums n other
  sums_same other n all =
      same (summed n) _ (λ place l. sum_cong n _ _ (λ row m. ap (λ day. figure day.figures place) (all row m)))

  -- of an accepted account
  pub summed-most : (n : ℕ) → days_check n days ≡ Ok tt → (place : ℕ) → place < 7 → summed n place ≤ most_days * col figure_bounds place
  summed-most n accepted place l =
      let K = days-kept n days accepted in
      le_trans (sum_bound n _ _ (λ row m. (figures-kept _ (K.figures row m)).within place l)) (mul-le-mul_right _ K.few)

-- no figure has more than twelve digits
pub most-low : (place : ℕ) → place < 7 → col figure_bounds place ≤ 100_000_000_000
most-low = at_each _ (omega arith) (omega arith) (omega arith) (omega arith) (omega arith) (omega arith) (omega arith)

-- ---- the answer
module _ (A : Account) where
  pub not_totalled : {refusal : Refusal} {found : Check} → found ≡ account_check A → found ≡ Err refusal
      → ◌≡◌ {A = Totalled} (record { account = A; total = Err refusal }) (total_up A)
  not_totalled is e = let refused = sym is ∙ e in rw refused

  pub totalled : {added : Figures} → account_check A ≡ Ok tt → added ≡ account_sums A
      → ◌≡◌ {A = Totalled} (record { account = A; total = Ok added }) (total_up A)
  totalled accepted e = rw (accepted, e)
