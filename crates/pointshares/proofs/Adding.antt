-- The total of a list is the library's sum of it: so it fits where the figures are small, it is taken away figure by figure, and it is
-- zero where each figure is.
use mathlib.Core.Path.{◌≡◌, ap, sym, ◌∙◌}
use mathlib.Core.List.{List, [], ◌∷◌}
use Prim.Native.Nat.{ℕ, zero, suc, ◌+◌, ◌-◌, ◌*◌, ◌≤◌, ◌<◌}
use native.Mathlib.Nat.{le_refl}
use native.Mathlib.Numerals.{add-one}
use native.Mathlib.Omega.{arith}
use lib.Dec.{eqb}
use lib.ListN.{length, take}
use lib.Seq.{take-length}
use Rattle.std.specs.List.{fold, list_all, sum as list_sum}
use Rattle.std.proofs.lemmas.List.Folds.{sum_by-zero}
use Rattle.std.proofs.lemmas.List.Sums.{sum_by_from, sum_by_more}
use Rattle.columns.specs.Column.{col}
use Rattle.columns.specs.Sum.{sum}
use Rattle.columns.proofs.Sums.{sum-none, sum-next, sum_bound}
use Rattle.pointshares.specs.Share.{total}

front_sum : (xs : List ℕ) (n : ℕ) → n ≤ length xs → list_sum (take n xs) ≡ sum n (col xs)
front_sum xs zero l = sym (sum-none (col xs))
front_sum xs (suc n) l =
    rw (← add-one) (omega (arith, front_sum xs n (omega arith), sum_by_more (λ x. x) xs n 0 (omega arith), sum-next n (col xs)))

pub sum-total : (xs : List ℕ) → list_sum xs ≡ total xs
sum-total xs = ap list_sum (sym (take-length xs)) ∙ front_sum xs (length xs) (le_refl (length xs))

pub total-small : (xs : List ℕ) (most : ℕ) → ((i : ℕ) → i < length xs → col xs i ≤ most) → list_sum xs ≤ length xs * most
total-small xs most small = omega (arith, sum-total xs, sum_bound (length xs) (col xs) most small)

taken : (h : ℕ) (xs : List ℕ) → fold (λ left x. left - x) h xs ≡ h - list_sum xs
taken h [] = omega arith
taken h (x ∷ xs) = omega (arith, taken (h - x) xs, sum_by_from (λ x. x) (0 + x) xs)

pub total_taken : (h : ℕ) (xs : List ℕ) → fold (λ left x. left - x) h xs ≡ h - total xs
total_taken h xs = taken h xs ∙ ap (λ t. h - t) (sum-total xs)

pub all_zero : (xs : List ℕ) → list_all (λ x. eqb x 0) xs ≡ eqb (total xs) 0
all_zero xs = sym (sum_by-zero (λ x. x) xs) ∙ ap (λ t. eqb t 0) (sum-total xs)
