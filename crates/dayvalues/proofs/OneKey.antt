-- A table whose key is one number: a row is listed where a search for that number finds it, and where keys rise it has one row.
use mathlib.Core.Path.{◌≡◌, refl, ap, sym, ◌∙◌}
use mathlib.Core.Logic.{⊎_elim}
use mathlib.Core.Bool.{Bool, true, false, cond, not, true≢false}
use Prim.Native.Nat.{ℕ, zero, suc, ◌+◌, ◌≤◌, ◌<◌}
use native.Mathlib.Nat.{add-zero, eq-or-lt_of_le}
use native.Mathlib.Omega.{arith}
use borrow.Author.Tests.{leb-true, ltb-true, ltb-false, eqb-true, eq-eqb}
use lib.Dec.{leb, ltb, eqb}
use Rattle.columns.specs.First.{first_from, first}
use Rattle.columns.proofs.Firsts.{first-same, first-passed, first-marked}
use Rattle.dayformat.specs.declared.form.Tag.{Tag}
use Rattle.dayformat.specs.declared.layout.Counts.{Counts}
use Rattle.dayformat.specs.Format.{cap, first_name, form}
use Rattle.dayformat.specs.Layout.{count, row_start}
use Rattle.dayrows.specs.Test.{difference, keyed, lists, all_under, caps, capped, less, rises}
use Rattle.dayrows.proofs.Searches.{witnessed}
use Rattle.dayrows.proofs.Within.{both}
use Rattle.dayvalues.specs.Row.{number_at, row_beginning}

-- ---- keys of one number: the same, and one below another
key-same : (f : ℕ → ℕ) (one other : ℕ) → leb 1 (difference f 1 one other) ≡ eqb (f (one + 0)) (f other)
unfolding difference first_from
key-same f one other = by (eqb (f (one + 0)) (f (other + 0))) ∙ ap (λ place. eqb (f (one + 0)) (f place)) (add-zero other)
  where
    by : (same : Bool) → leb 1 (cond (not same) 0 1) ≡ same
    by true = refl
    by false = refl

key-less : (f : ℕ → ℕ) (one other : ℕ) → less f 1 one other ≡ true → f (one + 0) < f (other + 0)
unfolding difference first_from
key-less f one other = by (eqb (f (one + 0)) (f (other + 0)))
  where
    by : (same : Bool)
        → (let place = cond (not same) 0 1 in cond (ltb place 1) (ltb (f (one + place)) (f (other + place))) false) ≡ true
        → f (one + 0) < f (other + 0)
    by true e = absurd (true≢false (sym e))
    by false e = ltb-true _ _ e

module _ (counts : Counts) (f : ℕ → ℕ) (tag : Tag) (one : (form tag).key ≡ 1) where
  pub keyed_is : (at row : ℕ) → keyed counts f tag at row ≡ eqb (number_at counts f tag row 0) (f at)
  keyed_is at row = rw one (key-same f (row_start counts tag row) at)

  pub lists_is : (at : ℕ) → lists counts f tag at ≡ ltb (row_beginning counts f tag (f at)) (count counts tag)
  unfolding lists
  lists_is at = ap (λ row. ltb row (count counts tag)) (first-same (count counts tag) _ _ (λ row l. keyed_is at row))

  -- ---- keys that rise
  module _ (rise : (row : ℕ) → row < count counts tag → rises counts f tag row ≡ true) where
    next-above : (row : ℕ) → suc row < count counts tag → number_at counts f tag row 0 < number_at counts f tag (suc row) 0
    unfolding rises
    next-above row l = key-less f _ _ (rw one at (rise (suc row) l))

    later-above : (row other : ℕ) → row < other → other < count counts tag
        → number_at counts f tag row 0 < number_at counts f tag other 0
    later-above row zero l k = absurd (omega arith)
    later-above row (suc other) l k =
        let next = next-above other k in
        let upto : row ≤ other = omega (arith, l) in
        ⊎_elim (λ e. rw e next) (λ h. omega (arith, next, later-above row other h (omega (arith, k)))) (eq-or-lt_of_le upto)

    pub one-row : (row other : ℕ) → row < count counts tag → other < count counts tag
        → number_at counts f tag row 0 ≡ number_at counts f tag other 0 → row ≡ other
    one-row row other l k e =
        let not_below : row < other → ⊥ = λ h. omega (arith, e, later-above row other h k) in
        let not_above : other < row → ⊥ = λ h. omega (arith, e, later-above other row h l) in
        omega (arith, not_below, not_above)

-- ---- the one row that a capped row names caps it
module _ (counts : Counts) (f : ℕ → ℕ) (tag : Tag) (one : (form (first_name tag).tag).key ≡ 1)
    (rise : (row : ℕ) → row < count counts (first_name tag).tag → rises counts f (first_name tag).tag row ≡ true) where
  abbrev named : Tag
  named = (first_name tag).tag

  module _ (at row : ℕ) (l : row < count counts named) (e : number_at counts f named row 0 ≡ f (at + (first_name tag).place)) where
    is_keyed : keyed counts f named (at + (first_name tag).place) row ≡ true
    is_keyed = keyed_is counts f named one (at + (first_name tag).place) row ∙ eq-eqb _ _ e

    some-caps : capped counts f tag at ≡ true
        → ltb (first (count counts named) (λ other. caps counts f tag at other)) (count counts named) ≡ true
    unfolding capped lists
    some-caps c = rw (witnessed _ (count counts named) row l is_keyed) at c

    pub capped_is : capped counts f tag at ≡ true
        → (place : ℕ) → place < (cap tag).many → f (at + (cap tag).place + place) ≤ f (row_start counts named row + (cap tag).under + place)
    unfolding caps all_under
    capped_is c =
        let other = first (count counts named) (λ other. caps counts f tag at other) in
        let k = ltb-true other (count counts named) (some-caps c) in
        let both-kept = both _ _ (first-marked _ (count counts named) k) in
        let same = eqb-true _ _ (sym (keyed_is counts f named one (at + (first_name tag).place) other) ∙ both-kept.0) in
        let here = one-row counts f named one rise other row k l (same ∙ sym e) in
        λ place m. rw (← here) (ltb-false _ _ (first-passed _ (cap tag).many (leb-true _ _ both-kept.1) place m))
