-- Where no figure is found above the bound, every figure is within it; and what the library's search finds is the first above it.
use mathlib.Core.Path.{◌≡◌, refl, sym, ◌∙◌}
use mathlib.Core.Bool.{Bool, true, false, cond, not, ◌&&◌, true≢false}
use mathlib.Core.List.{List, [], ◌∷◌}
use Prim.Native.Nat.{ℕ, ◌≤◌, ◌<◌}
use borrow.Author.Tests.{ltb-false}
use lib.Dec.{ltb}
use lib.ListN.{length}
use native.Mathlib.Omega.{arith}
use Rattle.std.specs.Prelude.{fold, ◌==◌}
use Rattle.std.specs.List.{position_or_len}
use Rattle.std.specs.Ordering.{nat_cmp, is_lt}
use Rattle.std.specs.declared.cmp.Ordering.TheVariants.{Less, Equal, Greater}
use Rattle.columns.specs.Column.{col}
use Rattle.columns.proofs.Firsts.{first-passed, first-same, position-first}
use Rattle.units.specs.Above.{first_above}

pub none_above : (most : ℕ) (xs : List ℕ) → length xs ≤ first_above most xs → (i : ℕ) → i < length xs → col xs i ≤ most
none_above most xs h i l = ltb-false most (col xs i) (first-passed (λ k. ltb most (col xs k)) (length xs) h i l)

-- where a search that looks at every element keeps them all, none is marked
module _ {X : Type 0} (marked : X → Bool) where
  both_kept : (kept m : Bool) → (kept && not m) ≡ true → (kept ≡ true) × (m ≡ false)
  both_kept true true e = absurd (true≢false (sym e))
  both_kept true false e = (refl, refl)
  both_kept false m e = absurd (true≢false (sym e))

  kept_from : (xs : List X) (kept : Bool) → fold (λ k x. k && not (marked x)) kept xs ≡ true
      → (kept ≡ true) × (position_or_len marked xs ≡ length xs)
  kept_from [] kept e = (e, refl)
  kept_from (x ∷ xs) kept e =
      let rest = kept_from xs (kept && not (marked x)) e in
      let here = both_kept kept (marked x) rest.0 in
      (here.0, rw (here.1, rest.1) (omega arith))

  pub kept_all : (xs : List X) → fold (λ k x. k && not (marked x)) true xs ≡ true → length xs ≡ position_or_len marked xs
  kept_all xs e = sym (kept_from xs true e).1

-- a number is above another where it is beyond it in the numbers' order
lt-above : (most figure : ℕ) → is_lt (nat_cmp most figure) ≡ ltb most figure
lt-above most figure = by (ltb most figure) (most == figure)
  where
    by : (less same : Bool) → is_lt (cond less Less (cond same Equal Greater)) ≡ less
    by true same = refl
    by false true = refl
    by false false = refl

pub above-is : (most : ℕ) (xs : List ℕ) → position_or_len (λ figure. is_lt (nat_cmp most figure)) xs ≡ first_above most xs
above-is most xs =
    position-first (λ figure. is_lt (nat_cmp most figure)) xs
    ∙ first-same (length xs) _ _ (λ i l. lt-above most (col xs i))
