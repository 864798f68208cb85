-- The front of a list laid at the front of another, as a column's rows.
use mathlib.Core.Path.{◌≡◌, ap, sym, ◌∙◌}
use mathlib.Core.List.{List, ◌++◌}
use Prim.Native.Nat.{ℕ, ◌≤◌}
use native.Mathlib.Nat.{zero-add}
use lib.ListN.{length, take, drop}
use lib.Seq.{sets, sets-eq, length-take-le, get_or-take}
use Rattle.columns.specs.Column.{col, listed}
use Rattle.columns.proofs.Lists.{length-listed, listed-col, listed_same}

module _ (n : ℕ) (xs : List ℕ) (h : n ≤ length xs) where
  take-listed : take n xs ≡ listed n (col xs)
  take-listed =
      sym (listed-col (take n xs))
      ∙ ap (λ long. listed long (col (take n xs))) (length-take-le n xs h)
      ∙ listed_same n (col (take n xs)) (col xs) (λ i l. rw get_or-take)

  pub front-laid : (lent : List ℕ) → n ≤ length lent → take n xs ++ drop n lent ≡ sets lent 0 (listed n (col xs))
  front-laid lent room =
      ap (λ front. front ++ drop n lent) take-listed
      ∙ sym (sets-eq (listed n (col xs)) lent 0 (simp (length-listed, zero-add) room) ∙ rw (zero-add, length-listed))
