-- A number of a body is of the kind that its place falls into.
use mathlib.Core.Path.{◌≡◌}
use mathlib.Core.List.{List, [], ◌∷◌, ◌++◌}
use Prim.Native.Nat.{ℕ, ◌+◌, ◌-◌, ◌≤◌, ◌<◌}
use native.Mathlib.Numerals.{add-one}
use native.Mathlib.Omega.{arith}
use borrow.Author.Tests.{lt-ltb, le-ltb}
use lib.ListN.{length, get_or, drop}
use lib.Seq.{drop-cons}
use Rattle.dayformat.specs.declared.body.Several.{Several}
use Rattle.dayformat.specs.Format.{column_in, numbers_of}

pub among : (ahead : List Several) (several : Several) (rest : List Several) (place : ℕ)
    → numbers_of ahead ≤ place → place < numbers_of ahead + several.many → column_in (ahead ++ (several ∷ rest)) place ≡ several.kind
unfolding column_in
among [] several rest place h l = rw (lt-ltb place several.many (omega arith))
among (first ∷ ahead) several rest place h l =
    rw (le-ltb place first.many (omega arith)) (among ahead several rest (place - first.many) (omega arith) (omega arith))

-- the kinds from one on: a number is of the first of them, or of those after it
module _ (kinds : List Several) (next left : ℕ) (past : Several) (l : next < length kinds) where
  pub column-here : left < (get_or kinds next past).many → column_in (drop next kinds) left ≡ (get_or kinds next past).kind
  unfolding column_in
  column-here few = rw (drop-cons kinds next past l, lt-ltb left (get_or kinds next past).many few)

  pub column-after : (get_or kinds next past).many ≤ left
      → column_in (drop next kinds) left ≡ column_in (drop (next + 1) kinds) (left - (get_or kinds next past).many)
  unfolding column_in
  column-after more = rw (drop-cons kinds next past l, le-ltb left (get_or kinds next past).many more, add-one)
