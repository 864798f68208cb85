-- A row's names looked up one after another, and its MDQs; what fills up a tag's data says nothing.
use mathlib.Core.Path.{◌≡◌, refl}
use mathlib.Core.Bool.{Bool, true, false, cond, ◌&&◌, ◌||◌}
use mathlib.Core.List.{List, [], ◌∷◌, ◌++◌}
use Prim.Native.Nat.{ℕ, zero, suc, ◌+◌, ◌-◌, ◌<◌}
use native.Mathlib.Numerals.{add-one}
use native.Mathlib.Omega.{arith}
use lib.ListN.{length, get_or, drop, replicate}
use lib.Seq.{drop-cons}
use borrow.Author.Tests.{ne_eqb}
use Rattle.std.specs.List.{list_any, list_all}
use Rattle.daytable.specs.Acceptance.{idle}
use Rattle.dayformat.specs.declared.form.Tag.{Tag}
use Rattle.dayformat.specs.declared.form.Tag.TheVariants.{Head}
use Rattle.dayformat.specs.declared.rules.Name.{Name}
use Rattle.dayformat.specs.declared.rules.Pair.{Pair}
use Rattle.dayformat.specs.declared.layout.Counts.{Counts}
use Rattle.dayformat.specs.Format.{◌is_a◌, names, ◌for◌, mdqs, filled_up}
use Rattle.dayformat.proofs.Filled.{names_filled, mdqs_filled}
use Rattle.dayrows.specs.Test.{lists, names_listed, named, some_idle, starved}
use Rattle.dayrows.proofs.Enough.{listed_by}

module _ (counts : Counts) (f : ℕ → ℕ) (at : ℕ) where
  -- the head's key is empty, so it is listed wherever it is looked for
  nothing-listed : (k : ℕ) → names_listed counts f at (replicate k (0 is_a Head)) ≡ true
  unfolding names_listed
  nothing-listed zero = refl
  nothing-listed (suc k) =
      rw (listed_by counts f Head 0 (at + 0) (omega arith) (λ place l. absurd (omega (arith, l)))) (nothing-listed k)

  listed_more : (list : List Name) (k : ℕ) → names_listed counts f at (list ++ replicate k (0 is_a Head)) ≡ names_listed counts f at list
  unfolding names_listed
  listed_more [] k = nothing-listed k
  listed_more (name ∷ rest) k = rw (listed_more rest k)

  pub listed_filled : (tag : Tag) → names_listed counts f at (filled_up 2 (0 is_a Head) (names tag)) ≡ named counts f tag at
  listed_filled tag = rw (names_filled tag) (listed_more (names tag) (2 - length (names tag)))

  -- all are listed where each is
  pub listed_all : (list : List Name) → list_all (λ name. lists counts f name.tag (at + name.place)) list ≡ names_listed counts f at list
  unfolding names_listed
  listed_all [] = refl
  listed_all (name ∷ rest) = by (lists counts f name.tag (at + name.place)) (listed_all rest)
    where
      by : (b : Bool) {all : Bool} → all ≡ names_listed counts f at rest → (b && all) ≡ cond b (names_listed counts f at rest) false
      by true e = e
      by false e = refl

module _ (f : ℕ → ℕ) (at : ℕ) where
  -- no number is without itself
  idle_self : (number : ℕ) → idle number number ≡ false
  idle_self zero = refl
  idle_self (suc number) = rw (ne_eqb (suc number) 0 (λ e. omega (arith, e)))

  nothing-idle : (k : ℕ) → some_idle f at (replicate k (0 for 0)) ≡ false
  unfolding some_idle
  nothing-idle zero = refl
  nothing-idle (suc k) = rw idle_self (nothing-idle k)

  idle-more : (list : List Pair) (k : ℕ) → some_idle f at (list ++ replicate k (0 for 0)) ≡ some_idle f at list
  unfolding some_idle
  idle-more [] k = nothing-idle k
  idle-more (pair ∷ rest) k = rw (idle-more rest k)

  pub idle_filled : (tag : Tag) → some_idle f at (filled_up 2 (0 for 0) (mdqs tag)) ≡ starved f tag at
  idle_filled tag = rw (mdqs_filled tag) (idle-more (mdqs tag) (2 - length (mdqs tag)))

  -- some schedule is without its MDQ where any is
  pub idle_any : (list : List Pair) → list_any (λ pair. idle (f (at + pair.mdq)) (f (at + pair.schedule))) list ≡ some_idle f at list
  unfolding some_idle
  idle_any [] = refl
  idle_any (pair ∷ rest) = by (idle (f (at + pair.mdq)) (f (at + pair.schedule))) (idle_any rest)
    where
      by : (b : Bool) {any : Bool} → any ≡ some_idle f at rest → (b || any) ≡ cond b true (some_idle f at rest)
      by true e = refl
      by false e = e

  -- the MDQs from one on: some schedule is without its MDQ where the first is or one after it is
  module _ (list : List Pair) (next : ℕ) (past : Pair) (l : next < length list) where
    abbrev pair : Pair
    pair = get_or list next past

    pub idle-here : idle (f (at + pair.mdq)) (f (at + pair.schedule)) ≡ true → some_idle f at (drop next list) ≡ true
    unfolding some_idle
    idle-here e = rw (drop-cons list next past l, e)

    pub idle-next : idle (f (at + pair.mdq)) (f (at + pair.schedule)) ≡ false
        → some_idle f at (drop next list) ≡ some_idle f at (drop (next + 1) list)
    unfolding some_idle
    idle-next e = rw (drop-cons list next past l, e, add-one)
