-- A tag's data filled up to one length: what is added says nothing.
use mathlib.Core.Path.{◌≡◌, refl, ap, sym, ◌∙◌}
use mathlib.Core.List.{List, [], ◌∷◌, ◌++◌}
use Prim.Native.Nat.{ℕ, zero, suc, ◌+◌, ◌-◌, ◌≤◌}
use native.Mathlib.Omega.{arith}
use borrow.Author.Tests.{leb-true}
use lib.Dec.{leb}
use lib.ListN.{length, get_or, take, replicate, length-take, length-append, length-replicate}
use lib.Seq.{take-append-add}
use Rattle.columns.specs.First.{first_from}
use Rattle.dayformat.specs.declared.form.Tag.{Tag}
use Rattle.dayformat.specs.declared.form.Tag.TheVariants.{Head}
use Rattle.dayformat.specs.declared.rules.Name.{Name}
use Rattle.dayformat.specs.Format.{◌is_a◌, names, ◌for◌, mdqs, first_name, filled_up}
use Rattle.dayformat.proofs.Every.{passes-every}

take_replicate : {X : Type 0} (n m : ℕ) (x : X) → n ≤ m → take n (replicate m x) ≡ replicate n x
take_replicate zero m x l = refl
take_replicate (suc n) zero x l = absurd (omega (arith, l))
take_replicate (suc n) (suc m) x l = ap (λ rest. x ∷ rest) (take_replicate n m x (omega (arith, l)))

filled_is : {X : Type 0} (many : ℕ) (nothing : X) (list : List X) → length list ≤ many
    → filled_up many nothing list ≡ list ++ replicate (many - length list) nothing
filled_is many nothing list l =
    let all : length list + (many - length list) ≡ many = omega (arith, l) in
    ap (λ n. take n (list ++ replicate many nothing)) (sym all)
    ∙ take-append-add list (replicate many nothing) (many - length list)
    ∙ ap (λ rest. list ++ rest) (take_replicate (many - length list) many nothing (omega arith))

pub length_filled : {X : Type 0} (many : ℕ) (nothing : X) (list : List X) → length (filled_up many nothing list) ≡ many
length_filled many nothing list =
    omega (
      arith,
      length-take many (list ++ replicate many nothing),
      length-append list (replicate many nothing),
      length-replicate many nothing,
    )

-- ---- there is room for every tag's data
pub names_filled : (tag : Tag) → filled_up 2 (0 is_a Head) (names tag) ≡ names tag ++ replicate (2 - length (names tag)) (0 is_a Head)
unfolding first_from
names_filled tag =
    filled_is 2 (0 is_a Head) (names tag) (leb-true _ _ (passes-every (λ tag. leb (length (names tag)) 2) refl (omega arith) tag))

pub mdqs_filled : (tag : Tag) → filled_up 2 (0 for 0) (mdqs tag) ≡ mdqs tag ++ replicate (2 - length (mdqs tag)) (0 for 0)
unfolding first_from
mdqs_filled tag =
    filled_is 2 (0 for 0) (mdqs tag) (leb-true _ _ (passes-every (λ tag. leb (length (mdqs tag)) 2) refl (omega arith) tag))

pub first_filled : (tag : Tag) (past : Name) → get_or (filled_up 2 (0 is_a Head) (names tag)) 0 past ≡ first_name tag
first_filled tag past = by (names tag)
  where
    by : (list : List Name) → get_or (filled_up 2 (0 is_a Head) list) 0 past ≡ get_or list 0 (0 is_a Head)
    by [] = refl
    by (name ∷ rest) = refl
