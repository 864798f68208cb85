-- Where the stretch that begins at a row is the one at the place, the row has the key.
use mathlib.Core.Path.{◌≡◌, ap, sym, ◌∙◌}
use mathlib.Core.Bool.{Bool, true}
use mathlib.Core.List.{List}
use Prim.Native.Nat.{ℕ, ◌+◌, ◌-◌, ◌<◌}
use native.Mathlib.Omega.{arith}
use lib.Dec.{eqb}
use lib.ListN.{take, drop}
use lib.Pointwise.{pointwise}
use Rattle.std.proofs.lemmas.Bool.Decides.{Decides-eqb}
use Rattle.std.proofs.lemmas.List.{get_or-take, get_or-drop}
use Rattle.std.proofs.lemmas.Slice.Eq.{slice_eq-Decides}
use Rattle.columns.specs.Column.{col}
use Rattle.dayruns.specs.Private.{Same}
use Rattle.dayruns.proofs.Finding.{row-keyed}
use Rattle.dayruns.proofs.names.row_keyed_from.Goals as goal

-- two stretches of a list that are equal, number by number
module _ (numbers : List ℕ) (key one other : ℕ) where
  abbrev stretch : ℕ → List ℕ
  stretch from = take (from + key - from) (drop from numbers)

  same : {found : Bool} → found ≡ pointwise eqb (stretch one) (stretch other) → found ≡ true → Same (col numbers) key one other
  same {found} compared equal place l =
      sym (at one place (omega (arith, l)))
      ∙ ap (λ list. col list place) ((slice_eq-Decides Decides-eqb (stretch one) (stretch other) found compared).0 equal)
      ∙ at other place (omega (arith, l))
    where
      at : (from place : ℕ) → place < from + key - from → col (stretch from) place ≡ col numbers (from + place)
      at from place l = get_or-take _ (drop from numbers) place 0 l ∙ get_or-drop from numbers place 0

pub returns-then-eq : goal.returns-then-eq
returns-then-eq c = λ l.
    row-keyed _ _ _ _ c.loop-row.row c.form_of-form.ensures c.row_place-start.ensures.0 l
    (same c.args.numbers.now _ _ _ c.eq.ensures c.if-eq.true)
