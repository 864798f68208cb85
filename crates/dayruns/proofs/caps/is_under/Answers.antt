-- Where nothing is capped none is above; else both rows are looked at.
use mathlib.Core.Path.{◌≡◌, ap}
use mathlib.Core.List.{List}
use Prim.Native.Nat.{ℕ, ◌+◌, ◌*◌, ◌≤◌}
use native.Mathlib.Omega.{arith}
use lib.ListN.{length}
use Rattle.dayformat.specs.declared.form.Tag.{Tag}
use Rattle.dayformat.specs.declared.form.Form.{Form}
use Rattle.dayformat.specs.declared.rules.Cap.{Cap}
use Rattle.dayformat.specs.declared.layout.Counts.{Counts}
use Rattle.dayformat.specs.Format.{cap, form}
use Rattle.dayformat.specs.Layout.{row_start}
use Rattle.dayrows.proofs.Capping.{cap-inside, all_under_by}
use Rattle.dayruns.specs.Private.{CapsInside}
use Rattle.dayruns.proofs.Finding.{row_here}
use Rattle.dayruns.proofs.caps.is_under.Goals as goal

-- the numbers that are capped and those that cap them lie within the numbers
inside : (counts : Counts) (tag named : Tag) (at : ℕ) (numbers : List ℕ) {row start : ℕ} {capping : Cap} {found : Form}
    → CapsInside counts tag named at row numbers → capping ≡ cap tag → found ≡ form named → start ≡ row_start counts named 0
    → (capping.many ≡ 0 → ⊥)
    → (at + capping.place + capping.many ≤ length numbers)
    × (start + row * found.columns + capping.under + capping.many ≤ length numbers)
inside counts tag named at numbers {row} R capped formed begins some =
    rw capped (
      omega (arith, R.2, (cap-inside tag).inside),
      omega (
        arith,
        R.3,
        some,
        ap (λ cap. cap.many) capped,
        rw (← R.0) at (cap-inside tag).under,
        row_here counts named numbers at row formed begins R.1,
      ),
    )

pub returns-then-cap-eq0 : goal.returns-then-cap-eq0
returns-then-cap-eq0 c = λ yes.
    all_under_by _ _ _ _ (λ place l. absurd (omega (arith, l, ap (λ cap. cap.many) c.cap_of-cap.ensures, c.if-cap-eq0.true)))

pub overflow_mul-start : goal.overflow_mul-start
overflow_mul-start c =
    omega (arith, inside _ _ _ _ _ c.requires c.cap_of-cap.ensures c.form_of.ensures c.row_place.ensures.0 c.if-cap-eq0.false)

pub overflow_add-start : goal.overflow_add-start
overflow_add-start c =
    omega (arith, inside _ _ _ _ _ c.requires c.cap_of-cap.ensures c.form_of.ensures c.row_place.ensures.0 c.if-cap-eq0.false)

pub overflow_add-at : goal.overflow_add-at
overflow_add-at c =
    omega (arith, inside _ _ _ _ _ c.requires c.cap_of-cap.ensures c.form_of.ensures c.row_place.ensures.0 c.if-cap-eq0.false)

pub overflow_add-start-2 : goal.overflow_add-start-2
overflow_add-start-2 c =
    omega (arith, inside _ _ _ _ _ c.requires c.cap_of-cap.ensures c.form_of.ensures c.row_place.ensures.0 c.if-cap-eq0.false)

pub are_under-requires : goal.are_under-requires
are_under-requires c =
    omega (arith, inside _ _ _ _ _ c.requires c.cap_of-cap.ensures c.form_of.ensures c.row_place.ensures.0 c.if-cap-eq0.false)

pub returns : goal.returns
returns c =
    rw (
      ← row_here c.args.counts c.args.named c.args.numbers.now c.args.at c.args.row
          c.form_of.ensures c.row_place.ensures.0 c.requires.1,
      ← c.cap_of-cap.ensures,
    )
    c.are_under.ensures
