use mathlib.Core.Path.{refl, sym, ◌∙◌}
use mathlib.Core.Bool.{true≢false}
use native.Mathlib.Omega.{arith}
use Rattle.dayruns.proofs.KindReading.{number-there, reading-none, reading-next, reading-all}
use Rattle.dayruns.proofs.kind.read_kind.Goals as goal
use Rattle.dayruns.proofs.kind.read_kind.Goals.{then-column-number, else-column-number, then-number-column, else-number-column}

pub loop-place-init : goal.loop-place-init
loop-place-init c = reading-none _ _ _ _ _

pub overflow_mul-byte : goal.overflow_mul-byte
overflow_mul-byte c = omega (arith, number-there _ _ _ c.loop-place.place c.loop-place-test.true c.requires.1)

pub overflow_add-byte : goal.overflow_add-byte
overflow_add-byte c = omega (arith, number-there _ _ _ c.loop-place.place c.loop-place-test.true c.requires.1)

pub overflow_add-byte-in-loop-place : goal.overflow_add-byte-in-loop-place
overflow_add-byte-in-loop-place c = omega (arith, number-there _ _ _ c.loop-place.place c.loop-place-test.true c.requires.1)

pub slice_bounds-number_at-end : goal.slice_bounds-number_at-end
slice_bounds-number_at-end c = omega (arith, number-there _ _ _ c.loop-place.place c.loop-place-test.true c.requires.1)

pub loop-place-preserved : goal.loop-place-preserved
loop-place-preserved c =
    reading-next _ _ _ _ _
    c.loop-place.place c.loop-place.invariant c.loop-place-test.true c.requires.0 c.number_at-number.ensures refl
    (λ kept. elim c.if-column-number.branch [
      | then-column-number w ↦ absurd (true≢false (sym kept ∙ w.kept-is))
      | else-column-number w ↦ elim c.if-number-column.branch [
        | then-number-column v ↦ absurd (true≢false (sym kept ∙ w.kept-is ∙ v.kept-is))
        | else-number-column v ↦ (sym v.kept-is ∙ sym w.kept-is ∙ kept, v.if-number-column.false, w.if-column-number.false)
      ]
    ])

pub returns : goal.returns
returns c =
    reading-all _ _ _ _ _ c.loop-place.place c.loop-place.invariant c.loop-place-test.false
