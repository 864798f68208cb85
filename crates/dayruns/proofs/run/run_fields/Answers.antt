use mathlib.Core.Path.{◌≡◌, ap, sym, ◌∙◌}
use Prim.Native.Nat.{ℕ, ◌+◌, ◌^◌, ◌≤◌, ◌<◌}
use native.Mathlib.Omega.{arith}
use Rattle.dayformat.specs.declared.form.Tag.{Tag}
use Rattle.dayformat.specs.declared.layout.Counts.{Counts}
use Rattle.dayformat.specs.Format.{form}
use Rattle.dayformat.specs.Layout.{row_start}
use Rattle.dayformat.proofs.Small.{small, rows-small}
use Rattle.dayrows.proofs.Finding.{ok-none}
use Rattle.dayfields.proofs.Taking.{taken-long}
use Rattle.dayruns.proofs.Running.{begun-inside, going_none, going_long, run-over, run-faulty, going_few, going_there, going_next}
use Rattle.dayruns.proofs.run.run_fields.Goals as goal

-- the row stands not far
near : (counts : Counts) (tag : Tag) {rows to start : ℕ} → rows ≤ (form tag).most → to ≡ row_start counts tag rows
    → (start ≡ row_start counts tag 0) × (start < 2 ^ 40) → to < 2 ^ 42 + 2 ^ 39
near counts tag {rows} inside here begins =
    omega (arith, here, begins, rows-small tag rows (omega (arith, inside, (small tag).most)))

pub overflow_add-place : goal.overflow_add-place
overflow_add-place c = omega (arith, ap (λ form. form.size) c.form_of-form.ensures, (small c.args.tag).size)

pub loop-source-init : goal.loop-source-init
loop-source-init c = (going_none _ _, c.row_place-to.ensures.0)

pub shape_of-numbers-then-is_err : goal.shape_of-numbers-then-is_err
shape_of-numbers-then-is_err c =
    taken-long _ _ _ _ _ _ _ c.take_near-step.ensures ∙ going_long _ _ c.loop-source.invariant.0

pub returns-then-is_err : goal.returns-then-is_err
returns-then-is_err c =
    run-faulty _ _ c.loop-source.invariant.0 (sym c.begins.ensures ∙ c.loop-source-test.true)
    c.take_near-step.ensures c.if-is_err.ensures.negation

pub overflow_add-rows : goal.overflow_add-rows
overflow_add-rows c =
    omega (
      arith,
      going_few _ _ c.loop-source.invariant.0 (sym c.begins.ensures ∙ c.loop-source-test.true)
          c.take_near-step.ensures (ok-none _ c.if-is_err.ensures.negation),
      (small c.args.tag).most,
    )

pub overflow_add-place-in-loop-source : goal.overflow_add-place-in-loop-source
overflow_add-place-in-loop-source c =
    omega (
      arith,
      going_there _ _ c.loop-source.invariant.0 (sym c.begins.ensures ∙ c.loop-source-test.true)
          c.take_near-step.ensures (ok-none _ c.if-is_err.ensures.negation),
      ap (λ form. form.size) c.form_of-form.ensures,
      c.well_formed.1.1.0.0,
    )

pub overflow_add-to : goal.overflow_add-to
overflow_add-to c =
    omega (
      arith,
      near _ _ c.loop-source.invariant.0.searched.inside c.loop-source.invariant.1 c.row_place-to.ensures,
      (small c.args.tag).columns,
      ap (λ c. c.columns) c.form_of-form.ensures,
    )

pub loop-source-smaller : goal.loop-source-smaller
loop-source-smaller c = omega (arith, begun-inside _ _ _ (sym c.begins.ensures ∙ c.loop-source-test.true))

pub loop-source-preserved : goal.loop-source-preserved
loop-source-preserved c = (
  rw c.form_of-form.ensures
      (going_next _ _ c.loop-source.invariant.0 (sym c.begins.ensures ∙ c.loop-source-test.true)
      c.take_near-step.ensures (ok-none _ c.if-is_err.ensures.negation)),
  omega (arith, c.loop-source.invariant.1, ap (λ c. c.columns) c.form_of-form.ensures),
)

pub shape_of-numbers : goal.shape_of-numbers
shape_of-numbers c = going_long _ _ c.loop-source.invariant.0

pub returns : goal.returns
returns c = run-over _ _ c.loop-source.invariant.0 (sym c.begins.ensures ∙ c.loop-source-test.false)
