use mathlib.Core.Path.{ap, sym, ◌∙◌}
use native.Mathlib.Nat.{le_antisymm}
use native.Mathlib.Numerals.{add-one}
use lib.ListN.{length, length-replicate}
use Rattle.dayformat.specs.Layout.{most_numbers}
use Rattle.dayfile.proofs.Stages.{stage_first, stage_next, stage_last}
use Rattle.dayfile.proofs.walk.walk_file.Goals as goal

pub loop-place-init : goal.loop-place-init
loop-place-init c = stage_first _ c.begin-walk.ensures c.requires

pub loop-place-preserved : goal.loop-place-preserved
loop-place-preserved c =
    rw add-one
    (stage_next _ c.loop-place.place c.loop-place-test.true c.loop-place.invariant
    (rw c.tag_at.ensures at c.walk_table-walk.ensures) c.walk_table-walk.auto.numbers)

pub shape_of-numbers : goal.shape_of-numbers
shape_of-numbers c =
    c.loop-place.invariant.room ∙ sym (ap length c.requires ∙ length-replicate most_numbers 0)

pub returns : goal.returns
returns c =
    let all = le_antisymm c.loop-place.auto.place-end c.loop-place-test.false in
    stage_last _ (rw all at c.loop-place.invariant) c.end.ensures
