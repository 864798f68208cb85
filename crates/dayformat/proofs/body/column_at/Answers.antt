use mathlib.Core.Path.{ap, sym, ◌∙◌}
use lib.ListN.{drop_of_length-le}
use Rattle.dayformat.specs.Format.{column_in}
use Rattle.dayformat.proofs.Bodies.{column-here, column-after}
use Rattle.dayformat.proofs.body.column_at.Goals as goal

pub returns-then-left-several : goal.returns-then-left-several
returns-then-left-several c =
    sym (column-here c.body_of-several-items.result.now c.loop-several.several-index _ _ c.loop-several-test.true c.if-left-several.true)
    ∙ c.loop-several.invariant

pub loop-several-preserved : goal.loop-several-preserved
loop-several-preserved c =
    sym (column-after c.body_of-several-items.result.now c.loop-several.several-index _ _ c.loop-several-test.true c.if-left-several.false)
    ∙ c.loop-several.invariant

pub returns : goal.returns
unfolding column_in
returns c =
    let past = drop_of_length-le c.body_of-several-items.result.now {i = c.loop-several.several-index} c.loop-several-test.false in
    ap (λ kinds. column_in kinds c.loop-several.left) (sym past) ∙ c.loop-several.invariant
