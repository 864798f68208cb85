use mathlib.Core.Path.{◌≡◌, ap, sym, ◌∙◌}
use mathlib.Core.Bool.{not}
use mathlib.Core.List.{List}
use Prim.Native.Nat.{ℕ}
use lib.ListN.{length, drop_of_length-le}
use Rattle.columns.specs.Column.{col}
use Rattle.dayformat.specs.declared.form.Tag.{Tag}
use Rattle.dayformat.specs.declared.rules.Pair.{Pair}
use Rattle.dayformat.specs.Format.{◌for◌, mdqs, filled_up}
use Rattle.dayformat.proofs.Filled.{length_filled}
use Rattle.dayrows.specs.Test.{some_idle, starved}
use Rattle.dayrows.proofs.Naming.{idle_filled, idle-here, idle-next}
use Rattle.dayruns.proofs.row.is_fed.Goals as goal

-- the array has as many pairs, and one is without its MDQ where one of the row's is
module _ (tag : Tag) {list : List Pair} (is : list ≡ filled_up 2 (0 for 0) (mdqs tag)) where
  long : length list ≡ 2
  long = ap length is ∙ length_filled 2 (0 for 0) (mdqs tag)

  some_starved : (f : ℕ → ℕ) (at : ℕ) → some_idle f at list ≡ starved f tag at
  some_starved f at = ap (some_idle f at) is ∙ idle_filled f at tag

pub returns-then-is_idle : goal.returns-then-is_idle
returns-then-is_idle c =
    let is = c.mdqs_of-mdqs.ensures in
    sym
    (ap not
    (sym (some_starved c.args.tag is _ _)
    ∙ sym c.loop-pair.invariant
    ∙ idle-here _ _ c.mdqs_of-mdqs.result c.loop-pair.pair-index _ (rw (long c.args.tag is) c.loop-pair-test.true)
    (sym c.is_idle.ensures ∙ c.if-is_idle.true)))

pub loop-pair-preserved : goal.loop-pair-preserved
loop-pair-preserved c =
    sym
    (idle-next _ _ c.mdqs_of-mdqs.result c.loop-pair.pair-index _ (rw (long c.args.tag c.mdqs_of-mdqs.ensures) c.loop-pair-test.true)
    (sym c.is_idle.ensures ∙ c.if-is_idle.false))
    ∙ c.loop-pair.invariant

pub returns : goal.returns
unfolding some_idle
returns c =
    let is = c.mdqs_of-mdqs.ensures in
    let past =
    drop_of_length-le c.mdqs_of-mdqs.result {i = c.loop-pair.pair-index} (rw (long c.args.tag is) c.loop-pair-test.false) in
    ap not
    (ap (some_idle (col c.args.numbers.now) c.args.at) (sym past)
    ∙ c.loop-pair.invariant
    ∙ some_starved c.args.tag is (col c.args.numbers.now) c.args.at)
