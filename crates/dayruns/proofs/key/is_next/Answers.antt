-- The first row follows none; a later one's key is compared with that of the row which ends at it.
use mathlib.Core.Path.{ap, ◌∙◌}
use Prim.Native.Nat.{◌≤◌}
use native.Mathlib.Omega.{arith}
use Rattle.columns.specs.Column.{col}
use Rattle.dayformat.proofs.Small.{small}
use Rattle.dayruns.proofs.Following.{room-before, too_many, follows_none, follows}
use Rattle.dayruns.proofs.key.is_next.Goals as goal

pub returns-then-form-row : goal.returns-then-form-row
returns-then-form-row c =
    let args = c.args in
    too_many args.counts args.tag args.row (col args.numbers.now) c.form_of-form.ensures (omega (arith, c.if-form-row.true))

pub returns-then-row-eq0 : goal.returns-then-row-eq0
returns-then-row-eq0 c =
    let args = c.args in
    follows_none args.counts args.tag args.row (col args.numbers.now) c.if-row-eq0.true

pub overflow_sub-here : goal.overflow_sub-here
overflow_sub-here c =
    let room : c.form_of-form.result.columns ≤ c.args.here =
    rw (c.form_of-form.ensures, c.requires.0) (room-before c.args.counts c.args.tag c.args.row c.if-row-eq0.false) in
    omega (arith, room)

pub is_less-requires : goal.is_less-requires
is_less-requires c =
    let room : c.form_of-form.result.columns ≤ c.args.here =
    rw (c.form_of-form.ensures, c.requires.0) (room-before c.args.counts c.args.tag c.args.row c.if-row-eq0.false) in
    let key = ap (λ c. c.key) c.form_of-form.ensures in
    omega (arith, c.requires.1, key, (small c.args.tag).key, room)

pub returns : goal.returns
returns c =
    let args = c.args in
    c.is_less.ensures
    ∙ follows args.counts args.tag args.row (col args.numbers.now) c.form_of-form.ensures (omega (arith, c.if-form-row.false))
    c.if-row-eq0.false
    c.requires.0
