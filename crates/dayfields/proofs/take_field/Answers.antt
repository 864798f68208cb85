-- A broken field is refused before its row is read; a whole one is tested where its row then stands.
use mathlib.Core.Path.{sym, ◌∙◌}
use native.Mathlib.Omega.{arith}
use Rattle.std.proofs.lemmas.Result.{err_from_is_err_and}
use Rattle.dayrows.proofs.Breaking.{Whole, broken-none}
use Rattle.dayfields.proofs.Taking.{taken-broken, taken-whole}
use Rattle.dayfields.proofs.take_field.Goals as goal

pub returns-in_err-breaks : goal.returns-in_err-breaks
returns-in_err-breaks c =
    let p = err_from_is_err_and c.from_residual.result c.from_residual.ensures.1 in
    rw (p.1, p.2) (taken-broken _ _ _ _ _ _ _ (sym c.breaks.ensures ∙ c.in_err-breaks.was))

pub overflow_add-at : goal.overflow_add-at
overflow_add-at c =
    let whole : Whole c.args.file.now c.args.tag c.args.at = broken-none _ _ _ (sym c.breaks.ensures ∙ c.in_ok-breaks.was) in
    omega (arith, whole.there, c.well_formed.1.1.0.0)

pub read_row-requires : goal.read_row-requires
read_row-requires c =
    let whole : Whole c.args.file.now c.args.tag c.args.at = broken-none _ _ _ (sym c.breaks.ensures ∙ c.in_ok-breaks.was) in
    (omega (arith, whole.there), omega (arith, c.row_place.ensures.1))

pub returns : goal.returns
returns c =
    let args = c.args in
    taken-whole args.source args.counts args.file.now args.tag args.at args.row args.numbers.now
    (sym c.breaks.ensures ∙ c.in_ok-breaks.was)
    (rw (← c.row_place.ensures.0) c.read_row.ensures) c.row_fault.ensures
