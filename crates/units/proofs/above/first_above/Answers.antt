-- The search stops at the first figure above the most allowed; where all are kept, there is none.
use Rattle.std.proofs.Common.{◌≡◌, sym, ◌∙◌, rules}
use Rattle.std.specs.List.{position}
use Rattle.std.specs.Ordering.{partial_lt}
use Rattle.std.proofs.lemmas.Iterator.{YieldsList-from_slice}
use Rattle.std.proofs.lemmas.Iterator.Search.{position_from_yields_List}
use Rattle.columns.proofs.Firsts.{unwrap_or-position}
use Rattle.units.proofs.Aboves.{kept_all}
use Rattle.units.proofs.above.first_above.Goals as goal

pub returns-then-keep : goal.returns-then-keep
returns-then-keep g c = kept_all _ _ (sym c.keep.ensures ∙ c.if-keep.true)

pub returns : goal.returns
returns g c =
    let figures = c.args.figures.now in
    let above = partial_lt g.T.PartialOrd.partial_cmp c.args.most in
    let found : c.position.result ≡ position above figures =
    position_from_yields_List above _ _ _ c.position.ensures.ran (YieldsList-from_slice figures cc) (λ x b q h. search rules) in
    rw (c.unwrap_or.ensures, found) (unwrap_or-position above figures)
