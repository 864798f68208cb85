-- A refused list has the empty part at its end; in an accepted one the searches find the point's run.
use mathlib.Core.Path.{refl, sym, ◌∙◌}
use native.Mathlib.Omega.{arith}
use Rattle.pointentries.proofs.EntryParts.{part-from, refused-start, refused-long, few-rows, accepted-start, accepted-long}
use Rattle.pointentries.proofs.part_of.Goals as goal

pub first_entry-row-requires : goal.first_entry-row-requires
first_entry-row-requires c = few-rows _ _ _ (sym c.check_list.ensures.answers ∙ c.in-Ok.is)

pub many_entries-many-requires : goal.many_entries-many-requires
many_entries-many-requires c =
    (c.first_entry-row.ensures.1, few-rows _ _ _ (sym c.check_list.ensures.answers ∙ c.in-Ok.is))

pub returns-in-Err : goal.returns-in-Err
returns-in-Err c =
    let refused = sym c.check_list.ensures.answers ∙ c.in-Err.is in
    part-from _ _ (refused-start _ _ _ refused) (refused-long _ _ _ refused) refl refl (omega arith)

pub returns-in-Ok : goal.returns-in-Ok
returns-in-Ok c =
    let accepted = sym c.check_list.ensures.answers ∙ c.in-Ok.is in
    let holds = c.check_list.ensures.holds c.in-Ok.is in
    part-from _ _ (accepted-start _ _ _ accepted holds c.first_entry-row.ensures.0)
    (accepted-long _ _ _ accepted holds c.first_entry-row.ensures.0 c.many_entries-many.ensures.0) refl refl (omega arith)
