-- The file's entries are cut out and parted where side 1 begins.
use Rattle.pointlisting.proofs.FileLists.{end-inside, split-inside, split-long, readable}
use Rattle.pointlisting.proofs.list.list_day.Goals as goal

pub slice_bounds-entries-end : goal.slice_bounds-entries-end
slice_bounds-entries-end c =
    end-inside _ (λ i. (c.type_inv.file i).fits) _ _ c.requires c.entries_start-start.ensures c.entries_end-end.ensures

pub slice_bounds-points-end : goal.slice_bounds-points-end
slice_bounds-points-end c =
    split-long _ (λ i. (c.type_inv.file i).fits) _ _ c.requires c.entries_start-start.ensures c.entries_end-end.ensures
    c.first_delivery-split.ensures

pub slice_bounds-points-count : goal.slice_bounds-points-count
slice_bounds-points-count c =
    split-inside _ (λ i. (c.type_inv.file i).fits) _ _ c.requires c.entries_start-start.ensures c.entries_end-end.ensures
    c.first_delivery-split.ensures

pub slice_bounds-points-start : goal.slice_bounds-points-start
slice_bounds-points-start c =
    split-inside _ (λ i. (c.type_inv.file i).fits) _ _ c.requires c.entries_start-start.ensures c.entries_end-end.ensures
    c.first_delivery-split.ensures

pub invariant_of-points : goal.invariant_of-points
invariant_of-points c = record {
  readable =
      readable _ (λ i. (c.type_inv.file i).fits) _ _ c.requires c.entries_start-start.ensures c.entries_end-end.ensures
      c.first_delivery-split.ensures;
}
