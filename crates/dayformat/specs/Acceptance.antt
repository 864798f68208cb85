-- 01, "Refusal numbers": a count beyond its bound is 3.
use Rattle.std.specs.Prelude.{leb}
use Rattle.units.specs.Refusals.{keep, Check}
use Rattle.units.specs.Each.{each}
use Rattle.dayformat.specs.declared.layout.Counts.{Counts}
use Rattle.dayformat.specs.Format.{most, many_tables, tag_at}
use Rattle.dayformat.specs.Layout.{count}

-- the fields of each tag, in file order
unfoldable pub counts_check : Counts → Check
counts_check counts = each many_tables (λ place. keep (leb (count counts (tag_at place)) (most (tag_at place))) 3)
