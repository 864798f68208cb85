-- What the private routines of this crate ask, and what they do.
use Rattle.std.specs.Prelude.{List, ℕ, replicate}
use Rattle.std.proofs.lemmas.List.Edits.{sets}
use Rattle.columns.specs.Column.{listed}
use Rattle.pointhours.specs.Parts.{most_entries}

-- a column of a part's entries at the front of zeros
abbrev pub with_zeros : ℕ → (ℕ → ℕ) → List ℕ
with_zeros many f = sets (replicate most_entries 0) 0 (listed many f)
