-- An answer as one number in fixed decimal digits: the last fifteen hold a value where accepted and the place where refused, the
-- two before them 01's number (00 where accepted), and those before these a kind, which no refusal has yet. No value and no place
-- that a function packs is as great as 10^15, so what is read out is the answer, for every input.
use Rattle.std.specs.Prelude.{◌≡◌, ℕ, ◌+◌, ◌*◌, ◌/◌, ◌%◌, Ok, Err}
use Rattle.units.specs.declared.refusal.Refusal.{Refusal}
use Rattle.units.specs.Verdict.{Verdict}
use Rattle.units.specs.Refusals.{Check}

-- what 1 counts for in the digits of the number, and in those of the kind
abbrev pub one_number : ℕ
one_number = 1_000_000_000_000_000

abbrev pub one_kind : ℕ
one_kind = 100_000_000_000_000_000

abbrev pub accepted : ℕ → ℕ
accepted value = value % one_number

abbrev pub refused : Refusal → ℕ
refused refusal = refusal.number * one_number + refusal.place % one_number

-- ---- what a caller reads out of it
abbrev pub kind_in : ℕ → ℕ
kind_in packed = packed / one_kind

abbrev pub number_in : ℕ → ℕ
number_in packed = packed / one_number % 100

abbrev pub figure_in : ℕ → ℕ
figure_in packed = packed % one_number

-- and what that is: no kind; the number that an answer has; where it is 0 the figure, else the place
pub record Unpacks {Figures : Type 0} (packed : ℕ) (verdict : Verdict Figures) (figure : Figures → ℕ) : Type 0 where
  pub of_kind : kind_in packed ≡ 0
  pub of_number : number_in packed ≡ verdict.number
  pub of_figure : verdict.number ≡ 0 → figure_in packed ≡ figure verdict.figures
  pub of_place : (verdict.number ≡ 0 → ⊥) → figure_in packed ≡ verdict.place

-- ---- of what the tests find, with the value where they accept
abbrev pub packed_check : Check → ℕ → ℕ
packed_check (Ok _) value = accepted value
packed_check (Err refusal) value = refused refusal
