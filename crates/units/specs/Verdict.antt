-- 01, "Some places and their forms": an answer that is an enum has this paper's number and values for each of its cases.
use Rattle.std.specs.Prelude.{◌≡◌, ℕ, ◌≤◌, Ok, Err}
use Rattle.units.specs.declared.refusal.Refusal.{Refusal}
use Rattle.units.specs.Refusals.{Check}

-- what an answer says: 01's number, the place, the figures
pub record Verdict (Figures : Type 0) : Type 0 where
  pub number : ℕ
  pub place : ℕ
  pub figures : Figures

-- an accepted input's number and place are 0
abbrev pub accepting : {Figures : Type 0} → Figures → Verdict Figures
accepting figures = record { number = 0; place = 0; figures = figures }

-- a refusal's are its own, and its figures are handed in: zeros
abbrev pub refusing : {Figures : Type 0} → Refusal → Figures → Verdict Figures
refusing refusal zeros = record { number = refusal.number; place = refusal.place; figures = zeros }

-- a check has no figures
abbrev pub of_check : Check → Verdict (Unit {0})
of_check (Ok _) = accepting tt
of_check (Err refusal) = refusing refusal tt

-- the numbers that 01 gives refusals
pub record Numbered (refusal : Refusal) : Type 0 where
  pub least : 1 ≤ refusal.number
  pub most : refusal.number ≤ 11

-- what the tests find is what an answer says: number 0 exactly where they accept, with the figures worked out; else the number and
-- the place of the first that refuses, with zeros for figures
pub record Decided {Figures : Type 0} (found : Check) (worked_out zeros : Figures) (verdict : Verdict Figures) : Type 0 where
  pub accepted : found ≡ Ok tt → (verdict.number ≡ 0) × (verdict.place ≡ 0) × (verdict.figures ≡ worked_out)
  pub refused :
      (refusal : Refusal)
      → found ≡ Err refusal
      → (verdict.number ≡ refusal.number) × (verdict.place ≡ refusal.place) × (verdict.figures ≡ zeros) × Numbered refusal
  pub exactly : verdict.number ≡ 0 → found ≡ Ok tt
