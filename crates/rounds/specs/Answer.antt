-- What `share_round` answers, and what it leaves in the lent list.
use Rattle.std.specs.Prelude.{◌≡◌, List, ℕ, leb, eqb, length, Result, Ok, Err}
use Rattle.std.proofs.lemmas.List.Edits.{sets}
use Rattle.columns.specs.Column.{col, listed}
use Rattle.columns.specs.Sum.{sum}
use Rattle.sharing.specs.Round.{level, shares}
use Rattle.units.specs.Bound.{most_capacity, most_gigajoules, most_rows}
use Rattle.units.specs.Refusals.{◌then◌, keep, within, accepted_or, Check}
use Rattle.units.specs.Verdict.{Verdict, accepting, refusing}
use Rattle.rounds.specs.declared.Given.{Given}
use Rattle.units.specs.declared.refusal.Refusal.{Refusal}

-- refused: 9 unequal lists; 3 the capacity, the count, a weight, a need; 7 the lent list
unfoldable pub round_check : ℕ → List ℕ → List ℕ → ℕ → Check
round_check c ws qs room =
    Ok tt
    then keep (eqb (length ws) (length qs)) 9
    then keep (leb c most_capacity) 3
    then keep (leb (length ws) most_rows) 3
    then within most_gigajoules ws
    then within most_gigajoules qs
    then keep (leb (length ws) room) 7

-- the level, and what the rows are given together
abbrev pub round_given : ℕ → List ℕ → List ℕ → Given
round_given c ws qs =
    record {
      level = level (length ws) (col ws) (col qs) c;
      total = record { 0 = sum (length ws) (shares (length ws) (col ws) (col qs) c) };
    }

abbrev pub round_answer : Check → Given → Result Given Refusal
round_answer (Ok _) g = Ok g
round_answer (Err x) g = Err x

-- 01's number, place and figures of each case
abbrev pub round_verdict : Result Given Refusal → Verdict Given
round_verdict (Ok g) = accepting g
round_verdict (Err x) = refusing x (record { level = 0; total = record { 0 = 0 } })

-- the statement of `share_round`: its answer, and the lent list before and after
pub record RoundAnswered (c : ℕ) (ws qs lent : List ℕ) (round : Result Given Refusal) (after : List ℕ) : Type 0 where
  pub answers : round ≡ round_answer (round_check c ws qs (length lent)) (round_given c ws qs)
  pub leaves :
      after
      ≡ accepted_or (round_check c ws qs (length lent)) (sets lent 0 (listed (length ws) (shares (length ws) (col ws) (col qs) c))) lent
