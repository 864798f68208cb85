-- What `share_hour` answers, and what it leaves in the lent list.
use Rattle.std.specs.Prelude.{◌≡◌, not, List, ℕ, leb, eqb, length, Result, Ok, Err}
use Rattle.std.proofs.lemmas.List.Edits.{sets}
use Rattle.columns.specs.Column.{listed}
use Rattle.columns.specs.Sum.{sum}
use Rattle.units.specs.declared.Megajoules.{Megajoules}
use Rattle.units.specs.Bound.{most_hour, most_gigajoules, most_rows}
use Rattle.units.specs.Refusals.{◌then◌, keep, within, accepted_or, Check}
use Rattle.units.specs.Verdict.{Verdict, accepting, refusing}
use Rattle.pointshares.specs.Share.{hour_shares, stranded}
use Rattle.units.specs.declared.refusal.Refusal.{Refusal}

-- refused: 9 unequal lists; 3 the capacity, the count, an entitlement, a firm MDQ; 6 stranded capacity; 7 the lent list
unfoldable pub hour_check : ℕ → List ℕ → List ℕ → ℕ → Check
hour_check h entitlements mdqs room =
    Ok tt
    then keep (eqb (length entitlements) (length mdqs)) 9
    then keep (leb h most_hour) 3
    then keep (leb (length entitlements) most_rows) 3
    then within most_hour entitlements
    then within most_gigajoules mdqs
    then keep (not (stranded entitlements mdqs h)) 6
    then keep (leb (length entitlements) room) 7

-- what the shippers are given together
abbrev pub hour_given : ℕ → List ℕ → List ℕ → Megajoules
hour_given h entitlements mdqs = record { 0 = sum (length entitlements) (hour_shares entitlements mdqs h) }

abbrev pub hour_answer : Check → Megajoules → Result Megajoules Refusal
hour_answer (Ok _) g = Ok g
hour_answer (Err x) g = Err x

-- 01's number, place and figure of each case
abbrev pub hour_verdict : Result Megajoules Refusal → Verdict Megajoules
hour_verdict (Ok g) = accepting g
hour_verdict (Err x) = refusing x (record { 0 = 0 })

-- the lent list afterwards: the shares at its front where accepted, as it was where refused
abbrev pub hour_afterwards : ℕ → List ℕ → List ℕ → List ℕ → List ℕ
hour_afterwards h entitlements mdqs lent =
    accepted_or (hour_check h entitlements mdqs (length lent))
    (sets lent 0 (listed (length entitlements) (hour_shares entitlements mdqs h))) lent

-- the statement of `share_hour`: its answer, and the lent list before and after
pub record HourAnswered (h : ℕ) (entitlements mdqs lent : List ℕ) (hour : Result Megajoules Refusal) (after : List ℕ) : Type 0 where
  pub answers : hour ≡ hour_answer (hour_check h entitlements mdqs (length lent)) (hour_given h entitlements mdqs)
  pub leaves : after ≡ hour_afterwards h entitlements mdqs lent
