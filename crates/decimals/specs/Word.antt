-- A word that is one decimal number within a bound: digits alone, at least one; zeros may lead.
use Rattle.std.specs.Prelude.{Bool, false, cond, not, List, ℕ, leb, ltb, length, Result, Ok, Err}
use Rattle.columns.specs.Column.{col}
use Rattle.columns.specs.First.{first}
use Rattle.units.specs.Refusals.{◌then◌, keep, Check}
use Rattle.units.specs.Verdict.{Verdict, accepting, refusing}
use Rattle.text.specs.Text.{value}
use Rattle.units.specs.declared.refusal.Refusal.{Refusal}

-- 48 is the byte of 0, 57 that of 9
unfoldable pub is_digit : ℕ → Bool
is_digit byte = cond (ltb byte 48) false (leb byte 57)

unfoldable pub word_check : List ℕ → ℕ → Check
word_check word most =
    Ok tt
    then keep (ltb 0 (length word)) 3
    then keep (leb (length word) (first (length word) (λ place. not (is_digit (col word place))))) 3
    then keep (leb (value word) most) 3

abbrev pub decimal_answer : Check → ℕ → Result ℕ Refusal
decimal_answer (Ok _) number = Ok number
decimal_answer (Err x) number = Err x

abbrev pub decimal_of : List ℕ → ℕ → Result ℕ Refusal
decimal_of word most = decimal_answer (word_check word most) (value word)

-- 01's number and place of each case, and the number read
abbrev pub decimal_verdict : Result ℕ Refusal → Verdict ℕ
decimal_verdict (Ok n) = accepting n
decimal_verdict (Err x) = refusing x 0
