-- From the empty account on, an account holds just the days accepted, and what it answers follows from these alone.
use Rattle.std.specs.Prelude.{Ok, Err}
use mathlib.Core.Path.{◌≡◌, refl, sym, ap, ◌∙◌}
use mathlib.Core.Logic.{⊎_elim}
use mathlib.Core.List.{List, [], ◌∷◌, ◌++◌}
use Prim.Native.Nat.{ℕ, zero, suc, ◌+◌, ◌<◌}
use native.Mathlib.Nat.{le_of_suc-le-suc, eq-or-lt_of_le, lt-suc_self}
use native.Mathlib.Numerals.{add-one}
use native.Mathlib.Omega.{arith}
use lib.Dec.{ltb}
use lib.ListN.{length, get_or, take, length-set, length-replicate}
use lib.Seq.{length-take-le, take-suc-set, get_or-take, get_or-set_same, get_or-set_other}
use Rattle.columns.proofs.Joined.{joined_same}
use Rattle.units.specs.Refusals.{accepted_or, keep, Check, first_refusal}
use Rattle.units.specs.Each.{each}
use Rattle.units.proofs.Checks.{then_accepted}
use Rattle.month.specs.declared.account.AccountDay.{AccountDay}
use Rattle.month.specs.declared.account.Account.{Account}
use Rattle.month.specs.Figures.{figures_check}
use Rattle.month.specs.Days.{most_days, no_day, later, days_check, next_check}
use Rattle.month.specs.Account.{no_days, day_at, account_check, taking_check, with_day, take_in}
use Rattle.month.specs.Total.{sums, account_sums, total_up}
use Rattle.month.specs.Statement.{statement_line, statement_lines, total_line, statement_of, statement}
use Rattle.month.specs.Promise.{in_row, finding, joining, accepted_after, findings_after, handed_in, answers, MonthKept}
use Rattle.month.proofs.Accepting.{days-kept, accepts-days, NextKept, next-kept}
use Rattle.month.proofs.Totalling.{sums_same}

-- whether a day is later depends on the days before it alone
later_same : (f g : ℕ → AccountDay) (n : ℕ) → ((row : ℕ) → row < n → f row ≡ g row) → (number : ℕ) → later f n number ≡ later g n number
unfolding later
later_same f g zero all number = refl
later_same f g (suc before) all number = ap (λ day. keep (ltb day.number number) 5) (all before (lt-suc_self before))

-- ---- an accepted day makes a sound account of one
module _ (A : Account) (day : AccountDay) (long : length A.days ≡ most_days) (taken : taking_check A day ≡ Ok tt) where
  abbrev after : Account
  after = with_day A day

  N : NextKept A.count (day_at A) day
  N = next-kept A.count (day_at A) day taken

  old_row : (row : ℕ) → row < A.count → day_at after row ≡ day_at A row
  old_row row l = get_or-set_other A.days A.count row day no_day (λ e. omega (arith, e, l))

  new_row : day_at after A.count ≡ day
  new_row = get_or-set_same A.days A.count day no_day (omega (arith, N.few, long))

  every-row : (P : ℕ → Type 0) → ((row : ℕ) → row < A.count → P row) → P A.count → (row : ℕ) → row < A.count + 1 → P row
  every-row P old new row l =
      ⊎_elim (λ e. rw e new) (old row) (eq-or-lt_of_le (le_of_suc-le-suc (rw add-one at l)))

  -- for callers: what holds of each day held, and of the day, holds of each day afterwards
  pub after-each : (P : AccountDay → Type 0) → ((row : ℕ) → row < A.count → P (day_at A row)) → P day
      → (row : ℕ) → row < after.count → P (day_at after row)
  after-each P old new = every-row (λ row. P (day_at after row)) (λ row l. rw (old_row row l) (old row l)) (rw new_row new)

  pub after-sound : account_check after ≡ Ok tt
  after-sound =
      let K = days-kept A.count (day_at A) N.before in
      accepts-days (A.count + 1) (day_at after)
      (record {
        few = omega (arith, N.few);
        figures = after-each (λ day. figures_check day.figures ≡ Ok tt) K.figures N.figures;
        rise =
            every-row (λ row. later (day_at after) row (day_at after row).number ≡ Ok tt)
            (λ row l.
            later_same (day_at after) (day_at A) row (λ k m. old_row k (omega (arith, l, m))) _ ∙ rw (old_row row l) (K.rise row l))
            (later_same (day_at after) (day_at A) A.count old_row _ ∙ rw new_row N.rises);
      })

  pub after-long : length after.days ≡ most_days
  after-long = length-set A.days A.count day ∙ long

  pub after-days : take after.count after.days ≡ take A.count A.days ++ (day ∷ [])
  after-days = rw add-one (take-suc-set A.days A.count day (omega (arith, N.few, long)))

-- ---- an account and the days accepted
record Holding (A : Account) (accepted : List AccountDay) : Type 0 where
  long : length A.days ≡ most_days
  sound : account_check A ≡ Ok tt
  holds : take A.count A.days ≡ accepted

module _ (A : Account) (accepted : List AccountDay) (H : Holding A accepted) where
  many : A.count ≡ length accepted
  many =
      sym (length-take-le A.count A.days (omega (arith, (days-kept A.count (day_at A) H.sound).few, H.long)))
      ∙ ap length H.holds

  row_same : (row : ℕ) → row < A.count → day_at A row ≡ in_row accepted row
  row_same row l = sym (get_or-take A.count A.days row no_day l) ∙ ap (λ days. get_or days row no_day) H.holds

  finding-same : (day : AccountDay) → taking_check A day ≡ finding accepted day
  unfolding next_check finding
  finding-same day =
      rw (H.sound, then_accepted, later_same (day_at A) (in_row accepted) A.count row_same day.number, many)

  holding_next : (day : AccountDay) → Holding (take_in A day).account (joining accepted day)
  holding_next day = rw (finding-same day) (by (finding accepted day) (finding-same day))
    where
      by : (found : Check) → taking_check A day ≡ found
          → Holding (accepted_or found (with_day A day) A) (accepted_or found (accepted ++ (day ∷ [])) accepted)
      by (Ok _) e =
          record {
            long = after-long A day H.long e;
            sound = after-sound A day H.long e;
            holds = after-days A day H.long e ∙ ap (λ days. days ++ (day ∷ [])) H.holds;
          }
      by (Err refusal) e = H

  sums-held : account_sums A ≡ sums (length accepted) (in_row accepted)
  sums-held = sums_same (day_at A) (in_row accepted) A.count row_same ∙ ap (λ n. sums n (in_row accepted)) many

  total-held : (total_up A).total ≡ Ok (sums (length accepted) (in_row accepted))
  total-held = rw H.sound (ap Ok sums-held)

  statement-held : statement A ≡ statement_of (length accepted) (in_row accepted)
  statement-held =
      ap (λ figures. statement_lines A.count (day_at A) ++ total_line figures) sums-held
      ∙ ap (λ lines. lines ++ total_line (sums (length accepted) (in_row accepted)))
      (joined_same A.count _ _ (λ row l. ap statement_line (row_same row l)) ∙ ap (λ n. statement_lines n (in_row accepted)) many)

-- ---- day after day
holding_after : (A : Account) (accepted days : List AccountDay) → Holding A accepted
    → Holding (handed_in A days) (accepted_after accepted days)
unfolding handed_in accepted_after
holding_after A accepted [] H = H
holding_after A accepted (day ∷ days) H =
    holding_after (take_in A day).account (joining accepted day) days (holding_next A accepted H day)

answers-after : (A : Account) (accepted days : List AccountDay) → Holding A accepted → answers A days ≡ findings_after accepted days
unfolding answers findings_after
answers-after A accepted [] H = refl
answers-after A accepted (day ∷ days) H =
    ap (λ found. found ∷ answers (take_in A day).account days) (finding-same A accepted H day)
    ∙ ap (λ rest. finding accepted day ∷ rest)
    (answers-after (take_in A day).account (joining accepted day) days (holding_next A accepted H day))

-- for callers: the empty account
pub none-long : length no_days.days ≡ most_days
none-long = length-replicate most_days no_day

pub none-sound : account_check no_days ≡ Ok tt
unfolding days_check each first_refusal keep
none-sound = refl

holding_none : Holding no_days []
holding_none = record { long = none-long; sound = none-sound; holds = refl }

pub month_kept : (days : List AccountDay) → MonthKept days
month_kept days =
    let H = holding_after no_days [] days holding_none in
    record {
      found = answers-after no_days [] days holding_none;
      holds = H.holds;
      totals = total-held _ _ H;
      prints = statement-held _ _ H;
    }
