-- A chain of tests refuses by 01's numbers alone, so an answer's number is 0 exactly where they all accept.
use Rattle.std.specs.Prelude.{Ok, Err}
use mathlib.Core.Path.{◌≡◌, refl, sym, ap}
use mathlib.Core.Bool.{Bool, true, false, cond}
use Prim.Native.Nat.{ℕ, zero, suc, ◌<◌}
use native.Mathlib.Nat.{le_step, lt-suc_self}
use native.Mathlib.Omega.{arith}
use borrow.Author.Tests.{leb-false}
use lib.Dec.{T, leb, lit≤}
use Rattle.units.specs.declared.refusal.Refusal.{Refusal}
use Rattle.units.specs.Refusals.{plain, at_row, ◌then◌, keep, clear, placed, Check, first_refusal}
use Rattle.units.specs.Each.{each}
use Rattle.units.specs.Verdict.{Verdict, accepting, refusing, of_check, Numbered, Decided}
use Rattle.units.proofs.Checks.{no_acceptance, refusal_is}

-- ---- what every refusal of a chain has
abbrev pub Refuses : (Refusal → Type 0) → Check → Type 0
Refuses P found = (refusal : Refusal) → found ≡ Err refusal → P refusal

module _ (P : Refusal → Type 0) where
  pub refuses_none : Refuses P (Ok tt)
  refuses_none refusal e = no_acceptance (sym e)

  -- a later test is looked at only where the earlier ones accept
  pub refuses_then : (a b : Check) → Refuses P a → (a ≡ Ok tt → Refuses P b) → Refuses P (a then b)
  unfolding first_refusal
  refuses_then (Ok _) b A B = B refl
  refuses_then (Err x) b A B = A

  pub refuses_keep : (kept : Bool) (number : ℕ) → P (plain number) → Refuses P (keep kept number)
  unfolding keep
  refuses_keep true number p refusal e = no_acceptance (sym e)
  refuses_keep false number p refusal e = rw (← refusal_is e) p

  pub refuses_clear : (rows found number : ℕ) → (found < rows → P (at_row number found)) → Refuses P (clear rows found number)
  unfolding clear
  refuses_clear rows found number p = by (leb rows found) refl
    where
      by : (b : Bool) → leb rows found ≡ b → Refuses P (cond b (Ok tt) (Err (at_row number found)))
      by true h refusal e = no_acceptance (sym e)
      by false h refusal e = rw (← refusal_is e) (p (leb-false rows found h))

  pub refuses_placed : (row : ℕ) (found : Check) → ((refusal : Refusal) → found ≡ Err refusal → P (at_row refusal.number row))
      → Refuses P (placed row found)
  unfolding placed
  refuses_placed row (Ok _) p refusal e = no_acceptance (sym e)
  refuses_placed row (Err x) p refusal e = rw (← refusal_is e) (p x refl)

  -- each row is looked at only where those before it are accepted
  pub refuses_each : (test : ℕ → Check) (n : ℕ) → ((row : ℕ) → row < n → each row test ≡ Ok tt → Refuses P (test row))
      → Refuses P (each n test)
  unfolding each
  refuses_each test zero all = refuses_none
  refuses_each test (suc n) all = refuses_then _ _ (refuses_each test n (λ row l. all row (le_step l))) (all n (lt-suc_self n))

-- ---- 01's numbers
abbrev pub AllNumbered : Check → Type 0
AllNumbered = Refuses Numbered

numbered : {number place : ℕ} → T (leb 1 number) → T (leb number 11) → Numbered (record { number = number; place = place })
numbered least most = record { least = lit≤ least; most = lit≤ most }

pub none : AllNumbered (Ok tt)
none = refuses_none Numbered

infixl 20 ◌and◌
pub ◌and◌ : {a b : Check} → AllNumbered a → AllNumbered b → AllNumbered (a then b)
◌and◌ {a} {b} A B = refuses_then Numbered a b A (λ accepted. B)

pub kept_by : (kept : Bool) (number : ℕ) → T (leb 1 number) → T (leb number 11) → AllNumbered (keep kept number)
kept_by kept number least most = refuses_keep Numbered kept number (numbered least most)

pub cleared_by : (rows found number : ℕ) → T (leb 1 number) → T (leb number 11) → AllNumbered (clear rows found number)
cleared_by rows found number least most = refuses_clear Numbered rows found number (λ inside. numbered least most)

-- a row in place of a place keeps the number
pub placed_by : (row : ℕ) {found : Check} → AllNumbered found → AllNumbered (placed row found)
placed_by row N =
    refuses_placed Numbered row _ (λ refusal e. let is = N refusal e in record { least = is.least; most = is.most })

pub each_by : (test : ℕ → Check) (n : ℕ) → ((row : ℕ) → AllNumbered (test row)) → AllNumbered (each n test)
each_by test n all = refuses_each Numbered test n (λ row l accepted. all row)

-- ---- answers
-- an answer made of what the tests find and of figures, where its verdict is by cases as 01 has it
pub decided : {Answer Figures : Type 0} {worked_out zeros : Figures} (answer : Check → Figures → Answer)
    (verdict : Answer → Verdict Figures)
    → verdict (answer (Ok tt) worked_out) ≡ accepting worked_out
    → ((refusal : Refusal) → verdict (answer (Err refusal) worked_out) ≡ refusing refusal zeros)
    → {found : Check} → AllNumbered found → {given : Answer} → given ≡ answer found worked_out
    → Decided found worked_out zeros (verdict given)
decided {worked_out = worked_out} {zeros} answer verdict accepts refuses {found} N e = rw e (by found N)
  where
    by : (found : Check) → AllNumbered found → Decided found worked_out zeros (verdict (answer found worked_out))
    by (Ok _) N =
        rw accepts (record { accepted = λ e. (refl, refl, refl); refused = λ refusal e. no_acceptance (sym e); exactly = λ zero. refl })
    by (Err x) N =
        rw (refuses x)
        (record {
          accepted = λ e. no_acceptance e;
          refused =
              λ refusal e.
              let same = refusal_is e in
              (ap (λ r. r.number) same, ap (λ r. r.place) same, refl, N refusal e);
          exactly = λ zero. absurd (omega (arith, (N x refl).least));
        })

-- what holds of the figures worked out where the tests accept, and of zeros, holds of every answer's
pub every-figure : {Figures : Type 0} (P : Figures → Type 0) {found : Check} {worked_out zeros : Figures} {verdict : Verdict Figures}
    → Decided found worked_out zeros verdict → (found ≡ Ok tt → P worked_out) → P zeros → P verdict.figures
every-figure P {found} {verdict = verdict} D holds nothing = by found refl
  where
    by : (x : Check) → found ≡ x → P verdict.figures
    by (Ok _) e = rw (D.accepted e).2 (holds e)
    by (Err x) e = rw (D.refused x e).2 nothing

-- a check is its own answer
pub checked : {found answer : Check} → AllNumbered found → answer ≡ found → Decided found tt tt (of_check answer)
checked N e = decided (λ found none. found) of_check refl (λ refusal. refl) N e
