-- What acceptance says of figures and of days, and what accepts; figures that the routines of overruns and charges give are accepted.
use Rattle.std.specs.Prelude.{Ok}
use mathlib.Core.Path.{◌≡◌, refl}
use mathlib.Core.Logic.{⊎_elim}
use Prim.Native.Nat.{ℕ, zero, suc, ◌≤◌, ◌<◌}
use native.Mathlib.Omega.{arith}
use borrow.Author.Tests.{leb-true, ltb-true, le-leb, eqb-true, eq-eqb}
use Rattle.columns.specs.Column.{col}
use Rattle.units.specs.declared.Cents.{Cents}
use Rattle.units.specs.declared.Rate.{Rate}
use Rattle.units.proofs.Checks.{both-accepted, kept, accepts-both, accepts-kept}
use Rattle.units.proofs.Testing.{each-accepted, accepts-each}
use Rattle.excesses.specs.Greatest.{greatest, Greatest}
use Rattle.tariff.specs.declared.charges.Change.{Change}
use Rattle.tariff.specs.Charges.{charge_verdict, variation_charge, request_charge}
use Rattle.tariff.proofs.Most.{variation_kept, request_kept}
use Rattle.overruns.specs.declared.day.Overruns.{Overruns}
use Rattle.overruns.specs.declared.day.ShipperDay.{ShipperDay}
use Rattle.overruns.specs.Day.{day_verdict}
use Rattle.overruns.specs.declared.day.ExcusedHours.{ExcusedHours}
use Rattle.overruns.specs.Excused.{excused_day_answer}
use Rattle.overruns.proofs.Promises.{excused-day-kept}
use Rattle.month.specs.declared.figures.Figures.{Figures}
use Rattle.month.specs.declared.account.AccountDay.{AccountDay}
use Rattle.month.specs.Figures.{figure, figure_bounds, figures_check}
use Rattle.month.specs.Days.{most_days, later, days_check, next_check}

-- ---- a day's figures
pub record FiguresKept (F : Figures) : Type 0 where
  pub within : (place : ℕ) → place < 7 → figure F place ≤ col figure_bounds place
  pub greatest : F.chargeable.0 ≡ greatest F.hourly.0 F.twelve_hourly.0 F.daily_receipt.0 F.daily_delivery.0

pub figures-kept : (F : Figures) → figures_check F ≡ Ok tt → FiguresKept F
unfolding figures_check
figures-kept F accepted =
    let both = both-accepted _ _ accepted in
    record {
      within = λ place l. leb-true _ _ (kept _ _ (each-accepted _ 7 both.0 place l));
      greatest = eqb-true _ _ (kept _ _ both.1);
    }

pub accepts-figures : (F : Figures) → FiguresKept F → figures_check F ≡ Ok tt
unfolding figures_check
accepts-figures F K =
    accepts-both (accepts-each _ 7 (λ place l. accepts-kept 3 (le-leb _ _ (K.within place l)))) (accepts-kept 3 (eq-eqb _ _ K.greatest))

-- ---- what the routines give
greatest_is : (a b c d g : ℕ) → Greatest a b c d g → g ≡ greatest a b c d
greatest_is a b c d g G =
    let h = G.first in
    let t = G.second in
    let r = G.third in
    let l = G.fourth in
    ⊎_elim (λ e. omega (arith, e, h, t, r, l))
    (⊎_elim (λ e. omega (arith, e, h, t, r, l)) (⊎_elim (λ e. omega (arith, e, h, t, r, l)) (λ e. omega (arith, e, h, t, r, l))))
    G.one

-- for callers: what holds at each of the seven places
pub at_each : (P : ℕ → Type 0) → P 0 → P 1 → P 2 → P 3 → P 4 → P 5 → P 6 → (place : ℕ) → place < 7 → P place
at_each P a b c d e f g zero l = a
at_each P a b c d e f g (suc zero) l = b
at_each P a b c d e f g (suc (suc zero)) l = c
at_each P a b c d e f g (suc (suc (suc zero))) l = d
at_each P a b c d e f g (suc (suc (suc (suc zero)))) l = e
at_each P a b c d e f g (suc (suc (suc (suc (suc zero))))) l = f
at_each P a b c d e f g (suc (suc (suc (suc (suc (suc zero)))))) l = g
at_each P a b c d e f g (suc (suc (suc (suc (suc (suc (suc n))))))) l = absurd (omega (arith, l))

abbrev pub figures_given : Overruns → Cents → Cents → Figures
figures_given over variation request = record {
  hourly = over.hourly;
  twelve_hourly = over.twelve_hourly;
  daily_receipt = over.daily_receipt;
  daily_delivery = over.daily_delivery;
  chargeable = over.greatest;
  variation = variation;
  request = request;
}

-- the overruns of any shipper's day, whatever is excused of it, and any variation and request charge, at whatever rates, refused or not
pub given-accepted : (D : ShipperDay) (E : ExcusedHours) (variation_rate request_rate : Rate) (receipt delivery : Change) (requests : ℕ)
    → figures_check
    (figures_given (day_verdict (excused_day_answer D E)).figures
    (charge_verdict (variation_charge variation_rate receipt delivery)).figures
    (charge_verdict (request_charge request_rate requests)).figures)
    ≡ Ok tt
given-accepted D E variation_rate request_rate receipt delivery requests =
    let K = excused-day-kept D E refl in
    accepts-figures _
    (record {
      within =
          at_each _ K.hourly K.twelve_hourly K.receipt K.delivery K.chargeable
          (variation_kept variation_rate receipt delivery refl) (request_kept request_rate requests refl);
      greatest = greatest_is _ _ _ _ _ K.greatest;
    })

-- ---- the days of a month
pub record DaysKept (n : ℕ) (days : ℕ → AccountDay) : Type 0 where
  pub few : n ≤ most_days
  pub figures : (row : ℕ) → row < n → figures_check (days row).figures ≡ Ok tt
  pub rise : (row : ℕ) → row < n → later days row (days row).number ≡ Ok tt

pub days-kept : (n : ℕ) (days : ℕ → AccountDay) → days_check n days ≡ Ok tt → DaysKept n days
unfolding days_check
days-kept n days accepted =
    let both = both-accepted _ _ accepted in
    let first = both-accepted _ _ both.0 in
    record {
      few = leb-true _ _ (kept _ _ first.0);
      figures = each-accepted _ n first.1;
      rise = each-accepted _ n both.1;
    }

pub accepts-days : (n : ℕ) (days : ℕ → AccountDay) → DaysKept n days → days_check n days ≡ Ok tt
unfolding days_check
accepts-days n days K =
    accepts-both (accepts-both (accepts-kept 3 (le-leb _ _ K.few)) (accepts-each _ n K.figures)) (accepts-each _ n K.rise)

-- ---- one day more
pub record NextKept (n : ℕ) (days : ℕ → AccountDay) (day : AccountDay) : Type 0 where
  pub few : n < most_days
  pub figures : figures_check day.figures ≡ Ok tt
  pub before : days_check n days ≡ Ok tt
  pub rises : later days n day.number ≡ Ok tt

pub next-kept : (n : ℕ) (days : ℕ → AccountDay) (day : AccountDay) → next_check n days day ≡ Ok tt → NextKept n days day
unfolding next_check
next-kept n days day accepted =
    let all = both-accepted _ _ accepted in
    let days = both-accepted _ _ all.0 in
    let first = both-accepted _ _ days.0 in
    record { few = ltb-true _ _ (kept _ _ first.0); figures = first.1; before = days.1; rises = all.1 }
