-- The three firm rounds over lists are the three firm rounds over columns.
use mathlib.Core.Path.{◌≡◌, refl, ap, sym, ◌∙◌}
use mathlib.Core.List.{List}
use Prim.Native.Nat.{ℕ, ◌+◌, ◌-◌, ◌≤◌}
use native.Mathlib.Omega.{arith}
use lib.ListN.{length, take, get_or-eq_default}
use lib.Seq.{sets}
use Rattle.columns.specs.Column.{col, listed}
use Rattle.columns.specs.Sum.{sum}
use Rattle.columns.proofs.Lists.{made-long, made-col}
use Rattle.sharing.specs.Round.{shares}
use Rattle.sharing.specs.Chain.{unmet}
use Rattle.sharing.proofs.Levels.{level-fits}
use Rattle.sharing.proofs.Chains.{after_le, after-sum}
use Rattle.units.specs.Bound.{most_capacity}
use Rattle.rounds.specs.declared.Given.{Given}
use Rattle.rounds.specs.Private.{Ready}
use Rattle.dayshares.specs.Firm.{Firm, firm_of, level_one, compressor_mdq, given_one, given_two, given_firm, left_two}
use Rattle.dayshares.specs.Private.{Held, NextReady, NextHeld, FirmReady, Split, FirmHeld}
use Rattle.dayshares.proofs.Chaining.{Chained, chain_ready, chain_level, chain_total, chain_front}

-- ---- before the rounds
pub record Start : Type 0 where
  pub free_flow : ℕ
  pub compressor : ℕ
  pub fs : List ℕ
  pub ms : List ℕ
  pub qs : List ℕ
  pub lent : List ℕ
  pub ready : FirmReady free_flow compressor ms qs lent
  pub split : Split fs ms

abbrev F : Start → Firm
F S = firm_of S.free_flow S.compressor (col S.fs) S.ms S.qs

module _ (S : Start) where
  open S use {free_flow, fs, ms, qs, lent, ready, split}

  pub one-ready : Ready free_flow fs qs (length lent)
  one-ready =
      record {
        rows =
            record {
              same = split.same ∙ ready.rows.same;
              few = omega (arith, split.same, ready.rows.few);
              weights =
                  λ i l.
                  omega (arith, split.part i (omega (arith, split.same)), ready.rows.weights i (omega (arith, split.same)));
              needs = λ i l. ready.rows.needs i (omega (arith, split.same));
            };
        capacity = omega (arith, ready.free_flow_small);
        fits = omega (arith, split.same, ready.fits);
      }

  one_le : (i : ℕ) → given_one (F S) i ≤ col qs i
  unfolding given_one
  one_le i = omega arith

  two_le : (i : ℕ) → given_two (F S) i ≤ col qs i
  unfolding given_two
  two_le i = after_le _ _ _ _ _ i (one_le i)

-- ---- the Compressor MDQ is made
pub record Made : Type 0 where
  pub start : Start
  pub zeros : List ℕ
  pub made : List ℕ
  pub room : length start.ms ≤ length zeros
  pub is : made ≡ sets zeros 0 (listed (length start.ms) (λ i. col start.ms i - col start.fs i))

module _ (S : Made) where
  open S use {zeros, made, room, is}
  open S.start use {ms}

  pub compressor-long : length ms ≡ length (take (length ms) made)
  compressor-long = made-long (length ms) (compressor_mdq (F S.start)) zeros made room is

  compressor-made : col (take (length ms) made) ≡ compressor_mdq (F S.start)
  compressor-made =
      made-col (length ms) (compressor_mdq (F S.start)) zeros made room is
      (λ i h. omega (arith, get_or-eq_default ms 0 {n = i} h))

-- ---- round one is held
pub record OneHeld : Type 0 where
  pub made : Made
  pub given : Given
  pub after : List ℕ
  pub held : Held made.start.free_flow made.start.fs made.start.qs made.start.lent given after

module _ (S : OneHeld) where
  open S use {given, after, held}
  open S.made.start use {free_flow, compressor, fs, ms, qs, lent, ready, split}

  round-one : given ≡ record {
    level = level_one (F S.made.start);
    total = record { 0 = sum (length ms) (given_one (F S.made.start)) };
  }
  unfolding given_one
  round-one = rw split.same at held.gives

  one-total : given.total.0 ≡ sum (length ms) (given_one (F S.made.start))
  one-total = ap (λ g. g.total.0) round-one

  one-fits : given.total.0 ≤ free_flow
  unfolding given_one
  one-fits = omega (arith, one-total, level-fits (length ms) (col fs) (col qs) free_flow)

  chained_one : Chained (length ms) (compressor_mdq (F S.made.start)) (given_one (F S.made.start))
      (take (length ms) S.made.made) qs lent after
  unfolding given_one
  chained_one =
      record {
        weights-long = sym (compressor-long S.made);
        needs-long = sym ready.rows.same;
        fits = ready.fits;
        weights = compressor-made S.made;
        front = rw split.same at held.leaves;
      }

  pub two_ready : NextReady compressor (take (length ms) S.made.made) qs after
  two_ready =
      chain_ready _ _ _ _ _ _ _ chained_one compressor ready.rows.few (omega (arith, ready.compressor_small))
      (λ i l. omega (arith, ready.rows.weights i l)) ready.rows.needs (λ i l. one_le S.made.start i)

-- ---- round two is held
pub record TwoHeld : Type 0 where
  pub one : OneHeld
  pub given : Given
  pub after : List ℕ
  pub held :
      NextHeld one.made.start.compressor (take (length one.made.start.ms) one.made.made) one.made.start.qs one.after
      given after

module _ (S : TwoHeld) where
  open S use {given, after, held}
  open S.one.made.start use {free_flow, compressor, ms, qs, lent, ready}

  abbrev spent : ℕ
  spent = S.one.given.total.0 + given.total.0

  two-total : given.total.0
      ≡ sum (length ms)
      (shares (length ms) (compressor_mdq (F S.one.made.start)) (unmet (col qs) (given_one (F S.one.made.start))) compressor)
  two-total = chain_total _ _ _ _ _ _ _ (chained_one S.one) _ _ _ held

  -- what the first two rounds give is within both capacities
  pub spent_fits : spent ≤ free_flow + compressor
  spent_fits =
      omega (
        arith,
        one-fits S.one,
        two-total,
        level-fits (length ms) (compressor_mdq (F S.one.made.start)) (unmet (col qs) (given_one (F S.one.made.start))) compressor,
      )

  pub spent-small : spent ≤ most_capacity
  spent-small = omega (arith, spent_fits, ready.free_flow_small, ready.compressor_small)

  spent_is : sum (length ms) (given_two (F S.one.made.start)) ≡ spent
  unfolding given_two
  spent_is =
      omega (
        arith,
        after-sum (length ms) (compressor_mdq (F S.one.made.start)) (col qs) compressor (given_one (F S.one.made.start)),
        one-total S.one,
        two-total,
      )

  chained_two : Chained (length ms) (col ms) (given_two (F S.one.made.start)) ms qs lent after
  unfolding given_two
  chained_two =
      record {
        weights-long = refl;
        needs-long = sym ready.rows.same;
        fits = ready.fits;
        weights = refl;
        front = chain_front _ _ _ _ _ _ _ (chained_one S.one) _ _ _ held;
      }

  pub three-ready : NextReady (free_flow + compressor - spent) ms qs after
  three-ready =
      chain_ready _ _ _ _ _ _ _ chained_two (free_flow + compressor - spent) ready.rows.few
      (omega (arith, ready.free_flow_small, ready.compressor_small)) ready.rows.weights ready.rows.needs
      (λ i l. two_le S.one.made.start i)

-- ---- round three is held
pub record ThreeHeld : Type 0 where
  pub two : TwoHeld
  pub given : Given
  pub after : List ℕ
  pub held :
      NextHeld
      (two.one.made.start.free_flow + two.one.made.start.compressor - (two.one.given.total.0 + two.given.total.0))
      two.one.made.start.ms two.one.made.start.qs two.after given after

module _ (S : ThreeHeld) where
  open S use {given, after, held}
  open S.two.one.made.start use {free_flow, compressor, ms, qs, lent, ready}

  abbrev G : Firm
  G = F S.two.one.made.start

  left_is : free_flow + compressor - spent S.two ≡ left_two G
  left_is = ap (λ x. free_flow + compressor - x) (sym (spent_is S.two))

  held-left : NextHeld (left_two G) ms qs S.two.after given after
  held-left = rw left_is at held

  three-total : given.total.0
      ≡ sum (length ms)
      (shares (length ms) (col ms) (unmet (col qs) (given_two G)) (left_two G))
  three-total = chain_total _ _ _ _ _ _ _ (chained_two S.two) _ _ _ held-left

  pub all_small : spent S.two + given.total.0 ≤ most_capacity
  all_small =
      omega (
        arith,
        three-total,
        level-fits (length ms) (col ms) (unmet (col qs) (given_two G)) (left_two G),
        left_is,
        spent_fits S.two,
        ready.free_flow_small,
        ready.compressor_small,
      )

  pub firm-held :
      FirmHeld G lent
      (record {
        one = S.two.one.given.level;
        two = S.two.given.level;
        three = given.level;
        total = spent S.two + given.total.0;
      })
      after
  unfolding given_firm
  firm-held =
      record {
        one = ap (λ g. g.level) (round-one S.two.one);
        two = chain_level _ _ _ _ _ _ _ (chained_one S.two.one) _ _ _ S.two.held;
        three = chain_level _ _ _ _ _ _ _ (chained_two S.two) _ _ _ held-left;
        total =
            omega (
              arith,
              after-sum (length ms) (col ms) (col qs) (left_two G) (given_two G),
              spent_is S.two,
              three-total,
            );
        leaves = chain_front _ _ _ _ _ _ _ (chained_two S.two) _ _ _ held-left;
      }
