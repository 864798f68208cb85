-- A further round: the needs that the code makes are what is unmet, and adding its shares is the chain's next step.
use mathlib.Core.Path.{◌≡◌, ap, sym, ◌∙◌}
use mathlib.Core.List.{List}
use Prim.Native.Nat.{ℕ, ◌+◌, ◌≤◌, ◌<◌}
use native.Mathlib.Omega.{arith}
use lib.ListN.{length, take, get_or-eq_default}
use lib.Seq.{sets}
use Rattle.columns.specs.Column.{col, listed}
use Rattle.columns.specs.Sum.{sum}
use Rattle.columns.proofs.Lists.{col-listed, listed_same, made-part, made-long, made-col}
use Rattle.sharing.specs.Round.{level, shares}
use Rattle.sharing.specs.Chain.{unmet, after}
use Rattle.rounds.specs.declared.Given.{Given}
use Rattle.rounds.specs.Private.{Ready}
use Rattle.dayshares.specs.Private.{Held, NextReady, NextHeld}

-- ---- the needs are made
pub record Needed : Type 0 where
  pub c : ℕ
  pub ws : List ℕ
  pub qs : List ℕ
  pub had : List ℕ
  pub ready : NextReady c ws qs had
  pub lent : List ℕ
  pub made : List ℕ
  pub room : length ws ≤ length lent
  pub is : made ≡ sets lent 0 (listed (length qs) (unmet (col qs) (col had)))

module _ (S : Needed) where
  open S use {c, ws, qs, had, ready, lent, made, room, is}

  abbrev needs : List ℕ
  needs = take (length ws) made

  made-needs : made ≡ sets lent 0 (listed (length ws) (unmet (col qs) (col had)))
  made-needs = is ∙ ap (λ n. sets lent 0 (listed n (unmet (col qs) (col had)))) (sym ready.rows.same)

  -- what is unmet is zero past the rows, whatever stands there of what they had
  needs-whole : col needs ≡ unmet (col qs) (col had)
  needs-whole =
      made-col (length ws) (unmet (col qs) (col had)) lent made room made-needs
      (λ i h. omega (arith, get_or-eq_default qs 0 {n = i} (omega (arith, ready.rows.same))))

  pub needs-long : length ws ≡ length needs
  needs-long = made-long (length ws) (unmet (col qs) (col had)) lent made room made-needs

  pub next-ready : (room : ℕ) → length ws ≤ room → Ready c ws needs room
  next-ready room h =
      record {
        rows =
            record {
              same = needs-long;
              few = ready.rows.few;
              weights = ready.rows.weights;
              needs = λ i l. omega (arith, ap (λ f. f i) needs-whole, ready.rows.needs i l);
            };
        capacity = ready.capacity;
        fits = h;
      }

-- ---- the round is held
pub record Further : Type 0 where
  pub needed : Needed
  pub lent : List ℕ
  pub room : length needed.ws ≤ length lent
  pub given : Given
  pub shared : List ℕ
  pub held : Held needed.c needed.ws (needs needed) lent given shared

module _ (S : Further) where
  open S use {lent, room, given, shared, held}
  open S.needed use {c, ws, qs, had, ready}

  abbrev more : List ℕ
  more = take (length ws) shared

  further : ℕ → ℕ
  further = shares (length ws) (col ws) (unmet (col qs) (col had)) c

  more_is : more ≡ listed (length ws) further
  unfolding further
  more_is =
      made-part (length ws) (shares (length ws) (col ws) (col (needs S.needed)) c) lent shared room held.leaves
      ∙ ap (λ f. listed (length ws) (shares (length ws) (col ws) f c)) (needs-whole S.needed)

  pub more-long : length ws ≡ length more
  more-long = made-long (length ws) (shares (length ws) (col ws) (col (needs S.needed)) c) lent shared room held.leaves

  more_at : (i : ℕ) → i < length ws → col more i ≡ further i
  more_at i l = ap (λ m. col m i) more_is ∙ col-listed (length ws) further i l

  -- no row gets more than its schedule, so the sums fit
  pub adds : (length more ≤ length had) × ((i : ℕ) → i < length more → col had i + col more i ≤ 1_000_000)
  unfolding further
  adds = (omega (arith, more-long, ready.fits), λ i l. within i (omega (arith, more-long)))
    where
      within : (i : ℕ) → i < length ws → col had i + col more i ≤ 1_000_000
      within i l = omega (arith, more_at i l, ready.within i l, ready.rows.needs i l)

  pub next-held : (has : List ℕ) → has ≡ sets had 0 (listed (length more) (λ i. col had i + col more i)) → NextHeld c ws qs had given has
  unfolding further after
  next-held has e =
      record {
        level = ap (λ g. g.level) held.gives ∙ ap (λ f. level (length ws) (col ws) f c) (needs-whole S.needed);
        total =
            ap (λ g. g.total.0) held.gives ∙ ap (λ f. sum (length ws) (shares (length ws) (col ws) f c)) (needs-whole S.needed);
        leaves =
            e
            ∙ ap (λ n. sets had 0 (listed n (λ i. col had i + col more i))) (sym more-long)
            ∙ ap (sets had 0)
            (listed_same (length ws) (λ i. col had i + col more i) (after (length ws) (col ws) (col qs) c (col had))
            (λ i l. ap (λ x. col had i + x) (more_at i l)));
      }
