-- A further round over lists is the next step of the chain over columns.
use mathlib.Core.Path.{◌≡◌, ap, sym, ◌∙◌, fun_ext}
use mathlib.Core.List.{List}
use Prim.Native.Nat.{ℕ, ◌+◌, ◌-◌, ◌≤◌, ◌<◌}
use native.Mathlib.Decide.{dec_lt}
use native.Mathlib.Omega.{arith}
use lib.ListN.{length, get_or-eq_default}
use lib.Seq.{sets}
use Rattle.columns.specs.Column.{col, listed}
use Rattle.columns.specs.Sum.{sum}
use Rattle.columns.proofs.Lists.{col-sets, length-sets-listed, listed_same, sets-again}
use Rattle.sharing.specs.Round.{level, shares}
use Rattle.sharing.specs.Private.{Small}
use Rattle.sharing.specs.Chain.{unmet, after}
use Rattle.units.specs.Bound.{most_capacity, most_rows}
use Rattle.rounds.specs.declared.Given.{Given}
use Rattle.dayshares.specs.Private.{NextReady, NextHeld}

-- the weights w stand in ws, the needs in qs, and what the n rows had, s, at the front of a lent list
pub record Chained (n : ℕ) (w s : ℕ → ℕ) (ws qs lent had : List ℕ) : Type 0 where
  pub weights-long : length ws ≡ n
  pub needs-long : length qs ≡ n
  pub fits : n ≤ length lent
  pub weights : col ws ≡ w
  pub front : had ≡ sets lent 0 (listed n s)

module _ (n : ℕ) (w s : ℕ → ℕ) (ws qs lent had : List ℕ) (C : Chained n w s ws qs lent had) where
  had_at : (i : ℕ) → i < n → col had i ≡ s i
  had_at i l = ap (λ m. col m i) C.front ∙ col-sets n s lent C.fits i l

  pub chain_ready : (c : ℕ) → n ≤ most_rows → c ≤ most_capacity → Small n w → Small n (col qs) → ((i : ℕ) → i < n → s i ≤ col qs i)
      → NextReady c ws qs had
  chain_ready c few small bw bq within =
      record {
        rows =
            record {
              same = C.weights-long ∙ sym C.needs-long;
              few = omega (arith, C.weights-long);
              weights = λ i l. omega (arith, ap (λ f. f i) C.weights, bw i (omega (arith, C.weights-long)));
              needs = λ i l. bq i (omega (arith, C.weights-long));
            };
        capacity = small;
        fits = omega (arith, C.weights-long, C.fits, ap length C.front, length-sets-listed n s lent);
        within = λ i l. low i (omega (arith, C.weights-long));
      }
    where
      low : (i : ℕ) → i < n → col had i ≤ col qs i
      low i l = omega (arith, had_at i l, within i l)

  -- past the rows nothing is unmet
  unmet-had : unmet (col qs) (col had) ≡ unmet (col qs) s
  unmet-had = fun_ext (λ i. by i (dec_lt i n))
    where
      by : (i : ℕ) → Dec (i < n) → unmet (col qs) (col had) i ≡ unmet (col qs) s i
      by i (yes l) = ap (λ x. col qs i - x) (had_at i l)
      by i (no h) = omega (arith, get_or-eq_default qs 0 {n = i} (omega (arith, C.needs-long)))

  module _ (c : ℕ) (g : Given) (has : List ℕ) (H : NextHeld c ws qs had g has) where
    pub chain_level : g.level ≡ level n w (unmet (col qs) s) c
    chain_level = H.level ∙ rw (C.weights-long, C.weights, unmet-had)

    pub chain_total : g.total.0 ≡ sum n (shares n w (unmet (col qs) s) c)
    chain_total = H.total ∙ rw (C.weights-long, C.weights, unmet-had)

    pub chain_front : has ≡ sets lent 0 (listed n (after n w (col qs) c s))
    unfolding after
    chain_front =
        let held : has ≡ sets had 0 (listed n (after n w (col qs) c (col had))) = rw (C.weights-long, C.weights) at H.leaves in
        held
        ∙ ap (sets had 0) (listed_same n (after n w (col qs) c (col had)) (after n w (col qs) c s) same)
        ∙ ap (λ l. sets l 0 (listed n (after n w (col qs) c s))) C.front
        ∙ sets-again n s (after n w (col qs) c s) lent C.fits
      where
        same : (i : ℕ) → i < n → after n w (col qs) c (col had) i ≡ after n w (col qs) c s i
        same i l =
            ap (λ x. x + shares n w (unmet (col qs) (col had)) c i) (had_at i l) ∙ ap (λ f. s i + shares n w f c i) unmet-had
