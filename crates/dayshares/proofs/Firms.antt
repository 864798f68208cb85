-- The laws of the three firm rounds, for any Free Flow MDQ of at most the firm MDQ.
use Prim.Native.Nat.{ℕ, ◌+◌, ◌-◌, ◌≤◌, ◌<◌, min}
use native.Mathlib.Omega.{arith}
use Rattle.columns.specs.Sum.{sum}
use Rattle.sharing.specs.Private.{Small, Weighted}
use Rattle.sharing.specs.Part.{part}
use Rattle.sharing.proofs.Levels.{level-fits}
use Rattle.sharing.proofs.Parts.{pro_rata}
use Rattle.sharing.proofs.Chains.{after_up, after_le, after-fits, after-short, after_floor}
use Rattle.dayshares.specs.Firm.{Firm, compressor_mdq, given_one, given_two, given_firm, left_two}

module _ (F : Firm) where
  one_le : (i : ℕ) → given_one F i ≤ F.schedule i
  unfolding given_one
  one_le i = omega arith

  two_le : (i : ℕ) → given_two F i ≤ F.schedule i
  unfolding given_two
  two_le i = after_le _ _ _ _ _ i (one_le i)

  -- no row above its schedule
  pub firm_le : (i : ℕ) → given_firm F i ≤ F.schedule i
  unfolding given_firm
  firm_le i = after_le _ _ _ _ _ i (two_le i)

  two_fit : sum F.rows (given_two F) ≤ F.free_flow + F.compressor
  unfolding given_one given_two
  two_fit =
      omega (
        arith,
        level-fits F.rows F.free_flow_mdq F.schedule F.free_flow,
        after-fits F.rows (compressor_mdq F) F.schedule F.compressor (given_one F),
      )

  -- the total never above both capacities
  pub firm_fits : sum F.rows (given_firm F) ≤ F.free_flow + F.compressor
  unfolding given_firm
  firm_fits = omega (arith, two_fit, after-fits F.rows F.firm_mdq F.schedule (left_two F) (given_two F))

  module _ (mdqs : Small F.rows F.firm_mdq) (schedules : Small F.rows F.schedule) where
    -- where a row is short, less than one GJ for each row is left
    pub firm_short : Weighted F.rows F.firm_mdq F.schedule → (i : ℕ) → i < F.rows → given_firm F i < F.schedule i
        → F.free_flow + F.compressor < sum F.rows (given_firm F) + F.rows
    unfolding given_firm
    firm_short weighted i l short =
        omega (
          arith,
          two_fit,
          after-short F.rows F.firm_mdq F.schedule (left_two F) (given_two F) mdqs schedules weighted i l short,
        )

    module _ (split : (i : ℕ) → i < F.rows → F.free_flow_mdq i ≤ F.firm_mdq i) where
      one_floor : (i : ℕ) → i < F.rows → min (F.schedule i) (part F.rows F.free_flow_mdq F.free_flow i - 1) ≤ given_one F i
      unfolding given_one
      one_floor =
          pro_rata F.rows F.free_flow_mdq F.schedule F.free_flow (λ i l. omega (arith, split i l, mdqs i l)) schedules

      -- a row gets the smaller of its schedule and its two pro-rata parts, each lessened by one
      pub firm_floor : (i : ℕ) → i < F.rows
          → min (F.schedule i)
          ((part F.rows F.free_flow_mdq F.free_flow i - 1) + (part F.rows (compressor_mdq F) F.compressor i - 1))
          ≤ given_firm F i
      unfolding given_two given_firm
      firm_floor i l =
          omega (
            arith,
            after_up F.rows F.firm_mdq F.schedule (left_two F) (given_two F) i,
            after_floor F.rows (compressor_mdq F) F.schedule F.compressor (given_one F) (λ j k. omega (arith, mdqs j k)) schedules
                (part F.rows F.free_flow_mdq F.free_flow i - 1) i l (one_floor i l),
          )
