-- Each round over the lists is a step of the chain over the columns.
use mathlib.Core.Path.{◌≡◌}
use mathlib.Core.List.{List}
use Prim.Native.Nat.{ℕ, ◌+◌, ◌-◌}
use native.Mathlib.Omega.{arith}
use lib.ListN.{length, take, replicate}
use lib.Seq.{sets}
use Rattle.columns.specs.Column.{col, listed}
use Rattle.rounds.specs.declared.Given.{Given}
use Rattle.dayshares.specs.Private.{Held, NextHeld, FirmReady, Split}
use Rattle.dayshares.proofs.ThreeRounds.{Start, one-ready, Made, compressor-long, OneHeld, two_ready, TwoHeld, spent_fits, spent-small, three-ready, ThreeHeld, all_small, firm-held}
use Rattle.dayshares.proofs.firm.three_rounds.Goals as goal

-- the stages: before the rounds, the Compressor MDQ made in a list of zeros, and each round held
module _ {free_flow compressor : ℕ} {fs ms qs lent : List ℕ} (r : FirmReady free_flow compressor ms qs lent × Split fs ms) where
  abbrev start : Start
  start = record {
    free_flow = free_flow;
    compressor = compressor;
    fs = fs;
    ms = ms;
    qs = qs;
    lent = lent;
    ready = r.0;
    split = r.1;
  }

  module _ {rest : List ℕ} (m : rest ≡ sets (replicate 64 0) 0 (listed (length ms) (λ i. col ms i - col fs i))) where
    abbrev made : Made
    made = record { start = start; zeros = replicate 64 0; made = rest; room = r.0.rows.few; is = m }

    module _ {g1 : Given} {lent1 : List ℕ} (h1 : Held free_flow fs qs lent g1 lent1) where
      abbrev one : OneHeld
      one = record { made = made; given = g1; after = lent1; held = h1 }

      module _ {g2 : Given} {lent2 : List ℕ} (h2 : NextHeld compressor (take (length ms) rest) qs lent1 g2 lent2) where
        abbrev two : TwoHeld
        two = record { one = one; given = g2; after = lent2; held = h2 }

        abbrev three : {g3 : Given} {lent3 : List ℕ}
            → NextHeld (free_flow + compressor - (g1.total.0 + g2.total.0)) ms qs lent2 g3 lent3 → ThreeHeld
        three h3 = record { two = two; given = _; after = _; held = h3 }

pub hold-one-requires : goal.hold-one-requires
hold-one-requires c = one-ready (start c.requires)

pub slice_bounds-hold_next-end : goal.slice_bounds-hold_next-end
slice_bounds-hold_next-end c = compressor-long (made c.requires c.rest_list.ensures)

pub hold_next-two-requires : goal.hold_next-two-requires
hold_next-two-requires c = two_ready (one c.requires c.rest_list.ensures c.hold-one.ensures)

pub overflow_add-spent : goal.overflow_add-spent
overflow_add-spent c = omega (arith, spent-small (two c.requires c.rest_list.ensures c.hold-one.ensures c.hold_next-two.ensures))

pub overflow_sub-left : goal.overflow_sub-left
overflow_sub-left c = spent_fits (two c.requires c.rest_list.ensures c.hold-one.ensures c.hold_next-two.ensures)

pub hold_next-three-requires : goal.hold_next-three-requires
hold_next-three-requires c = three-ready (two c.requires c.rest_list.ensures c.hold-one.ensures c.hold_next-two.ensures)

pub overflow_add-total : goal.overflow_add-total
overflow_add-total c =
    omega (
      arith,
      all_small (three c.requires c.rest_list.ensures c.hold-one.ensures c.hold_next-two.ensures c.hold_next-three.ensures),
    )

pub returns : goal.returns
returns c =
    firm-held (three c.requires c.rest_list.ensures c.hold-one.ensures c.hold_next-two.ensures c.hold_next-three.ensures)
