-- The needs made are what is unmet, and adding the shares is the step of the chain.
use mathlib.Core.Path.{◌≡◌}
use mathlib.Core.List.{List}
use Prim.Native.Nat.{ℕ}
use lib.ListN.{length, take, replicate}
use lib.Seq.{sets}
use Rattle.columns.specs.Column.{col, listed}
use Rattle.sharing.specs.Chain.{unmet}
use Rattle.rounds.specs.declared.Given.{Given}
use Rattle.dayshares.specs.Private.{Held, NextReady}
use Rattle.dayshares.proofs.Furthering.{Needed, needs-long, next-ready, Further, more-long, adds, next-held}
use Rattle.dayshares.proofs.round.hold_next.Goals as goal

-- the stages: the needs made in a list of zeros, and the round held in another
module _ {capacity : ℕ} {ws qs had made : List ℕ} (r : NextReady capacity ws qs had)
    (m : made ≡ sets (replicate 64 0) 0 (listed (length qs) (unmet (col qs) (col had)))) where
  abbrev needed : Needed
  needed = record {
    c = capacity;
    ws = ws;
    qs = qs;
    had = had;
    ready = r;
    lent = replicate 64 0;
    made = made;
    room = r.rows.few;
    is = m;
  }

  abbrev further : {given : Given} {shared : List ℕ}
      → Held capacity ws (take (length ws) made) (replicate 64 0) given shared → Further
  further h = record { needed = needed; lent = replicate 64 0; room = r.rows.few; given = _; shared = _; held = h }

pub slice_bounds-hold-end : goal.slice_bounds-hold-end
slice_bounds-hold-end c = needs-long (needed c.requires c.rest_list.ensures)

pub hold-round-requires : goal.hold-round-requires
hold-round-requires c = next-ready (needed c.requires c.rest_list.ensures) 64 c.requires.rows.few

pub slice_bounds-add_list-end : goal.slice_bounds-add_list-end
slice_bounds-add_list-end c = more-long (further c.requires c.rest_list.ensures c.hold-round.ensures)

pub add_list-requires : goal.add_list-requires
add_list-requires c = adds (further c.requires c.rest_list.ensures c.hold-round.ensures)

pub returns : goal.returns
returns c = next-held (further c.requires c.rest_list.ensures c.hold-round.ensures) _ c.add_list.ensures
