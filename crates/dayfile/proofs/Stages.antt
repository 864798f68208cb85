-- The walk, stage after stage: each run is the definition's, and leaves the numbers of its rows at the front.
use mathlib.Core.Path.{◌≡◌, ap, sym, ◌∙◌}
use mathlib.Core.List.{List}
use Prim.Native.Nat.{ℕ, suc, ◌<◌}
use lib.ListN.{length, replicate, length-replicate}
use Rattle.std.specs.Prelude.{Ok}
use Rattle.columns.specs.Column.{col}
use Rattle.dayformat.specs.Format.{many_tables, tag_at}
use Rattle.dayformat.specs.Layout.{numbers_in, most_numbers}
use Rattle.dayformat.proofs.Layouts.{few-none, none-none, no_numbers, few_fit}
use Rattle.dayruns.specs.declared.walk.Walk.{Walk}
use Rattle.dayruns.specs.Walk.{ended}
use Rattle.dayruns.proofs.Ending.{ended-none}
use Rattle.dayruns.proofs.Fronts.{front-none}
use Rattle.dayfile.specs.File.{Tables, headed, tables_to, tables}
use Rattle.dayfile.specs.Private.{Tabled, Walked}
use Rattle.dayfile.proofs.Walking.{Held, Ready, table-answers, table-ready}

-- after the runs of so many tags
pub record Stage (many : ℕ) (T : Tables) (walk : Walk) (list : List ℕ) : Type 0 where
  pub is : walk ≡ T.walk
  pub ready : Ready many T list
  pub room : length list ≡ most_numbers

pub stage_first : (file : List ℕ) {walk : Walk} {list : List ℕ} → walk ≡ headed file → list ≡ replicate most_numbers 0
    → Stage 0 (tables_to file 0) walk list
unfolding tables_to headed
stage_first file e zeros =
    record {
      is = e;
      ready = λ none. (
        record { few = few-none; front = ap col zeros ∙ front-none most_numbers; long = sym no_numbers },
        none-none 0,
      );
      room = ap length zeros ∙ length-replicate {A = ℕ} most_numbers 0;
    }

pub stage_next : (file : List ℕ) (n : ℕ) {walk next : Walk} {list after : List ℕ} → n < many_tables → Stage n (tables_to file n) walk list
    → Tabled walk file (tag_at n) list after next → length after ≡ length list → Stage (suc n) (tables_to file (suc n)) next after
unfolding tables_to
stage_next file n {list = list} l S B long =
    let step = rw S.is at B in
    record {
      is = table-answers file n l (tables_to file n) list S.room S.ready step;
      ready = table-ready file n l (tables_to file n) list S.room S.ready step;
      room = long ∙ S.room;
    }

pub stage_last : (file : List ℕ) {walk last : Walk} {list : List ℕ} → Stage many_tables (tables file) walk list → last ≡ ended file walk
    → Walked file list last
stage_last file {last = last} {list = list} S e =
    record {
      answers = whole;
      holds = λ none. (held none).front;
      counts = λ none.
          (held none).long ∙ ap (λ walk. numbers_in walk.counts) (sym (ended-none file (tables file).walk (sound none)).2 ∙ sym whole);
      fits = λ none.
          rw (S.room, whole, (ended-none file (tables file).walk (sound none)).2) (few_fit (tables file).walk.counts (held none).few);
    }
  where
    whole : last ≡ ended file (tables file).walk
    whole = e ∙ ap (ended file) S.is

    sound : last.found ≡ Ok tt → (ended file (tables file).walk).found ≡ Ok tt
    sound none = ap (λ walk. walk.found) (sym whole) ∙ none

    held : last.found ≡ Ok tt → Held (tables file) list
    held none = (S.ready (ended-none file (tables file).walk (sound none)).0).0
