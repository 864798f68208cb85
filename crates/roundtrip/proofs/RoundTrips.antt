-- Both round trips; so the writer accepts exactly the days that the reader can answer.
use Rattle.std.specs.Prelude.{Ok}
use mathlib.Core.Path.{◌≡◌, refl, ap, sym, ◌∙◌}
use mathlib.Core.List.{List}
use Prim.Native.Nat.{ℕ, ◌^◌, ◌≤◌, ◌<◌}
use native.Mathlib.Omega.{arith}
use borrow.Author.Tests.{le-leb}
use lib.ListN.{length}
use lib.Seq.{ext_get_or}
use Rattle.columns.specs.Column.{col}
use Rattle.dayformat.specs.declared.day.Day.{Day}
use Rattle.dayformat.specs.Format.{many_tables}
use Rattle.dayformat.specs.Layout.{numbers_in}
use Rattle.dayformat.specs.DayBytes.{file_of}
use Rattle.dayformat.proofs.Layouts.{agree-all}
use Rattle.dayrows.specs.Private.{Sound}
use Rattle.daywriter.proofs.Accepting.{accepting, accepts}
use Rattle.dayrows.proofs.Finding.{none-ok}
use Rattle.dayruns.specs.declared.walk.Walk.{Walk}
use Rattle.dayruns.specs.Walk.{ended}
use Rattle.dayfile.specs.File.{tables, walked}
use Rattle.dayfile.specs.Answer.{Reads, day_of}
use Rattle.dayfile.proofs.FileAgain as again
use Rattle.roundtrip.specs.RoundTrip.{RoundTrips}
use Rattle.roundtrip.proofs.DayAgain.{Back}
use Rattle.roundtrip.proofs.FrontAgain.{head_and, same_head, back}

-- where nothing is left the walk ends as it stands
ended-all : (file : List ℕ) (walk : Walk) → walk.found ≡ Ok tt → length file ≤ walk.place → ended file walk ≡ walk
unfolding ended
ended-all file walk none l = rw (none-ok none, le-leb (length file) walk.place l)

module _ (day : Day) (numbers : List ℕ) (S : Sound day numbers) (u32 : day.head.day < 2 ^ 32) where
  abbrev file : List ℕ
  file = head_and day numbers many_tables

  whole : Back day numbers S file many_tables (tables file) file
  whole = back day numbers S u32 many_tables (omega arith) many_tables (omega arith)

  -- ---- the day that is read
  ends : walked file ≡ (tables file).walk
  ends = ended-all file (tables file).walk whole.sound (omega (arith, whole.here))

  same-counts : (walked file).counts ≡ day.counts
  same-counts = ap (λ walk. walk.counts) ends ∙ agree-all (tables file).walk.counts day.counts whole.agree

  same_numbers : (tables file).numbers ≡ numbers
  same_numbers =
      ext_get_or 0 (tables file).numbers numbers
      (whole.long ∙ ap numbers_in (agree-all (tables file).walk.counts day.counts whole.agree) ∙ sym S.long)
      (λ place l. sym (whole.leads.1 place l))

  reads : Reads file day numbers
  reads =
      record {
        accepted = ap (λ walk. walk.found) ends ∙ whole.sound;
        day_is =
            ap (λ head. record { head = head; counts = (walked file).counts }) (same_head day numbers S u32 many_tables)
            ∙ ap (λ counts. record { head = day.head; counts = counts }) same-counts;
        numbers_are = same_numbers;
      }

  written : file_of day (col numbers) ≡ file
  unfolding file_of
  written = refl

pub round_trips : RoundTrips
round_trips =
    record {
      file_again = λ file day numbers are R.
          rw (← R.day_is, ← R.numbers_are)
          (record {
            accepted = accepts (day_of file) (tables file).numbers
                (again.read-sound file R.accepted);
            file_is = again.file_again file R.accepted are;
          });
      day_again = λ day numbers file u32 W.
          let S = accepting day numbers W.accepted in
          rw (← W.file_is, written day numbers S u32) (reads day numbers S u32);
    }
