-- Accepted files with the same bytes up to a table have the same head, and the same counts and numbers up to that table.
use Rattle.std.specs.Prelude.{Ok}
use mathlib.Core.Path.{◌≡◌, ap, sym, ◌∙◌}
use mathlib.Core.List.{List, ◌++◌, append_assoc}
use Prim.Native.Nat.{ℕ, ◌+◌, ◌-◌, ◌^◌, ◌≤◌, ◌<◌}
use native.Mathlib.Omega.{arith}
use lib.ListN.{length, take}
use lib.Seq.{take_at}
use Rattle.columns.specs.Column.{col, joined}
use Rattle.columns.proofs.Joined.{joined-more}
use Rattle.bigendian.specs.Number.{AreBytes}
use Rattle.dayformat.specs.declared.form.Tag.TheVariants.{Head}
use Rattle.dayformat.specs.Format.{many_tables, tag_at, field}
use Rattle.dayformat.specs.Layout.{count, numbers_before, bytes_before}
use Rattle.dayformat.specs.DayBytes.{head_row, fields, file_of}
use Rattle.dayformat.specs.Private.{Agree}
use Rattle.dayformat.proofs.Layouts.{before_same, ends}
use Rattle.dayformat.proofs.Sizes.{length-tables}
use Rattle.dayrows.specs.Private.{Sound}
use Rattle.dayfile.specs.File.{head_of, tables_to, tables, walked}
use Rattle.dayfile.specs.Answer.{day_of}
use Rattle.dayfile.proofs.FileAgain.{file_again, read-sound, day-number}
use Rattle.roundtrip.proofs.DayAgain.{Back}
use Rattle.roundtrip.proofs.FrontAgain.{head_and, same_head, back}

pub record SameFront (many : ℕ) (file other : List ℕ) : Type 0 where
  pub head : head_of file ≡ head_of other
  pub agree : Agree many (walked file).counts (walked other).counts
  pub numbers : (place : ℕ) → place < numbers_before (walked file).counts many
      → col (tables file).numbers place ≡ col (tables other).numbers place

module _ (many : ℕ) (few : many ≤ many_tables) where
  -- ---- the bytes of a file up to a table are read as those of the file are
  module _ (file : List ℕ) (are : AreBytes file) (accepted : (walked file).found ≡ Ok tt) where
    abbrev numbers : List ℕ
    numbers = (tables file).numbers

    abbrev front : List ℕ
    front = head_and (day_of file) numbers many

    sound : Sound (day_of file) numbers
    sound = read-sound file accepted

    u32 : (day_of file).head.day < 2 ^ 32
    u32 = omega (arith, day-number file accepted)

    front_is : take (bytes_before (walked file).counts many) file ≡ front
    unfolding file_of
    front_is =
        let head = field Head (head_row (head_of file)) in
        let part : ℕ → List ℕ = λ place. fields (walked file).counts (col numbers) (tag_at place) in
        let rest = joined (many_tables - many) (λ more. part (many + more)) in
        let all : many + (many_tables - many) ≡ many_tables = omega (arith, few) in
        ap (take (bytes_before (walked file).counts many))
        (sym (file_again file accepted are)
        ∙ ap (head_and (day_of file) numbers) (sym all)
        ∙ ap (λ list. head ++ list) (joined-more part many (many_tables - many))
        ∙ sym (append_assoc head (joined many part) rest))
        ∙ take_at front rest (bytes_before (walked file).counts many) (length-tables (day_of file) (col numbers) many)

    front_back : Back (day_of file) numbers sound front many (tables_to front many) front
    front_back = back (day_of file) numbers sound u32 many few many (omega arith)

    front-head : head_of front ≡ head_of file
    front-head = same_head (day_of file) numbers sound u32 many

    -- the numbers up to the table are all that it has
    inside : length (tables_to front many).numbers ≡ numbers_before (walked file).counts many
    inside =
        front_back.long
        ∙ ends (tables_to front many).walk.counts many few front_back.none
        ∙ before_same many (tables_to front many).walk.counts (walked file).counts front_back.agree

  pub same-front : (file other : List ℕ) → AreBytes file → AreBytes other → (walked file).found ≡ Ok tt → (walked other).found ≡ Ok tt
      → take (bytes_before (walked file).counts many) file ≡ take (bytes_before (walked other).counts many) other
      → SameFront many file other
  same-front file other are other-are accepted other-accepted same =
      record {
        head = sym (front-head file are accepted) ∙ ap head_of one ∙ front-head other other-are other-accepted;
        agree = λ place l.
            sym ((front_back file are accepted).agree place l)
            ∙ ap (λ front. count (tables_to front many).walk.counts (tag_at place)) one
            ∙ (front_back other other-are other-accepted).agree place l;
        numbers = λ place l.
            let here : place < length (tables_to (front file are accepted) many).numbers = omega (arith, l, inside file are accepted) in
            (front_back file are accepted).leads.1 place here
            ∙ ap (λ front. col (tables_to front many).numbers place) one
            ∙ sym ((front_back other other-are other-accepted).leads.1 place
            (rw (← one) here));
      }
    where
      one : front file are accepted ≡ front other other-are other-accepted
      one = sym (front_is file are accepted) ∙ same ∙ front_is other other-are other-accepted
