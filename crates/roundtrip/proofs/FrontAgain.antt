-- The head's field and those of the first so many tables of a sound day are read back.
use mathlib.Core.Path.{◌≡◌, refl, ap, sym, ◌∙◌}
use mathlib.Core.List.{List, ◌++◌, append_assoc, append-nil}
use Prim.Native.Nat.{ℕ, zero, suc, ◌+◌, ◌-◌, ◌^◌, ◌≤◌, ◌<◌}
use native.Mathlib.Omega.{arith}
use lib.ListN.{length}
use Rattle.columns.specs.Column.{col, joined}
use Rattle.columns.proofs.Joined.{joined-split}
use Rattle.dayformat.specs.declared.day.Day.{Day}
use Rattle.dayformat.specs.declared.form.Tag.TheVariants.{Head}
use Rattle.dayformat.specs.Format.{tag_byte, many_tables, tag_at, table_place, field}
use Rattle.dayformat.specs.Layout.{count}
use Rattle.dayformat.specs.DayBytes.{head_row, fields}
use Rattle.dayformat.proofs.Every.{byte_tells, place_at}
use Rattle.dayformat.proofs.Layouts.{none-none, no_numbers}
use Rattle.dayformat.proofs.Sizes.{length-field}
use Rattle.dayrows.specs.Private.{Sound}
use Rattle.dayfile.specs.File.{head_of, tables_to}
use Rattle.dayfile.proofs.Apart.{Apart, apart-joined}
use Rattle.roundtrip.proofs.DayAgain.{Back, back_more}
use Rattle.roundtrip.proofs.HeadAgain.{Bounded, headed-again, head-again}

module _ (day : Day) (numbers : List ℕ) where
  abbrev part : ℕ → List ℕ
  part place = fields day.counts (col numbers) (tag_at place)

  abbrev head : List ℕ
  head = field Head (head_row day.head)

  abbrev pub head_and : ℕ → List ℕ
  head_and many = head ++ joined many part

  module _ (S : Sound day numbers) (u32 : day.head.day < 2 ^ 32) (many : ℕ) where
    bounded : Bounded day.head
    bounded = record { day = u32; free_flow = S.free_flow; compressor = S.compressor }

    pub same_head : head_of (head_and many) ≡ day.head
    same_head = head-again day.head bounded (joined many part)

    back_head : Back day numbers S (head_and many) 0 (tables_to (head_and many) 0) (head_and 0)
    unfolding tables_to joined
    back_head =
        rw (headed-again day.head bounded (joined many part))
        (record {
          sound = refl;
          here = sym (length-field Head (head_row day.head) refl) ∙ ap length (sym (append-nil head));
          agree = λ place l. absurd (omega (arith, l));
          none = none-none 0;
          long = sym no_numbers;
          leads = (omega arith, λ place l. absurd (omega (arith, l)));
        })

    module _ (few : many ≤ many_tables) where
      -- ---- the bytes cut at a table: what follows its fields are those of other tags
      module _ (n : ℕ) (l : n < many) where
        abbrev later : List ℕ
        later = joined (many - suc n) (λ more. part (n + suc more))

        cut : head_and many ≡ head_and n ++ (part n ++ later)
        cut =
            let all : n + suc (many - suc n) ≡ many = omega (arith, l) in
            ap head_and (sym all)
            ∙ ap (λ list. head ++ list) (joined-split part n (many - suc n))
            ∙ sym (append_assoc head (joined n part) (part n ++ later))

        other : (more : ℕ) → more < many - suc n → tag_byte (tag_at (n + suc more)) ≡ tag_byte (tag_at n) → ⊥
        other more k same =
            omega (
              arith,
              sym (place_at (n + suc more) (omega (arith, k, few)))
                  ∙ ap table_place (byte_tells (tag_at (n + suc more)) (tag_at n) same)
                  ∙ place_at n (omega (arith, l, few)),
            )

        apart : Apart (tag_byte (tag_at n)) later
        apart =
            apart-joined _ (many - suc n) (λ more. part (n + suc more))
            (λ more k. apart-joined _ (count day.counts (tag_at (n + suc more))) _ (λ row h. other more k))

      pub back : (n : ℕ) → n ≤ many → Back day numbers S (head_and many) n (tables_to (head_and many) n) (head_and n)
      unfolding tables_to joined
      back zero l = back_head
      back (suc n) l =
          rw (← append_assoc head (joined n part) (part n))
          (back_more day numbers S (head_and many) n (omega (arith, l, few)) (tables_to (head_and many) n) (head_and n) (later n l)
          (back n (omega (arith, l))) (cut n l) (apart n l))
