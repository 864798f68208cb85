-- A body read kind by kind: its numbers lie one after another, and each is within the bounds of its own kind where all kinds say so.
use mathlib.Core.Path.{◌≡◌, refl, ap, ap₂, sym, ◌∙◌}
use mathlib.Core.Bool.{Bool, true, false, true≢false}
use mathlib.Core.List.{List, [], ◌∷◌, ◌++◌, append_assoc, append-nil}
use mathlib.Core.Logic.{inl, inr}
use Prim.Native.Nat.{ℕ, zero, suc, ◌+◌, ◌-◌, ◌*◌, ◌≤◌, ◌<◌}
use native.Mathlib.Decide.{dec_lt}
use native.Mathlib.Omega.{arith}
use borrow.Author.Tests.{leb-true, lt-ltb, le-ltb}
use lib.Dec.{leb}
use lib.ListN.{length, take, drop, replicate, length-append, length-replicate, get_or-replicate, get_or-append}
use lib.Seq.{sets, sets-eq, length-sets, drop-drop, length-take-le, ext_get_or, get_or-append-add}
use Rattle.columns.specs.Column.{col, listed}
use Rattle.columns.proofs.Lists.{sets-append, length-listed, col-listed, listed_same}
use Rattle.columns.proofs.Joined.{listed_more}
use Rattle.bigendian.specs.Number.{value, widest}
use Rattle.bigendian.specs.Row.{decode, size}
use Rattle.bigendian.proofs.Rows.{length-decode}
use Rattle.dayformat.specs.declared.form.Tag.{Tag}
use Rattle.dayformat.specs.declared.body.Column.{Column}
use Rattle.dayformat.specs.declared.body.Several.{Several}
use Rattle.dayformat.specs.Format.{◌of◌, body, column_in, numbers_of, widths, form}
use Rattle.dayformat.proofs.Every.{all_of, all_first}
use Rattle.dayformat.proofs.Small.{narrow_kinds}
use Rattle.dayrows.specs.Test.{in_bounds, bounded}
use Rattle.dayrows.proofs.Enough.{bounded_by}
use Rattle.dayruns.specs.declared.kind.Cursor.{Cursor}
use Rattle.dayruns.specs.Private.{numbers_at, AllWithin, KindRead, kind_widths, numbers_of_kinds, AllInside, KindsRead, BodyRoom, with_body, BodyRead}

-- ---- the kinds of a body, the first so many and the rest
widths-append : (kinds rest : List Several) → kind_widths (kinds ++ rest) ≡ kind_widths kinds ++ kind_widths rest
widths-append [] rest = refl
widths-append (several ∷ kinds) rest =
    let these = replicate several.many several.kind.width in
    ap (λ those. these ++ those) (widths-append kinds rest) ∙ sym (append_assoc these (kind_widths kinds) (kind_widths rest))

numbers-append : (kinds rest : List Several) → numbers_of (kinds ++ rest) ≡ numbers_of kinds + numbers_of rest
numbers-append [] rest = omega arith
numbers-append (several ∷ kinds) rest = omega (arith, numbers-append kinds rest)

module _ (several : Several) (rest : List Several) (i : ℕ) where
  column-first : i < several.many → column_in (several ∷ rest) i ≡ several.kind
  unfolding column_in
  column-first l = rw (lt-ltb i several.many l)

  column-later : column_in (several ∷ rest) (several.many + i) ≡ column_in rest i
  unfolding column_in
  column-later =
      let past : several.many + i - several.many ≡ i = omega arith in
      rw (le-ltb (several.many + i) several.many (omega arith), past)

column-before : (kinds rest : List Several) (i : ℕ) → i < numbers_of kinds → column_in (kinds ++ rest) i ≡ column_in kinds i
unfolding column_in
column-before [] rest i l = absurd (omega (arith, l))
column-before (several ∷ kinds) rest i l =
    by (dec_lt i several.many) (λ h. column-before kinds rest (i - several.many) (omega (arith, l, h)))
  where
    by : Dec (i < several.many)
        → (several.many ≤ i → column_in (kinds ++ rest) (i - several.many) ≡ column_in kinds (i - several.many))
        → column_in (several ∷ (kinds ++ rest)) i ≡ column_in (several ∷ kinds) i
    by (yes k) later = column-first several (kinds ++ rest) i k ∙ sym (column-first several kinds i k)
    by (no h) later = let past : several.many ≤ i = omega (arith, h) in rw (le-ltb i several.many past) (later past)

column-past : (kinds rest : List Several) (i : ℕ) → column_in (kinds ++ rest) (numbers_of kinds + i) ≡ column_in rest i
column-past [] rest i = ap (column_in rest) (omega arith)
column-past (several ∷ kinds) rest i =
    let there : several.many + numbers_of kinds + i ≡ several.many + (numbers_of kinds + i) = omega arith in
    ap (column_in (several ∷ (kinds ++ rest))) there
    ∙ column-later several (kinds ++ rest) (numbers_of kinds + i)
    ∙ column-past kinds rest i

-- ---- a body's widths are those of its kinds
listed_like : (n : ℕ) (f : ℕ → ℕ) (x : ℕ) → ((i : ℕ) → i < n → f i ≡ x) → listed n f ≡ replicate n x
listed_like n f x each =
    ext_get_or 0 (listed n f) (replicate n x) (length-listed n f ∙ sym (length-replicate n x))
    (λ i l.
    let inside : i < n = rw length-listed at l in
    col-listed n f i inside ∙ each i inside ∙ sym (get_or-replicate n i x 0 inside))

widths_of : (kinds : List Several) → listed (numbers_of kinds) (λ place. (column_in kinds place).width) ≡ kind_widths kinds
unfolding listed
widths_of [] = refl
widths_of (several ∷ rest) =
    listed_more several.many (numbers_of rest) (λ place. (column_in (several ∷ rest) place).width)
    ∙ ap₂ (λ these those. these ++ those)
    (listed_like several.many _ several.kind.width (λ i l. ap (λ column. column.width) (column-first several rest i l)))
    (listed_same (numbers_of rest) _ _ (λ i l. ap (λ column. column.width) (column-later several rest i)) ∙ widths_of rest)

widths-are : (tag : Tag) → widths tag ≡ kind_widths (body tag)
widths-are tag = widths_of (body tag)

-- ---- numbers read one after another
size-append : (ws vs : List ℕ) → size (ws ++ vs) ≡ size ws + size vs
unfolding size
size-append [] vs = omega arith
size-append (w ∷ ws) vs = omega (arith, size-append ws vs)

size_replicate : (many width : ℕ) → size (replicate many width) ≡ many * width
unfolding size
size_replicate zero width = omega arith
size_replicate (suc many) width = omega (arith, size_replicate many width)

decode-append : (ws vs list : List ℕ) → decode (ws ++ vs) list ≡ decode ws list ++ decode vs (drop (size ws) list)
unfolding decode size
decode-append [] vs list = refl
decode-append (w ∷ ws) vs list =
    ap (λ rest. value (take w list) ∷ rest) (decode-append ws vs (drop w list) ∙ rw drop-drop)

length-widths : (kinds : List Several) → length (kind_widths kinds) ≡ numbers_of kinds
length-widths kinds = ap length (sym (widths_of kinds)) ∙ length-listed _ _

kinds-long : (kinds : List Several) (list : List ℕ) → length (decode (kind_widths kinds) list) ≡ numbers_of kinds
kinds-long kinds list = length-decode (kind_widths kinds) list ∙ length-widths kinds

-- ---- kinds read one after another
infixl 50 ◌followed_by◌
pub kinds-none : (file : List ℕ) (from : Cursor) (lent : List ℕ) → KindsRead [] file from lent lent from
unfolding decode size
kinds-none file from lent = record { lays = refl; byte = omega arith; place = omega arith; keeps = λ e place l. absurd (omega (arith, l)) }

module _ {kinds : List Several} {file : List ℕ} {from cursor : Cursor} {lent between : List ℕ}
    (R : KindsRead kinds file from lent between cursor) where
  -- the next kind has room where the whole body has
  pub kind-room : (tag : Tag) (several : Several) (rest : List Several) → kinds ++ (several ∷ rest) ≡ body tag → BodyRoom tag file from lent
      → (several.kind.width ≤ widest)
      × (cursor.byte + several.many * several.kind.width ≤ length file)
      × (cursor.to + several.many ≤ length between)
  kind-room tag several rest is room = (
    leb-true _ _ (among kinds (rw is (narrow_kinds tag))),
    omega (arith, room.0, R.byte, bytes),
    omega (arith, room.1, R.place, places, long),
  )
    where
      short : Several → Bool
      short several = leb several.kind.width widest

      among : (kinds : List Several) → all_of short (kinds ++ (several ∷ rest)) ≡ true → short several ≡ true
      among [] all = (all_first short several rest all).0
      among (first ∷ kinds) all = among kinds (all_first short first (kinds ++ (several ∷ rest)) all).1

      long : length between ≡ length lent
      long = ap length R.lays ∙ length-sets lent from.to (numbers_of_kinds kinds file from.byte)

      bytes : (form tag).size ≡ size (kind_widths kinds) + (several.many * several.kind.width + size (kind_widths rest))
      bytes =
          ap size (widths-are tag ∙ ap kind_widths (sym is) ∙ widths-append kinds (several ∷ rest))
          ∙ rw (size-append, size-append, size_replicate)

      places : (form tag).columns ≡ numbers_of kinds + (several.many + numbers_of rest)
      places = ap numbers_of (sym is) ∙ numbers-append kinds (several ∷ rest)

  module _ {many : ℕ} {column : Column} {after : List ℕ} {next : Cursor} (K : KindRead file cursor many column between after next) where
    abbrev more : List Several
    more = many of column ∷ []

    abbrev these : List ℕ
    these = numbers_of_kinds kinds file from.byte

    abbrev those : List ℕ
    those = numbers_at column many file cursor.byte

    widths-more : kind_widths (kinds ++ more) ≡ kind_widths kinds ++ replicate many column.width
    widths-more = widths-append kinds more ∙ ap (λ widths. kind_widths kinds ++ widths) (append-nil _)

    whole : numbers_of_kinds (kinds ++ more) file from.byte ≡ these ++ those
    whole =
        ap (λ widths. decode widths (drop from.byte file)) widths-more
        ∙ decode-append (kind_widths kinds) (replicate many column.width) (drop from.byte file)
        ∙ rw (drop-drop, R.byte)

    long : length these ≡ numbers_of kinds
    long = kinds-long kinds (drop from.byte file)

    each : AllInside kinds these → AllWithin column many those → (i : ℕ) → Dec (i < numbers_of kinds) → i < numbers_of kinds + many
        → in_bounds (column_in (kinds ++ more) i) (col (these ++ those) i) ≡ true
    each all within i (yes l) h =
        rw (column-before kinds more i l, get_or-append these those 0 i (omega (arith, l, long))) (all i l)
    each all within i (no f) h =
        let beyond : numbers_of kinds + (i - numbers_of kinds) ≡ i = omega (arith, f) in
        let inside : i - numbers_of kinds < many = omega (arith, f, h) in
        let there : col (these ++ those) (numbers_of kinds + (i - numbers_of kinds)) ≡ col those (i - numbers_of kinds) =
        ap (λ many. col (these ++ those) (many + (i - numbers_of kinds))) (sym long)
        ∙ get_or-append-add these those (i - numbers_of kinds) 0
        in rw (← beyond)
        (rw (column-past kinds more (i - numbers_of kinds), column-first (many of column) [] (i - numbers_of kinds) inside, there)
        (within (i - numbers_of kinds) inside))

    pub ◌followed_by◌ : KindsRead (kinds ++ (many of column ∷ [])) file from lent after next
    ◌followed_by◌ =
        record {
          lays = K.lays ∙ rw (R.lays, R.place, whole, sets-append, long);
          byte = K.byte ∙ rw (R.byte, widths-more, size-append, size_replicate) (omega arith);
          place = omega (arith, K.place, R.place, numbers-append kinds more);
          keeps = λ e.
              let here = K.keeps e in
              λ i l.
              rw whole (each (R.keeps here.0) here.1 i (dec_lt i (numbers_of kinds)) (omega (arith, l, numbers-append kinds more)));
        }

-- ---- what is laid stands there
col-laid : (vs l : List ℕ) (i place : ℕ) → i + length vs ≤ length l → place < length vs → col (sets l i vs) (i + place) ≡ col vs place
col-laid vs l i place room inside =
    let ahead : length (take i l) ≡ i = length-take-le i l (omega (arith, room)) in
    let there : length (take i l) + place ≡ i + place = omega (arith, ahead) in
    ap (λ list. col list (i + place)) (sets-eq vs l i room)
    ∙ get_or-append (take i l ++ vs) (drop (i + length vs) l) 0 (i + place)
    (omega (arith, inside, ahead, length-append (take i l) vs))
    ∙ ap (col (take i l ++ vs)) (sym there)
    ∙ get_or-append-add (take i l) vs place 0

-- ---- a body is its kinds
pub body-read : (tag : Tag) {file : List ℕ} {from next : Cursor} {lent after : List ℕ} → KindsRead (body tag) file from lent after next
    → BodyRoom tag file from lent → BodyRead file tag from lent after next.kept
body-read tag {file} {from} {next} {lent} {after} R room = record { lays = inr laid; keeps = λ k. (laid, inside k) }
  where
    row : List ℕ
    row = numbers_of_kinds (body tag) file from.byte

    laid : after ≡ with_body tag file from lent
    laid = rw (widths-are tag) R.lays

    long : length row ≡ (form tag).columns
    long = kinds-long (body tag) (drop from.byte file)

    inside : next.kept ≡ true → bounded (col after) tag from.to ≡ true
    inside k =
        bounded_by (col after) tag from.to
        (λ place l.
        rw (R.lays, col-laid row lent from.to place (omega (arith, room.1, long)) (omega (arith, l, long))) (R.keeps k place l))

-- a body that is not read
pub body-unread : (tag : Tag) {file : List ℕ} {from : Cursor} {lent : List ℕ} → BodyRead file tag from lent lent false
body-unread tag = record { lays = inl refl; keeps = λ no. absurd (true≢false (sym no)) }
