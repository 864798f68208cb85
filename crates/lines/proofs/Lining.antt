-- Lines laid word after word, and texts laid where the block ends.
use mathlib.Core.Path.{◌≡◌, refl, ap, sym, ◌∙◌}
use mathlib.Core.List.{List, [], ◌∷◌, ◌++◌, append_assoc}
use Prim.Native.Nat.{ℕ, suc, ◌+◌, ◌≤◌, ◌<◌, min}
use native.Mathlib.Nat.{add-zero, zero-add, add_assoc}
use native.Mathlib.Numerals.{add-one}
use native.Mathlib.Decide.{dec_lt}
use native.Mathlib.Omega.{arith}
use lib.ListN.{length, length-append, take, drop, set, get_or-append}
use lib.Seq.{length-sets, length-take-le, drop-cons, drop_at, take_all}
use Rattle.std.specs.List.{IsLastAndRest}
use Rattle.columns.specs.Column.{col}
use Rattle.columns.proofs.Laying.{sets-past}
use Rattle.units.specs.declared.refusal.Refusal.{Refusal}
use Rattle.text.specs.Text.{decimal, Laid}
use Rattle.text.proofs.Laying.{laid_both}
use Rattle.lines.specs.Line.{most_figures, spaced, labelled, decimals, line, title, refused}

-- a text and the byte that ends it
pub laid-ended : {bytes lent between after : List ℕ} {at m : ℕ} (byte : ℕ) → Laid bytes lent at m between
    → after ≡ set between (at + m) byte → Laid (bytes ++ (byte ∷ [])) lent at (m + 1) after
laid-ended byte L e = laid_both L (record { counts = refl; lays = e })

-- so a word and a space are one byte more than the word
pub spaced_long : (word : List ℕ) {lent after : List ℕ} {at r : ℕ} → Laid (spaced word) lent at r after → r ≡ length word + 1
spaced_long word L = L.counts ∙ length-append word (32 ∷ [])

-- for callers: a word laid before the rest of its line
pub line_word : (word next : List ℕ) (words : List (List ℕ)) {lent between after : List ℕ} {at m n : ℕ}
    → Laid (spaced word) lent at m between
    → Laid (line (next ∷ words)) between (at + m) n after → Laid (line (word ∷ next ∷ words)) lent at (m + n) after
unfolding line
line_word word next words a b = laid_both a b

-- for callers: a word with its figure is a line's two first words
pub line-labelled : (word next : List ℕ) (figure : ℕ) (words : List (List ℕ))
    → line (word ∷ decimal figure ∷ next ∷ words) ≡ labelled word figure ++ line (next ∷ words)
unfolding line
line-labelled word next figure words = sym (append_assoc (spaced word) (spaced (decimal figure)) (line (next ∷ words)))

-- ---- from the block's end on nothing is laid
-- for callers: so a text is counted
pub laid-past : {bytes lent after : List ℕ} {at r : ℕ} → length lent ≤ at → Laid bytes lent at r after → after ≡ lent
laid-past {bytes} {lent} {after} {at} h L = L.lays ∙ sets-past bytes lent at h

pub laid_from : {bytes lent after : List ℕ} {from r : ℕ} (at : ℕ) → from ≡ min at (length lent) → Laid bytes lent from r after
    → Laid bytes lent at r after
laid_from {bytes} {lent} {after} {from} {r} at e L = by (dec_lt at (length lent))
  where
    by : Dec (at < length lent) → Laid bytes lent at r after
    by (yes l) = let same : from ≡ at = omega arith in rw same at L
    by (no h) = record { counts = L.counts; lays = laid-past (omega arith) L ∙ sym (sets-past bytes lent at (omega arith)) }

-- ---- a text of which `size` bytes are laid has still to lay what is ahead
pub record Lining (whole lent : List ℕ) (at : ℕ) (ahead list : List ℕ) (size : ℕ) : Type 0 where
  pub finishes : {n : ℕ} {after : List ℕ} → Laid ahead list (at + size) n after → Laid whole lent at (size + n) after
  pub long : length list ≡ length lent

pub lining_none : {whole lent : List ℕ} {at : ℕ} → Lining whole lent at whole lent 0
lining_none = record { finishes = λ L. rw zero-add (rw add-zero at L); long = refl }

-- for callers: a first part is laid
pub lining_first : {bytes ahead lent between : List ℕ} {at m : ℕ} → Laid bytes lent at m between
    → Lining (bytes ++ ahead) lent at ahead between m
lining_first {bytes = bytes} {lent = lent} {at = at} a =
    record { finishes = λ b. laid_both a b; long = ap length a.lays ∙ length-sets lent at bytes }

pub lining_next : {whole lent bytes ahead list between : List ℕ} {at size m : ℕ} → Lining whole lent at (bytes ++ ahead) list size
    → Laid bytes list (at + size) m between → Lining whole lent at ahead between (size + m)
lining_next {bytes = bytes} {list = list} {at = at} {size = size} L a =
    record {
      finishes = λ b. rw add_assoc (L.finishes (laid_both a (rw (← add_assoc) at b)));
      long = ap length a.lays ∙ length-sets list (at + size) bytes ∙ L.long;
    }

-- for callers: nothing is ahead
pub lining_all : {whole lent list : List ℕ} {at size : ℕ} → Lining whole lent at [] list size → Laid whole lent at size list
lining_all L = rw add-zero at (L.finishes (record { counts = refl; lays = refl }))

-- ---- figures: all but the last with a space behind, the last with the line end
pub figures-none : (figures : List ℕ) {lent after : List ℕ} {at : ℕ} → length figures ≡ 0 → after ≡ set lent (at + 0) 10
    → Laid (line (decimals figures)) lent at 1 after
unfolding line
figures-none [] none e = record { counts = refl; lays = rw add-zero at e }
figures-none (figure ∷ figures) none e = absurd (omega arith)

module _ (figures others : List ℕ) (last : ℕ) (parts : IsLastAndRest figures last others) (place : ℕ) where
  line-next : place < length others
      → line (decimals (drop place figures)) ≡ spaced (decimal (col others place)) ++ line (decimals (drop (place + 1) figures))
  unfolding line
  line-next l =
      let other : col figures place ≡ col others place = rw parts.0 (get_or-append others (last ∷ []) 0 place l) in
      rw (
        add-one,
        drop-cons figures place 0 (omega (arith, parts.1)),
        drop-cons figures (suc place) 0 (omega (arith, parts.1)),
        other,
      )

  line-last : place ≡ length others → line (decimals (drop place figures)) ≡ decimal last ++ (10 ∷ [])
  unfolding line
  line-last e = rw (parts.0, drop_at others (last ∷ []) place (sym e))

  module _ {whole lent list after : List ℕ} {at size m : ℕ}
      (L : Lining whole lent at (line (decimals (drop place figures))) list size) where
    pub figures-next : place < length others → Laid (spaced (decimal (col others place))) list (at + size) m after
        → Lining whole lent at (line (decimals (drop (place + 1) figures))) after (size + m)
    figures-next l a = lining_next (rw (line-next l) at L) a

    pub figures-last : place ≡ length others → Laid (decimal last ++ (10 ∷ [])) list (at + size) m after
        → Laid whole lent at (size + m) after
    figures-last e a = L.finishes (rw (line-last e) a)

-- ---- of a longer list as many figures as a line may have
module _ (figures : List ℕ) (many : ℕ) (few : many ≡ min (length figures) most_figures) where
  pub few-long : many ≡ length (take many figures)
  few-long = sym (length-take-le many figures (omega arith))

  pub few-most : length (take many figures) ≤ most_figures
  few-most = omega (arith, few-long)

  take-few : take many figures ≡ take most_figures figures
  take-few = by (dec_lt most_figures (length figures))
    where
      by : Dec (most_figures < length figures) → take many figures ≡ take most_figures figures
      by (yes l) = let all : many ≡ most_figures = omega arith in rw all
      by (no h) = take_all many figures (omega arith) ∙ sym (take_all most_figures figures (omega arith))

  pub few-laid : {lent after : List ℕ} {from r : ℕ} (at : ℕ) → from ≡ min at (length lent)
      → Laid (line (decimals (take many figures))) lent from r after → Laid (line (decimals (take most_figures figures))) lent at r after
  few-laid at e L = laid_from at e (rw take-few at L)

pub refusal-laid : (refusal : Refusal) {lent between after : List ℕ} {from m n : ℕ} (at : ℕ) → from ≡ min at (length lent)
    → Laid (spaced title) lent from m between → Laid (line (decimals (refusal.number ∷ refusal.place ∷ []))) between (from + m) n after
    → Laid (refused refusal) lent at (m + n) after
refusal-laid refusal at e a b = laid_from at e (line_word title (decimal refusal.number) (decimals (refusal.place ∷ [])) a b)
