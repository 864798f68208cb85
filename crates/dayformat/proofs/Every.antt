-- What holds of every tag: computed over the tables in file order, and told of any tag by one case each.
use mathlib.Core.Path.{◌≡◌, refl, ap, sym, ◌∙◌}
use mathlib.Core.Bool.{Bool, true, false, cond, not, true≢false}
use mathlib.Core.List.{List, [], ◌∷◌}
use mathlib.Core.Logic.{◌⊎◌, inl, inr, ⊎_elim}
use Prim.Native.Nat.{ℕ, zero, suc, ◌≤◌, ◌<◌}
use native.Mathlib.Omega.{arith}
use lib.Dec.{eqb}
use lib.ListN.{length, get_or}
use borrow.Author.Tests.{eqb-true, not-false}
use Rattle.columns.specs.First.{first, first_from}
use Rattle.columns.proofs.Firsts.{first-passed}
use Rattle.dayformat.specs.declared.form.Tag.{Tag}
use Rattle.dayformat.specs.declared.form.Tag.TheVariants.{Head, Shipper, Point, Entry, Meter, Excused}
use Rattle.dayformat.specs.Format.{tag_byte, many_tables, tag_at, table_place}
use Rattle.dayformat.specs.Private.{HasTable}

-- ---- the head alone has no table
pub either : (tag : Tag) → (tag ≡ Head) ⊎ ((table_place tag < many_tables) × HasTable tag)
either Head = inl refl
either Shipper = inr (omega arith, refl)
either Point = inr (omega arith, refl)
either Entry = inr (omega arith, refl)
either Meter = inr (omega arith, refl)
either Excused = inr (omega arith, refl)

pub inside : (tag : Tag) → table_place tag < many_tables
inside tag = ⊎_elim (λ is. rw is (omega arith)) (λ t. t.0) (either tag)

-- so what holds of the head and of the tag at each place holds of every tag
pub every : (P : Tag → Type 0) → P Head → ((place : ℕ) → place < many_tables → P (tag_at place)) → (tag : Tag) → P tag
every P head each tag = ⊎_elim (λ is. rw is head) (λ t. rw (← t.1) (each (table_place tag) t.0)) (either tag)

-- ---- a test that every place passes
passes_at : (test : ℕ → Bool) (n : ℕ) → n ≤ first n (λ place. not (test place)) → (place : ℕ) → place < n → test place ≡ true
passes_at test n all place l = not-false _ (first-passed (λ place. not (test place)) n all place l)

-- the same of every tag
pub passes-every : (test : Tag → Bool) → test Head ≡ true → many_tables ≤ first many_tables (λ place. not (test (tag_at place)))
    → (tag : Tag) → test tag ≡ true
passes-every test head all = every (λ tag. test tag ≡ true) head (passes_at (λ place. test (tag_at place)) many_tables all)

-- ---- places and tags go together
pub place_at : (place : ℕ) → place < many_tables → table_place (tag_at place) ≡ place
unfolding first_from
place_at place l = eqb-true _ _ (passes_at (λ place. eqb (table_place (tag_at place)) place) many_tables (omega arith) place l)

pub table_at : (place : ℕ) → place < many_tables → HasTable (tag_at place)
table_at place l = ap tag_at (place_at place l)

-- ---- a tag's byte tells it from all others
-- the place of the tag that has a byte, past the last for the head's
abbrev place_of_byte : ℕ → ℕ
place_of_byte byte = first many_tables (λ place. eqb (tag_byte (tag_at place)) byte)

found : (tag : Tag) → tag_at (place_of_byte (tag_byte tag)) ≡ tag
unfolding first_from
found = every (λ tag. tag_at (place_of_byte (tag_byte tag)) ≡ tag) refl (λ place l. ap tag_at (there place l))
  where
    there : (place : ℕ) → place < many_tables → place_of_byte (tag_byte (tag_at place)) ≡ place
    there place l =
        eqb-true _ _ (passes_at (λ place. eqb (place_of_byte (tag_byte (tag_at place))) place) many_tables (omega arith) place l)

pub byte_tells : (one other : Tag) → tag_byte one ≡ tag_byte other → one ≡ other
byte_tells one other same = sym (found one) ∙ ap (λ byte. tag_at (place_of_byte byte)) same ∙ found other

-- ---- a test that everything in a list of a tag's data passes
abbrev pub all_of : {X : Type 0} → (X → Bool) → List X → Bool
all_of test [] = true
all_of test (x ∷ rest) = cond (test x) (all_of test rest) false

pub all_first : {X : Type 0} (test : X → Bool) (x : X) (rest : List X) → all_of test (x ∷ rest) ≡ true
    → (test x ≡ true) × (all_of test rest ≡ true)
all_first test x rest = by (test x)
  where
    by : (b : Bool) → cond b (all_of test rest) false ≡ true → (b ≡ true) × (all_of test rest ≡ true)
    by true e = (refl, e)
    by false e = absurd (true≢false (sym e))

pub all_at : {X : Type 0} (test : X → Bool) (list : List X) → all_of test list ≡ true → (i : ℕ) (past : X) → i < length list
    → test (get_or list i past) ≡ true
all_at test [] all i past l = absurd (omega (arith, l))
all_at test (x ∷ rest) all zero past l = (all_first test x rest all).0
all_at test (x ∷ rest) all (suc i) past l = all_at test rest (all_first test x rest all).1 i past (omega (arith, l))
