-- Whether a search finds a marked row among n, by a loop and by an iterator.
use mathlib.Core.Path.{◌≡◌, refl, ap, sym, ◌∙◌}
use mathlib.Core.Bool.{Bool, true, false, cond, not, ◌&&◌, ◌||◌, true≢false}
use Prim.Native.Nat.{ℕ, zero, suc, ◌+◌, ◌≤◌, ◌<◌}
use native.Mathlib.Nat.{zero-add}
use native.Mathlib.Numerals.{add-one}
use denote.Param.Members.{Mut}
use denote.Ref.{Bor}
use lib.Dec.{leb, ltb}
use borrow.Author.Tests.{lt-ltb, le-ltb, le-leb, lt-leb}
use native.Mathlib.Decide.{dec_lt}
use native.Mathlib.Omega.{arith}
use Rattle.std.specs.Prelude.{Option, Some, None, MatchOption, unwrap_or}
use Rattle.std.specs.declared.ops.Range.{Range}
use Rattle.std.specs.List.{list_any, list_all, range_with_len}
use Rattle.std.specs.Fn.{Called, CalledAt}
use Rattle.std.specs.Iterator.{ChecksAny, ChecksAll, FindsItem}
use Rattle.std.proofs.iter.Yields.{nat_range_steps}
use Rattle.std.proofs.lemmas.Iterator.{YieldsList-from_range, first_from_Range}
use Rattle.std.proofs.lemmas.Iterator.Search.{any_from_yields_List, all_from_yields_List}
use Rattle.columns.specs.First.{first_from, first}
use Rattle.columns.proofs.Firsts.{Searched, first_found, first-none, first-passed, ends}

module _ (p : ℕ → Bool) (n row : ℕ) (S : Searched p n row) where
  pub clear : n ≤ row → leb n (first n p) ≡ true
  clear l = le-leb n (first n p) (omega (arith, ends p n row S l))

-- any marked row is a witness
pub witnessed : (p : ℕ → Bool) (n row : ℕ) → row < n → p row ≡ true → ltb (first n p) n ≡ true
witnessed p n row l e = by (dec_lt (first n p) n)
  where
    by : Dec (first n p < n) → ltb (first n p) n ≡ true
    by (yes h) = lt-ltb (first n p) n h
    by (no h) = absurd (true≢false (sym e ∙ first-passed p n (omega (arith, h)) row l))

-- where no row is marked it finds none
pub unmarked : (p : ℕ → Bool) (n : ℕ) → ((row : ℕ) → row < n → p row ≡ false) → leb n (first n p) ≡ true
unmarked p n none = le-leb n (first n p) (omega (arith, first-none p n none))

-- a number is not at most another where the other is less
pub not_leb : (m n : ℕ) → not (leb m n) ≡ ltb n m
not_leb m n = by (dec_lt n m)
  where
    by : Dec (n < m) → not (leb m n) ≡ ltb n m
    by (yes h) = rw (lt-leb m n h, lt-ltb n m h)
    by (no h) = rw (le-leb m n (omega (arith, h)), le-ltb n m (omega (arith, h)))

-- ---- the same by an iterator over the rows, whose closure computes the test
list_any-first : (n i : ℕ) (p : ℕ → Bool) → list_any p (range_with_len i n) ≡ ltb (first_from n i p) (i + n)
unfolding first_from
list_any-first zero i p = sym (le-ltb i (i + 0) (omega arith))
list_any-first (suc n) i p = go (p i) (list_any-first n (i + 1) p)
  where
    go : (m : Bool) → list_any p (range_with_len (i + 1) n) ≡ ltb (first_from n (i + 1) p) (i + 1 + n)
        → (m || list_any p (range_with_len (i + 1) n)) ≡ ltb (cond m i (first_from n (suc i) p)) (i + suc n)
    go true rest = sym (lt-ltb i (i + suc n) (omega arith))
    go false rest = rest ∙ ap (λ k. ltb (first_from n (i + 1) p) k) (omega arith) ∙ ap (λ k. ltb (first_from n k p) (i + suc n)) (add-one i)

list_all-first : (n i : ℕ) (p : ℕ → Bool) → list_all p (range_with_len i n) ≡ leb (i + n) (first_from n i (λ k. not (p k)))
unfolding first_from
list_all-first zero i p = sym (le-leb (i + 0) i (omega arith))
list_all-first (suc n) i p = go (p i) (list_all-first n (i + 1) p)
  where
    go : (m : Bool) → list_all p (range_with_len (i + 1) n) ≡ leb (i + 1 + n) (first_from n (i + 1) (λ k. not (p k)))
        → (m && list_all p (range_with_len (i + 1) n)) ≡ leb (i + suc n) (cond (not m) i (first_from n (suc i) (λ k. not (p k))))
    go false rest = sym (lt-leb (i + suc n) i (omega arith))
    go true rest =
        rest
        ∙ ap (λ k. leb k (first_from n (i + 1) (λ k. not (p k)))) (omega arith)
        ∙ ap (λ k. leb (i + suc n) (first_from n k (λ k. not (p k)))) (add-one i)

module _ {F : Type 0} (p : ℕ → Bool) (n : ℕ) (f : F) (u : Range ℕ) where
  pub any-first : {g : Mut F (ℕ × Unit {0}) Bool} (r : Bool) → ChecksAny nat_range_steps g (record { start = 0; end = n }) f r u
      → ((x : ℕ) (b : Bool) (q : F) → Called g f (x, tt) b q → (q ≡ f) × (b ≡ p x)) → r ≡ ltb (first n p) n
  any-first r ran closure =
      any_from_yields_List p u f r ran (YieldsList-from_range 0 n n refl (omega arith)) closure
      ∙ list_any-first n 0 p ∙ ap (ltb (first n p)) (zero-add n)

  pub all-first : {g : Mut F (ℕ × Unit {0}) Bool} (r : Bool) → ChecksAll nat_range_steps g (record { start = 0; end = n }) f r u
      → ((x : ℕ) (b : Bool) (q : F) → Called g f (x, tt) b q → (q ≡ f) × (b ≡ p x)) → r ≡ leb n (first n (λ k. not (p k)))
  all-first r ran closure =
      all_from_yields_List p u f r ran (YieldsList-from_range 0 n n refl (omega arith)) closure
      ∙ list_all-first n 0 p ∙ ap (λ k. leb k (first n (λ k. not (p k)))) (zero-add n)

  pub find-first : {g : Mut F (Bor ℕ × Unit {0}) Bool} (r : Option ℕ) → FindsItem nat_range_steps g (record { start = 0; end = n }) f r u
      → ((x : ℕ) (b : Bool) (q : F) → CalledAt g f x b q → (q ≡ f) × (b ≡ p x)) → unwrap_or r n ≡ first n p
  find-first r ran closure =
      by r
      (first_from_Range (record { start = 0; end = n }) u f r (λ x. p x ≡ true) (λ x. p x ≡ false) ran
      (λ x q k. sym (closure x true q k).1)
      (λ x q k. ((closure x false q k).0, sym (closure x false q k).1)))
    where
      by : (r : Option ℕ) → MatchOption r ((k : ℕ) → 0 ≤ k → k < n → p k ≡ false)
          (λ i. (0 ≤ i) × (i < n) × (p i ≡ true) × ((k : ℕ) → 0 ≤ k → k < i → p k ≡ false))
          → unwrap_or r n ≡ first n p
      by None none = sym (first-none p n (λ k l. none k (omega arith) l))
      by (Some i) h = sym (first_found p n i h.1 (λ k l. h.3 k (omega arith) l) h.2)
