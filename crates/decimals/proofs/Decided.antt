-- The tests decide an answer of `decimal_of`: number 0 exactly where they accept, and where they refuse the number read is 0.
use Rattle.std.specs.Prelude.{Result}
use mathlib.Core.Path.{◌≡◌, refl}
use mathlib.Core.List.{List}
use Prim.Native.Nat.{ℕ}
use Rattle.units.specs.Verdict.{Decided}
use Rattle.units.proofs.Verdicts.{AllNumbered, none, ◌and◌, kept_by, decided}
use Rattle.text.specs.Text.{value}
use Rattle.decimals.specs.Word.{word_check, decimal_answer, decimal_of, decimal_verdict}
use Rattle.units.specs.declared.refusal.Refusal.{Refusal}

pub word_numbered : (word : List ℕ) (most : ℕ) → AllNumbered (word_check word most)
unfolding word_check
word_numbered word most = none and kept_by _ 3 tt tt and kept_by _ 3 tt tt and kept_by _ 3 tt tt

pub decimal_decided : (word : List ℕ) (most : ℕ) {decimal : Result ℕ Refusal} → decimal ≡ decimal_of word most
    → Decided (word_check word most) (value word) 0 (decimal_verdict decimal)
decimal_decided word most = decided decimal_answer decimal_verdict refl (λ refusal. refl) (word_numbered word most)
