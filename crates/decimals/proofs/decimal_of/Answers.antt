-- The tests find what the word's do, since a number beyond the bound is capped beyond it.
use native.Mathlib.Omega.{arith}
use Rattle.std.proofs.Common.{rules, ◌≡◌, ◌≤◌}
use Rattle.units.specs.Refusals.{first_refusal}
use Rattle.units.proofs.Checks.{at_most}
use Rattle.text.specs.Text.{value}
use Rattle.decimals.specs.Word.{word_check}
use Rattle.decimals.proofs.Spelling.{same_number}
use Rattle.decimals.proofs.decimal_of.Goals as goal

pub overflow_cast-result : goal.overflow_cast-result
overflow_cast-result c = omega (arith, at_most _ c.keep-3.ensures c.in_ok-keep-3.was)

pub returns : goal.returns
unfolding word_check first_refusal
returns c =
    let within : c.value_up_to-number.result ≤ c.args.most = at_most _ c.keep-3.ensures c.in_ok-keep-3.was in
    let is : c.value_up_to-number.result ≡ value c.args.word.now =
    same_number _ _ c.value_up_to-number.ensures (omega (arith, within, c.value_up_to-number.ensures)) in
    search rules
