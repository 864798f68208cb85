-- The search stops at the first byte that is no digit.
use Rattle.std.proofs.Common.{◌≡◌, ◌∙◌, ℕ, not, rules}
use Rattle.std.specs.Char.{is_ascii_digit}
use Rattle.std.specs.List.{position}
use Rattle.std.proofs.lemmas.Iterator.{YieldsList-from_slice}
use Rattle.std.proofs.lemmas.Iterator.Search.{position_from_yields_List}
use Rattle.columns.proofs.Firsts.{unwrap_or-position}
use Rattle.decimals.proofs.Spelling.{first-other}
use Rattle.decimals.proofs.first_other.Goals as goal

pub returns : goal.returns
returns c =
    let word = c.args.word.now in
    let other = λ (byte : ℕ). not (is_ascii_digit byte) in
    let found : c.position.result ≡ position other word =
    position_from_yields_List other _ _ _ c.position.ensures.ran (YieldsList-from_slice word cc) (λ x b q h. search rules) in
    rw (c.unwrap_or.ensures, found) (unwrap_or-position other word ∙ first-other word)
