-- What the turns took is no more than there was, so a shorter input has ended before the last of them.
use Rattle.std.proofs.Common.{ℕ, ◌+◌, ◌-◌, ◌*◌, ◌^◌, ◌≤◌, List, [], length, ap, length-append, arith}
use Rattle.std.specs.Prelude.{Option, None, Some}
use Rattle.std.specs.Io.KnownBytes.{Consumes, IsAtEnd}
use Rattle.std.proofs.KnownBytes.{Consumes-nil, Consumes-trans}
use Rattle.cases.specs.Run.{ReadWhole}
use Rattle.cases.specs.Private.{TakesWord, TakesLast}
use Rattle.cases.proofs.answer_cases.Goals as goal

at_end : (before after : Option (List ℕ)) (bytes : List ℕ) → Consumes before after bytes → IsAtEnd after → ReadWhole before after
at_end None after bytes consumes end = tt
at_end (Some all) None bytes consumes end = absurd consumes
at_end (Some all) (Some rest) bytes consumes end = λ l. ap Some end

next : (before now after : Option (List ℕ)) (taken : List ℕ) (turn : ℕ) → Consumes before now taken → turn * 4 ≤ length taken
    → TakesWord now after → (bytes : List ℕ) × Consumes before after bytes × ((turn + 1) * 4 ≤ length bytes)
next before now after taken turn so-far long (bytes, consumes, word) =
    (_, Consumes-trans _ _ _ _ _ so-far consumes, omega (arith, long, word, length-append taken bytes))

last : (before now after : Option (List ℕ)) (taken : List ℕ) → Consumes before now taken → TakesLast now after → ReadWhole before after
last before now after taken so-far (bytes, consumes, end) = at_end _ _ _ (Consumes-trans _ _ _ _ _ so-far consumes) end

too_long : (before after : Option (List ℕ)) (bytes : List ℕ) → Consumes before after bytes → (2 ^ 64 - 1) * 4 ≤ length bytes
    → ReadWhole before after
too_long None after bytes consumes long = tt
too_long (Some all) None bytes consumes long = absurd consumes
too_long (Some all) (Some rest) bytes consumes long =
    λ l. absurd (omega (arith, l, long, ap length consumes, length-append bytes rest))

pub loop-init : goal.loop-init
loop-init g c = ([], Consumes-nil _, omega arith)

pub returns-in_default : goal.returns-in_default
returns-in_default g c =
    last _ _ _ _ c.loop.invariant.1 (rw c.in_default.is at c.in_ok-size.ensures.taken)

pub loop-preserved : goal.loop-preserved
loop-preserved g c =
    next _ _ _ _ _ c.loop.invariant.1 c.loop.invariant.2 (rw c.in-Some.is at c.in_ok-size.ensures.taken)

pub returns : goal.returns
returns g c = too_long _ _ _ c.loop.invariant.1 (omega (arith, c.loop.invariant.2, c.loop-test.false))
