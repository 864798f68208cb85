-- The second read goes on where the first, which took a word, stopped.
use Rattle.std.proofs.Common.{ℕ, ◌≤◌, List, length, take, length-take-le, length-append, arith}
use Rattle.std.specs.Prelude.{Option}
use Rattle.std.specs.Io.KnownBytes.{Consumes}
use Rattle.std.proofs.KnownBytes.{Consumes-trans}
use Rattle.cases.specs.Private.{TakesWord}
use Rattle.cases.proofs.read_case.Goals as goal

both : (before now after : Option (List ℕ)) (n : ℕ) (head rest : List ℕ) → Consumes before now (take n head) → n ≤ length head → 4 ≤ n
    → Consumes now after rest → TakesWord before after
both before now after n head rest first l word second =
    (_, Consumes-trans _ _ _ _ _ first second, omega (arith, word, length-append (take n head) rest, length-take-le n head l))

pub returns-clause-taken : goal.returns-clause-taken
returns-clause-taken g c =
    let read = c.in_ok-read_full.ensures in
    both _ _ _ _ _ _ read.bytes read.bound (omega (arith, c.if-branch-lt4.false)) c.in_ok-read_full-2.ensures.bytes
