-- The head is taken as any field, with nothing read before it.
use Rattle.dayfile.proofs.Steps.{headed-faulty, headed-sound}
use Rattle.dayfile.proofs.walk.begin.Goals as goal

pub returns-then-is_err : goal.returns-then-is_err
returns-then-is_err c = headed-faulty _ c.take_field-found.ensures c.if-is_err.ensures.negation

pub returns : goal.returns
returns c = headed-sound _ c.take_field-found.ensures c.if-is_err.ensures.negation
