-- The file is walked through as the definition has it, and its numbers are copied where nothing is found.
use borrow.Author.Rules.{rules}
use Rattle.std.proofs.lemmas.Result.{err_from_is_err_and}
use Rattle.columns.specs.Sum.{sum}
use Rattle.dayfile.proofs.Answers.{Tested, refuses, accepted-fits, accepted-there, reads}
use Rattle.dayfile.proofs.reader.read_day.Goals as goal

pub walk_file-walk-requires : goal.walk_file-walk-requires
unfolding sum
walk_file-walk-requires c = search rules

pub returns-in_err-examine : goal.returns-in_err-examine
returns-in_err-examine c =
    let tested : Tested =
    record {
      file = c.args.file.now;
      lent = c.args.lent.now;
      numbers = _;
      walk = _;
      walked = c.walk_file-walk.ensures;
      count = _;
      counted = c.numbers_of-count.ensures.0;
      found = _;
      finds = c.examine.ensures;
    } in
    let p = err_from_is_err_and c.from_residual.result c.from_residual.ensures.1 in
    rw (p.1, p.2) (refuses tested _ c.in_err-examine.was)

pub copy_numbers-requires : goal.copy_numbers-requires
copy_numbers-requires c =
    let tested : Tested =
    record {
      file = c.args.file.now;
      lent = c.args.lent.now;
      numbers = _;
      walk = _;
      walked = c.walk_file-walk.ensures;
      count = _;
      counted = c.numbers_of-count.ensures.0;
      found = _;
      finds = c.examine.ensures;
    } in
    let yes = c.in_ok-examine.was in
    (accepted-there tested yes, accepted-fits tested yes)

pub returns : goal.returns
returns c =
    let tested : Tested =
    record {
      file = c.args.file.now;
      lent = c.args.lent.now;
      numbers = _;
      walk = _;
      walked = c.walk_file-walk.ensures;
      count = _;
      counted = c.numbers_of-count.ensures.0;
      found = _;
      finds = c.examine.ensures;
    } in
    reads tested c.in_ok-examine.was c.copy_numbers.ensures c.head_of-head.ensures
