-- Each answer is the first of the tests that the field fails.
use Rattle.dayrows.proofs.Breaking.{past, header-cut, other_tag, other_length, body-cut, unbroken}
use Rattle.dayrows.proofs.field.breaks.Goals as goal

pub returns-then-file-at : goal.returns-then-file-at
returns-then-file-at c = past _ _ _ c.if-file-at.true

pub returns-then-left-lt-HEADER : goal.returns-then-left-lt-HEADER
returns-then-left-lt-HEADER c = header-cut _ _ _ c.if-file-at.false c.if-left-lt-HEADER.true

pub returns-then-file-at-2 : goal.returns-then-file-at-2
returns-then-file-at-2 c =
    other_tag _ _ _ c.if-file-at.false c.form_of-form.ensures c.if-left-lt-HEADER.false c.if-file-at-2.true

pub returns-then-number_at-form : goal.returns-then-number_at-form
returns-then-number_at-form c =
    other_length _ _ _ c.if-file-at.false c.form_of-form.ensures c.if-left-lt-HEADER.false
    c.if-file-at-2.false c.number_at.ensures c.if-number_at-form.true

pub returns-then-left-form : goal.returns-then-left-form
returns-then-left-form c =
    body-cut _ _ _ c.if-file-at.false c.form_of-form.ensures c.if-left-lt-HEADER.false
    c.if-file-at-2.false c.number_at.ensures c.if-number_at-form.false c.if-left-form.true

pub returns : goal.returns
returns c =
    unbroken _ _ _ c.if-file-at.false c.form_of-form.ensures c.if-left-lt-HEADER.false
    c.if-file-at-2.false c.number_at.ensures c.if-number_at-form.false c.if-left-form.false
