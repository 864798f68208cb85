-- The data of each tag are what its body counts up to.
use Rattle.columns.specs.Column.{listed}
use Rattle.bigendian.specs.Row.{size}
use Rattle.dayformat.specs.Format.{column_in}
use Rattle.dayformat.proofs.form.form_of.Goals as goal

pub returns-in-Head : goal.returns-in-Head
unfolding listed size column_in
returns-in-Head c = rw c.in-Head.is

pub returns-in-Shipper : goal.returns-in-Shipper
unfolding listed size column_in
returns-in-Shipper c = rw c.in-Shipper.is

pub returns-in-Point : goal.returns-in-Point
unfolding listed size column_in
returns-in-Point c = rw c.in-Point.is

pub returns-in-Entry : goal.returns-in-Entry
unfolding listed size column_in
returns-in-Entry c = rw c.in-Entry.is

pub returns-in-Meter : goal.returns-in-Meter
unfolding listed size column_in
returns-in-Meter c = rw c.in-Meter.is

pub returns-in-Excused : goal.returns-in-Excused
unfolding listed size column_in
returns-in-Excused c = rw c.in-Excused.is
