-- Each tag's own reader; of a head nothing is read.
use Rattle.dayformat.specs.declared.form.Tag.TheVariants.{Shipper, Point, Entry, Meter, Excused}
use Rattle.dayruns.proofs.BodyReading.{body-read, body-unread}
use Rattle.dayruns.proofs.body.read_body.Goals as goal

pub read_shipper-requires : goal.read_shipper-requires
read_shipper-requires c = rw c.in-Shipper.is at c.requires

pub read_point-requires : goal.read_point-requires
read_point-requires c = rw c.in-Point.is at c.requires

pub read_entry-requires : goal.read_entry-requires
read_entry-requires c = rw c.in-Entry.is at c.requires

pub read_meter-requires : goal.read_meter-requires
read_meter-requires c = rw c.in-Meter.is at c.requires

pub read_excused-requires : goal.read_excused-requires
read_excused-requires c = rw c.in-Excused.is at c.requires

pub returns-in-Head : goal.returns-in-Head
returns-in-Head c = body-unread _

pub returns-in-Shipper : goal.returns-in-Shipper
returns-in-Shipper c =
    rw c.in-Shipper.is
    (body-read Shipper c.read_shipper.ensures (rw c.in-Shipper.is at c.requires))

pub returns-in-Point : goal.returns-in-Point
returns-in-Point c =
    rw c.in-Point.is
    (body-read Point c.read_point.ensures (rw c.in-Point.is at c.requires))

pub returns-in-Entry : goal.returns-in-Entry
returns-in-Entry c =
    rw c.in-Entry.is
    (body-read Entry c.read_entry.ensures (rw c.in-Entry.is at c.requires))

pub returns-in-Meter : goal.returns-in-Meter
returns-in-Meter c =
    rw c.in-Meter.is
    (body-read Meter c.read_meter.ensures (rw c.in-Meter.is at c.requires))

pub returns-in-Excused : goal.returns-in-Excused
returns-in-Excused c =
    rw c.in-Excused.is
    (body-read Excused c.read_excused.ensures (rw c.in-Excused.is at c.requires))
