-- 01, "The day file": fields of a one-byte tag, a two-byte length, a body. A line for each tag in each table of the format's data.
use Rattle.std.specs.Prelude.{cond, List, [], ◌∷◌, ◌++◌, ℕ, ◌+◌, ◌-◌, ltb, length, get_or, take, drop, replicate}
use Rattle.columns.specs.Column.{listed}
use Rattle.units.specs.Bound.{most_gigajoules, most_hour, most_backhaul}
use Rattle.bigendian.specs.Number.{value, bytes}
use Rattle.bigendian.specs.Row.{size, encode}
use Rattle.dayformat.specs.declared.form.Tag.{Tag}
use Rattle.dayformat.specs.declared.form.Tag.TheVariants.{Head, Shipper, Point, Entry, Meter, Excused}
use Rattle.dayformat.specs.declared.form.Form.{Form}
use Rattle.dayformat.specs.declared.body.Column.{Column}
use Rattle.dayformat.specs.declared.body.Several.{Several}
use Rattle.dayformat.specs.declared.rules.Name.{Name}
use Rattle.dayformat.specs.declared.rules.Pair.{Pair}
use Rattle.dayformat.specs.declared.rules.Cap.{Cap}

-- ---- the kinds of number: how many bytes spell it, and its bounds
abbrev pub none : Column
none = record { width = 0; low = 0; high = 0 }

-- 0 receipt, 1 delivery
abbrev pub side : Column
side = record { width = 1; low = 0; high = 1 }

-- a shipper or a point
abbrev pub name : Column
name = record { width = 2; low = 1; high = 65_535 }

-- the day number and an excused quantity may be any u32
abbrev pub any_number : Column
any_number = record { width = 4; low = 0; high = 4_294_967_295 }

abbrev pub gigajoules : Column
gigajoules = record { width = 4; low = 0; high = most_gigajoules }

-- a metered hour, an hourly point capacity, a reserved entitlement
abbrev pub hour : Column
hour = record { width = 4; low = 0; high = most_hour }

-- backhaul metered over a day
abbrev pub backhaul : Column
backhaul = record { width = 4; low = 0; high = most_backhaul }

-- ---- a body is so many numbers of one kind, then so many of the next
infix 70 ◌of◌
abbrev pub ◌of◌ : ℕ → Column → Several
many of kind = record { many = many; kind = kind }

abbrev pub body : Tag → List Several
-- day, free flow capacity, compressor capacity
body Head = 1 of any_number ∷ 2 of gigajoules ∷ []
-- shipper, firm MDQ, auction MDQ, firm, auction and lower tier schedules
body Shipper = 1 of name ∷ 5 of gigajoules ∷ []
-- side, point, capacity
body Point = 1 of side ∷ 1 of name ∷ 1 of hour ∷ []
-- side, point, shipper, RE
body Entry = 1 of side ∷ 2 of name ∷ 1 of hour ∷ []
-- shipper, P, M, 11 delivered hours of yesterday, 24 delivered, 24 received, four schedules, backhaul metered receipt and delivery
body Meter = 1 of name ∷ 2 of gigajoules ∷ (11 + 24 + 24) of hour ∷ 4 of gigajoules ∷ 2 of backhaul ∷ []
-- shipper, what is excused of each of its meter's hours
body Excused = 1 of name ∷ (11 + 24 + 24) of any_number ∷ []

-- ---- the tag's byte, how many fields there may be, and how many of the first numbers are the key
abbrev pub tag_byte : Tag → ℕ
tag_byte Head = 1
tag_byte Shipper = 2
tag_byte Point = 3
tag_byte Entry = 4
tag_byte Meter = 5
tag_byte Excused = 9

abbrev pub most : Tag → ℕ
most Head = 1
most Shipper = 64
most Point = 32
most Entry = 512
most Meter = 64
most Excused = 64

abbrev pub key : Tag → ℕ
key Head = 0
key Shipper = 1
key Point = 2
key Entry = 3
key Meter = 1
key Excused = 1

-- ---- tags 4, 5 and 9 name only what is listed before: the place of a key in the row, and the tag of the rows that list it
infix 70 ◌is_a◌
abbrev pub ◌is_a◌ : ℕ → Tag → Name
place is_a tag = record { place = place; tag = tag }

abbrev pub names : Tag → List Name
names Head = []
names Shipper = []
names Point = []
names Entry = 0 is_a Point ∷ 2 is_a Shipper ∷ []
names Meter = 0 is_a Shipper ∷ []
names Excused = 0 is_a Meter ∷ []

-- ---- the firm and the auction MDQ: the place of an MDQ in the row, and that of its schedule
infix 70 ◌for◌
abbrev pub ◌for◌ : ℕ → ℕ → Pair
mdq for schedule = record { mdq = mdq; schedule = schedule }

abbrev pub mdqs : Tag → List Pair
mdqs Head = []
mdqs Shipper = 1 for 3 ∷ 2 for 4 ∷ []
mdqs Point = []
mdqs Entry = []
mdqs Meter = []
mdqs Excused = []

-- ---- C-14: no excused quantity is above its metered hour. So many numbers of a row, from a place on, are capped by as many, from
-- another place on, of the row that its first name names
abbrev pub no_cap : Cap
no_cap = record { many = 0; place = 0; under = 0 }

abbrev pub cap : Tag → Cap
cap Head = no_cap
cap Shipper = no_cap
cap Point = no_cap
cap Entry = no_cap
cap Meter = no_cap
cap Excused = record { many = 11 + 24 + 24; place = 1; under = 3 }

abbrev pub first_name : Tag → Name
first_name tag = get_or (names tag) 0 (0 is_a Head)

-- ---- the tables in file order; the head comes before them and has none
abbrev pub file_order : List Tag
file_order = Shipper ∷ Point ∷ Entry ∷ Meter ∷ Excused ∷ []

abbrev pub many_tables : ℕ
many_tables = length file_order

-- the tag of the table at a place, the head's past the last
abbrev pub tag_at : ℕ → Tag
tag_at place = get_or file_order place Head

-- the place of a tag's table
abbrev pub table_place : Tag → ℕ
table_place Head = 0
table_place Shipper = 0
table_place Point = 1
table_place Entry = 2
table_place Meter = 3
table_place Excused = 4

-- ---- what follows from a body
-- the kind of a number, counted from 0
unfoldable pub column_in : List Several → ℕ → Column
column_in [] place = none
column_in (several ∷ rest) place = cond (ltb place several.many) several.kind (column_in rest (place - several.many))

abbrev pub numbers_of : List Several → ℕ
numbers_of [] = 0
numbers_of (several ∷ rest) = several.many + numbers_of rest

-- the widths of its numbers
abbrev pub widths : Tag → List ℕ
widths tag = listed (numbers_of (body tag)) (λ place. (column_in (body tag) place).width)

-- a field's header: the tag's byte and two bytes of length
abbrev pub length_width : ℕ
length_width = 2

abbrev pub header : ℕ
header = 1 + length_width

-- how many bytes a field has, and the byte of it at which a number begins
abbrev pub field_size : Tag → ℕ
field_size tag = header + size (widths tag)

abbrev pub number_place : Tag → ℕ → ℕ
number_place tag place = header + size (take place (widths tag))

-- the number that stands at a place of the field with which a list of bytes begins
abbrev pub number_in : Tag → List ℕ → ℕ → ℕ
number_in tag bytes place = value (take (column_in (body tag) place).width (drop (number_place tag place) bytes))

abbrev pub form : Tag → Form
form tag =
    record {
      byte = tag_byte tag;
      columns = numbers_of (body tag);
      size = size (widths tag);
      most = most tag;
      key = key tag;
    }

-- a field of a row: the tag, the length, the body
abbrev pub field : Tag → List ℕ → List ℕ
field tag row = (form tag).byte ∷ bytes length_width (form tag).size ++ encode (widths tag) row

-- ---- a tag's data as an array of one length, filled up with what says nothing
abbrev pub filled_up : {X : Type 0} → ℕ → X → List X → List X
filled_up many nothing list = take many (list ++ replicate many nothing)
