-- What it costs to write items: the fewest codewords for all that follows, for each state of writing; and the plan
-- that attains these costs. A run is said to be in a state where some values of its next pair or group stand already.
-- Their codewords count as paid.
use Rattle.std.specs.Prelude.{◌≡◌, ℕ, zero, suc, ◌+◌, ◌-◌, ◌*◌, ◌/◌, ◌%◌, ◌≤◌, List, [], ◌∷◌, Bool, false, nat_le}
use Rattle.std.specs.Prelude.{nat_lt, ◌==◌, ◌⊎◌}
use Rattle.std.specs.Prelude.{◌&&◌, ◌||◌, if◌then◌else◌, length, drop, get_or}
use Prim.Native.Nat.{min}
use Rattle.dm_words.specs.declared.extent.Extent.{Extent}
use Rattle.dm_words.specs.declared.extent.Extent.TheVariants.{Wide}
use Rattle.dm_words.specs.declared.item.Item.{Item}
use Rattle.dm_words.specs.declared.item.Item.TheVariants.{Byte, Fnc1}
use Rattle.dm_words.specs.declared.c40.set.CodeSet.{CodeSet}
use Rattle.dm_words.specs.declared.c40.set.CodeSet.TheVariants.{C40, Text, X12}
use Rattle.dm_words.specs.declared.smallest.plan.StepBits.{StepBits}
use Rattle.dm_words.specs.declared.smallest.setting.Setting.{Setting}
use Rattle.dm_words.specs.declared.smallest.plan.Begin.{Begin}
use Rattle.dm_words.specs.declared.smallest.plan.Begin.TheVariants.{One, Two, Run, Edifact, Segment, Rest}
use Rattle.dm_words.specs.Ascii.{is_digit}

-- In a run of C40, Text or X12 it costs this much where no, one or two values of a pair stand already and are paid.
pub record Pairs : Type 0 where
  pub none : ℕ
  pub one : ℕ
  pub two : ℕ

-- In a run of EDIFACT it costs this much where no, one, two or three values of a group stand already and are paid.
pub record Groups : Type 0 where
  pub none : ℕ
  pub one : ℕ
  pub two : ℕ
  pub three : ℕ

-- In a segment of Base 256 it costs this much where the length is written out, with at least so many bytes, and this
-- much up to the end of the symbol.
pub record Bytes : Type 0 where
  pub bytes : ℕ
  pub near : ℕ
  pub rest : ℕ

-- Runs and segments that go on over an item cost this much.
pub record Going : Type 0 where
  pub c40 : Pairs
  pub text : Pairs
  pub x12 : Pairs
  pub edifact : Groups
  pub segment : Bytes

-- From an item on it costs this much: in ASCII, in ASCII from the next item on, in runs and in segments.
pub record Row : Type 0 where
  pub ascii : ℕ
  pub second : ℕ
  pub c40 : Pairs
  pub text : Pairs
  pub x12 : Pairs
  pub edifact : Groups
  pub segment : Bytes

-- More than any cost. What can't be written costs this much, or more.
abbrev pub never : ℕ
never = 16384

-- ---- values of a run

-- The contents that are one value of a set are the 26 from this one on.
abbrev pub first_content : CodeSet → ℕ
first_content C40 = 65
first_content Text = 97
first_content X12 = 65

-- Three other bytes are one value of X12: CR, * and >.
abbrev pub is_sign : CodeSet → ℕ → Bool
is_sign C40 byte = false
is_sign Text byte = false
is_sign X12 byte = byte == 13 || byte == 42 || byte == 62

-- A byte is one value of a set: a space, a digit, a content of the basic case, or in X12 one of three others.
abbrev pub is_basic : CodeSet → ℕ → Bool
is_basic C40 byte = byte == 32 || is_digit byte || (nat_le 65 byte && nat_le byte 90)
is_basic Text byte = byte == 32 || is_digit byte || (nat_le 97 byte && nat_le byte 122)
is_basic X12 byte = byte == 32 || is_digit byte || (nat_le 65 byte && nat_le byte 90) || is_sign X12 byte

-- An item is one value of a set.
abbrev pub is_one_value : CodeSet → Item → Bool
is_one_value set (Byte byte) = is_basic set byte
is_one_value set Fnc1 = false

-- A byte below 128 has this many values in a set that has shifts.
abbrev pub low_values : CodeSet → ℕ → ℕ
low_values set byte = if is_basic set byte then 1 else 2

-- An item has this many values in a set that has shifts.
abbrev pub shift_values : CodeSet → Item → ℕ
shift_values set Fnc1 = 2
shift_values set (Byte byte) = if nat_lt byte 128 then low_values set byte else 2 + low_values set (byte - 128)

-- An item has this many values in a set, and none where X12 doesn't have it.
abbrev pub set_values : CodeSet → Item → ℕ
set_values C40 item = shift_values C40 item
set_values Text item = shift_values Text item
set_values X12 Fnc1 = 0
set_values X12 (Byte byte) = if is_basic X12 byte then 1 else 0

-- The costs before one more value, from those behind it: the first value of a pair pays both codewords.
abbrev pub value_before : Pairs → Pairs
value_before next = record { none = 2 + next.one; one = next.two; two = next.none }

-- Each of the costs is at most this.
abbrev pub ArePaid : ℕ → Pairs → Type 0
ArePaid most p = (p.none ≤ most) × (p.one ≤ most) × (p.two ≤ most)

-- The costs before some values more.
abbrev pub values_before : ℕ → Pairs → Pairs
values_before zero next = next
values_before (suc count) next = value_before (values_before count next)

-- What a run owes where some values stand: their codewords too.
unfoldable pub owed : ℕ → Pairs → ℕ
owed zero p = p.none
owed (suc zero) p = 2 + p.one
owed (suc (suc zero)) p = 2 + p.two
owed (suc (suc (suc r))) p = 2 + owed r p

-- No such run goes on.
abbrev pub no_pairs : Pairs
no_pairs = record { none = never; one = never; two = never }

-- The costs of a run that goes on over an item, from the number of its values.
abbrev pub stay : ℕ → Pairs → Pairs
stay count next = if count == 0 then no_pairs else values_before count next

-- A run ends before what costs this much: with an unlatch where that is more than `limit`.
abbrev pub leave : ℕ → ℕ → ℕ
leave limit cost = if nat_le cost limit then cost else 1 + cost

-- The costs of a run, from those where it goes on and the cost of what follows in ASCII. It ends between pairs alone.
abbrev pub or_leave : ℕ → Pairs → Pairs
or_leave cost going = record { none = min (leave 1 cost) going.none; one = going.one; two = going.two }

-- ---- EDIFACT

-- Each of the costs is at most this.
abbrev pub ArePaidGroups : ℕ → Groups → Type 0
ArePaidGroups most g = (g.none ≤ most) × (g.one ≤ most) × (g.two ≤ most) × (g.three ≤ most)

-- The costs before one more value of EDIFACT.
abbrev pub byte_before : Groups → Groups
byte_before next = record { none = 1 + next.one; one = 1 + next.two; two = 1 + next.three; three = next.none }

-- What a run of EDIFACT owes where some values stand: their codewords too.
unfoldable pub owed_group : ℕ → Groups → ℕ
owed_group zero g = g.none
owed_group (suc zero) g = 1 + g.one
owed_group (suc (suc zero)) g = 2 + g.two
owed_group (suc (suc (suc zero))) g = 3 + g.three
owed_group (suc (suc (suc (suc r)))) g = 3 + owed_group r g

-- No such run goes on.
abbrev pub no_groups : Groups
no_groups = record { none = never; one = never; two = never; three = never }

-- An item is a value of EDIFACT.
abbrev pub has_edifact : Extent → Item → Bool
has_edifact Wide (Byte byte) = nat_le 32 byte && nat_le byte 94
has_edifact _ _ = false

-- The costs of a run that goes on over an item.
abbrev pub stay_edifact : Bool → Groups → Groups
stay_edifact has next = if has then byte_before next else no_groups

-- The costs of a run, from those where it goes on and the cost of what follows in ASCII.
abbrev pub or_leave_edifact : ℕ → Groups → Groups
or_leave_edifact cost going = record {
  none = min (leave 2 cost) going.none;
  one = going.one;
  two = going.two;
  three = min cost going.three;
}

-- ---- the whole

-- An item has this many codewords by itself.
abbrev pub unit_cost : Item → ℕ
unit_cost Fnc1 = 1
unit_cost (Byte byte) = if nat_lt byte 128 then 1 else 2

-- An item is a digit.
abbrev pub is_digit_item : Item → Bool
is_digit_item Fnc1 = false
is_digit_item (Byte byte) = is_digit byte

-- The items begin with a digit.
abbrev pub digit_first : List Item → Bool
digit_first [] = false
digit_first (item ∷ rest) = is_digit_item item

-- A segment of Base 256 with its length field is paid so.
abbrev pub segment_cost : ℕ → ℕ → ℕ
segment_cost bytes near = if nat_le near 249 then 2 + bytes else 3 + bytes

-- A segment that takes the item.
abbrev pub segment_before : Item → Row → Bytes
segment_before Fnc1 next = record { bytes = never; near = 0; rest = never }
segment_before (Byte byte) next = record {
  bytes = 1 + min next.ascii next.segment.bytes;
  near = if nat_le next.ascii next.segment.bytes then 1 else 1 + next.segment.near;
  rest = 1 + next.segment.rest;
}

-- The costs where runs and segments go on over an item.
abbrev pub going_over : Extent → Item → Row → Going
going_over extent item next = record {
  c40 = stay (set_values C40 item) next.c40;
  text = stay (set_values Text item) next.text;
  x12 = stay (set_values X12 item) next.x12;
  edifact = stay_edifact (has_edifact extent item) next.edifact;
  segment = segment_before item next;
}

-- What is written so from an item on costs this much. Whether the item and the next one are digits is `pair`.
abbrev pub cost_of : Item → Bool → Row → Going → Begin → ℕ
cost_of item pair next going One = unit_cost item + next.ascii
cost_of item pair next going Two = if pair then 1 + next.second else never
cost_of item pair next going (Run C40) = 1 + going.c40.none
cost_of item pair next going (Run Text) = 1 + going.text.none
cost_of item pair next going (Run X12) = 1 + going.x12.none
cost_of item pair next going Edifact = 1 + going.edifact.none
cost_of item pair next going Segment = segment_cost going.segment.bytes going.segment.near
cost_of item pair next going Rest = 2 + going.segment.rest

-- The least of these costs.
abbrev pub least : Item → Bool → Row → Going → ℕ
least item pair next going =
    let cost = cost_of item pair next going in
    min (min (min (cost Two) (cost (Run X12))) (min (cost (Run C40)) (cost Segment)))
    (min (min (cost One) (cost Edifact)) (min (cost (Run Text)) (cost Rest)))

-- The costs, from the cost in ASCII and those where runs go on.
abbrev pub with_ascii : ℕ → ℕ → Going → Row
with_ascii cost second going = record {
  ascii = cost;
  second = second;
  c40 = or_leave cost going.c40;
  text = or_leave cost going.text;
  x12 = or_leave cost going.x12;
  edifact = or_leave_edifact cost going.edifact;
  segment = going.segment;
}

-- Items are written for an extent, and nothing follows them but the end of the symbol.
abbrev pub at_end : Extent → Setting
at_end extent = record { extent = extent; behind = 0 }

-- Items are written in the wide extent, and so many codewords in ASCII follow them.
abbrev pub before_words : ℕ → Setting
before_words behind = record { extent = Wide; behind = behind }

-- At most so many codewords are said to follow.
abbrev pub most_behind : ℕ
most_behind = 9400

-- A segment up to the end of the symbol goes on over no more items where nothing follows, and else there is none.
abbrev pub rest_behind : ℕ → ℕ
rest_behind behind = if behind == 0 then 0 else never

-- No run and no segment goes on behind the last item, where so many codewords follow in ASCII.
abbrev pub none_going : ℕ → Going
none_going behind =
    record {
      c40 = no_pairs;
      text = no_pairs;
      x12 = no_pairs;
      edifact = no_groups;
      segment =
          record { bytes = never; near = 0; rest = rest_behind behind };
    }

-- The costs behind the last item.
abbrev pub last_row : ℕ → Row
last_row behind = with_ascii behind never (none_going behind)

-- The costs from an item on; from whether it and the next are digits, and the costs from the next one on.
abbrev pub row_before : Extent → Item → Bool → Row → Row
row_before extent item pair next = let going =
    going_over extent item next in with_ascii (least item pair next going) next.ascii going

-- The costs of items, and of what follows them.
unfoldable pub row : Setting → List Item → Row
row setting [] = last_row setting.behind
row setting (item ∷ rest) =
    row_before setting.extent item (is_digit_item item && digit_first rest) (row setting rest)

-- The least number of codewords of parts that have these items, and of what follows.
abbrev pub parts_cost : Setting → List Item → ℕ
parts_cost setting items = (row setting items).ascii

-- ---- the plan

-- What to do at an item: what begins there, in ASCII, and which runs and segments that come so far end there.
pub record Step : Type 0 where
  pub begins : Begin
  pub c40_ends : Bool
  pub text_ends : Bool
  pub x12_ends : Bool
  pub edifact_ends : Bool
  pub group_ends : Bool
  pub segment_ends : Bool

-- Two items are two digits.
abbrev pub pair_first : List Item → Bool
pair_first [] = false
pair_first (item ∷ rest) = is_digit_item item && digit_first rest

-- Items begin in a way that costs no more than any other.
abbrev pub IsRightBegin : Setting → List Item → Begin → Type 0
IsRightBegin setting [] begin = Unit {0}
IsRightBegin setting (item ∷ rest) begin =
    let next = row setting rest in
    parts_cost setting (item ∷ rest)
    ≡ cost_of item (is_digit_item item && digit_first rest) next (going_over setting.extent item next) begin

-- A run goes on over the first item, or no further.
abbrev pub going_from : Setting → List Item → Going
going_from setting [] = none_going setting.behind
going_from setting (item ∷ rest) = going_over setting.extent item (row setting rest)

-- What to do at an item where this costs so much in ASCII: a run or a segment ends where going on costs no less.
abbrev pub step_of : ℕ → Begin → Going → Step
step_of cost begins going = record {
  begins = begins;
  c40_ends = nat_le (leave 1 cost) going.c40.none;
  text_ends = nat_le (leave 1 cost) going.text.none;
  x12_ends = nat_le (leave 1 cost) going.x12.none;
  edifact_ends = nat_le (leave 2 cost) going.edifact.none;
  group_ends = nat_le cost going.edifact.three;
  segment_ends = nat_le cost going.segment.bytes;
}

-- The ways to begin, in the order in which the first of those that are equally cheap is taken.
abbrev pub begin_at : ℕ → Begin
begin_at zero = Two
begin_at (suc zero) = One
begin_at (suc (suc zero)) = Run C40
begin_at (suc (suc (suc zero))) = Run Text
begin_at (suc (suc (suc (suc zero)))) = Run X12
begin_at (suc (suc (suc (suc (suc zero))))) = Edifact
begin_at (suc (suc (suc (suc (suc (suc zero)))))) = Segment
begin_at _ = Rest

-- A number has 1 as the bit of this weight, which is a power of 2.
abbrev pub has_bit : ℕ → ℕ → Bool
has_bit weight number = number / weight % 2 == 1

-- A step is kept so.
abbrev pub step_in : StepBits → Step
step_in bits = record {
  begins = begin_at bits.begins;
  c40_ends = has_bit 1 bits.first;
  text_ends = has_bit 8 bits.first;
  x12_ends = has_bit 1 bits.second;
  edifact_ends = has_bit 8 bits.second;
  group_ends = has_bit 64 bits.second;
  segment_ends = has_bit 64 bits.first;
}

-- The plan says what is right at these items. Of equally cheap ways it takes two digits together, or else the item by
-- itself, before any run or segment.
pub record IsRightStep (setting : Setting) (items : List Item) (step : Step) : Type 0 where
  pub begins : IsRightBegin setting items step.begins
  pub pair : IsRightBegin setting items Two → step.begins ≡ Two
  pub one : IsRightBegin setting items One → (step.begins ≡ One) ⊎ (step.begins ≡ Two)
  pub ends : step ≡ step_of (parts_cost setting items) step.begins (going_from setting items)

-- The plan says what is right at each item, and behind the last one.
abbrev pub IsRightPlan : Setting → List Item → List StepBits → Type 0
IsRightPlan setting items plan = (i : ℕ) (other : StepBits) → i ≤ length items
    → IsRightStep setting (drop i items) (step_in (get_or plan i other))

-- Where runs go on, no cost is too great.
pub record AreSmall (going : Going) : Type 0 where
  pub c40 : ArePaid 30000 going.c40
  pub text : ArePaid 30000 going.text
  pub x12 : ArePaid 30000 going.x12
  pub edifact : ArePaidGroups 30000 going.edifact
  pub bytes : going.segment.bytes ≤ 17000
  pub rest : going.segment.rest ≤ 30000

-- No cost of a row is too great: over an item, what can't be grows by at most four values.
pub record IsWithin (most : ℕ) (r : Row) : Type 0 where
  pub ascii : r.ascii ≤ most_behind + 2 * most
  pub second : r.second ≤ never
  pub c40 : ArePaid (never + 4 * most) r.c40
  pub text : ArePaid (never + 4 * most) r.text
  pub x12 : ArePaid (never + 4 * most) r.x12
  pub edifact : ArePaidGroups (never + 4 * most) r.edifact
  pub bytes : r.segment.bytes ≤ never
  pub near : r.segment.near ≤ most
  pub rest : r.segment.rest ≤ never + 4 * most

-- A run of a set goes on so.
abbrev pub going_pairs : CodeSet → Going → Pairs
going_pairs C40 going = going.c40
going_pairs Text going = going.text
going_pairs X12 going = going.x12

-- The costs of a run of a set.
abbrev pub row_pairs : CodeSet → Row → Pairs
row_pairs C40 r = r.c40
row_pairs Text r = r.text
row_pairs X12 r = r.x12
