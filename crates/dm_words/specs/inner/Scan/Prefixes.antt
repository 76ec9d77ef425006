-- What is a prefix of a list: a part of the words, a pair, an item among the values of a run.
use Rattle.std.specs.Prelude.{ℕ, ◌+◌, ◌-◌, ◌*◌, ◌/◌, ◌%◌, ◌<◌, List, [], ◌∷◌, length, take, map, Option}
use Rattle.std.specs.Prelude.{Some, None, Bool, true, false, nat_lt, ◌==◌, if◌then◌else◌}
use Rattle.std.specs.List.{AllByRecursion}
use Rattle.dm_words.specs.declared.extent.Extent.{Extent}
use Rattle.dm_words.specs.declared.extent.Extent.TheVariants.{Usual, Wide}
use Rattle.dm_words.specs.declared.item.Item.{Item}
use Rattle.dm_words.specs.declared.item.Item.TheVariants.{Byte, Fnc1}
use Rattle.dm_words.specs.declared.fault.WordFault.{WordFault}
use Rattle.dm_words.specs.declared.fault.WordFault.TheVariants as fault
use Rattle.dm_words.specs.declared.codeword.Codeword.{Codeword}
use Rattle.dm_words.specs.declared.codeword.Codeword.TheVariants as codeword
use Rattle.dm_words.specs.declared.c40.set.CodeSet.{CodeSet}
use Rattle.dm_words.specs.declared.c40.set.Basic.{Basic}
use Rattle.dm_words.specs.declared.c40.set.Basic.TheVariants as basic
use Rattle.dm_words.specs.declared.c40.set.Shifted.{Shifted}
use Rattle.dm_words.specs.declared.c40.set.Shifted.TheVariants as shifted
use Rattle.dm_words.specs.declared.c40.pair.PairsEnd.{PairsEnd}
use Rattle.dm_words.specs.declared.c40.pair.PairsEnd.TheVariants as stop
use Rattle.dm_words.specs.declared.c40.value.Rest.{Rest}
use Rattle.dm_words.specs.declared.c40.value.Rest.TheVariants as rest
use Rattle.dm_words.specs.Codewords.{codeword_of}
use Rattle.dm_words.specs.CodeSets.{basic_of, shifted_of}
use Rattle.dm_words.specs.RunFaults.{pair_place}
use Rattle.dm_words.specs.inner.Scan.Walk.{Step, Takes, Stops, Walked, walk_all, flat}

-- ---- the values of a run, each below 40

-- The items of bytes are these bytes, in order.
abbrev pub byte_items : List ℕ → List Item
byte_items bytes = map Byte bytes

-- Behind an Upper Shift and a shift, the meaning of the next value decides which item is taken.
abbrev pub raised_shifted : Option Shifted → Step Item Rest
raised_shifted (Some (shifted.Character byte)) = Takes 4 (Byte (byte + 128))
raised_shifted (Some shifted.Fnc1) = Stops rest.WrongUpperShift
raised_shifted (Some shifted.UpperShift) = Stops rest.WrongUpperShift
raised_shifted None = Stops (rest.Meaningless 3)

-- Behind an Upper Shift, the meaning of the next value decides which item is taken.
abbrev pub raised_by : CodeSet → List ℕ → Option Basic → Step Item Rest
raised_by set more None = Stops rest.Waiting
raised_by set more (Some (basic.Character byte)) = Takes 3 (Byte (byte + 128))
raised_by set [] (Some (basic.Shift shift)) = Stops rest.Waiting
raised_by set (next ∷ more) (Some (basic.Shift shift)) = raised_shifted (shifted_of set shift next)

-- Behind an Upper Shift, this item is taken.
abbrev pub first_raised : CodeSet → List ℕ → Step Item Rest
first_raised set [] = Stops rest.Waiting
first_raised set (value ∷ more) = raised_by set more (basic_of set value)

-- Behind a shift, the meaning of the next value decides which item is taken.
abbrev pub shifted_by : CodeSet → List ℕ → Option Shifted → Step Item Rest
shifted_by set more (Some (shifted.Character byte)) = Takes 2 (Byte byte)
shifted_by set more (Some shifted.Fnc1) = Takes 2 Fnc1
shifted_by set more (Some shifted.UpperShift) = first_raised set more
shifted_by set more None = Stops (rest.Meaningless 1)

-- The meaning of the first value decides which item is taken.
abbrev pub spelling_by : CodeSet → List ℕ → Option Basic → Step Item Rest
spelling_by set more None = Stops rest.Complete
spelling_by set more (Some (basic.Character byte)) = Takes 1 (Byte byte)
spelling_by set [] (Some (basic.Shift shift)) = Stops rest.Complete
spelling_by set (next ∷ more) (Some (basic.Shift shift)) = shifted_by set more (shifted_of set shift next)

-- The values begin with the spelling of an item, or the rest that is left.
abbrev pub first_spelling : CodeSet → ℕ → List ℕ → Step Item Rest
first_spelling set place [] = Stops rest.Complete
first_spelling set place (value ∷ more) = spelling_by set more (basic_of set value)

-- ---- the pairs of a run

-- A pair with this number has these three values.
abbrev pub values_of : ℕ → List ℕ
values_of number = ((number - 1) / 1600) ∷ ((number - 1) / 40 % 40) ∷ ((number - 1) % 40) ∷ []

-- A number is that of a pair, unless it is 0 or more than 64000.
abbrev pub pair_by : ℕ → Step (List ℕ) PairsEnd
pair_by number = if number ==
    0 then Stops stop.BadPair else if nat_lt 64000 number then Stops stop.BadPair else Takes 2 (values_of number)

-- The words begin with a pair, or the pairs end there.
abbrev pub first_pair : ℕ → List ℕ → Step (List ℕ) PairsEnd
first_pair place [] = Stops stop.SymbolEnd
first_pair place (high ∷ []) = if high == 254 then Stops stop.Unlatch else Stops stop.SymbolEnd
first_pair place (high ∷ low ∷ more) = if high == 254 then Stops stop.Unlatch else pair_by (256 * high + low)

-- ---- the run

-- The end of a run has this many words.
abbrev pub end_length : PairsEnd → ℕ
end_length stop.Unlatch = 1
end_length _ = 0

-- An Upper Shift that waits where the run ends is a fault in the usual extent, which names this place.
abbrev pub waiting_fault : Extent → ℕ → Option WordFault
waiting_fault Usual place = Some (fault.Unfinished place)
waiting_fault Wide place = None

-- A run has this fault, or none: its latch stands at `place`, its pairs have `words` words and then end in this way,
-- and its whole spellings have
-- `values` values, with this rest behind them.
abbrev pub run_fault : Extent → ℕ → ℕ → PairsEnd → ℕ → Rest → Option WordFault
run_fault extent place words end values (rest.Meaningless index) =
    Some (fault.Value (pair_place place (values + index)))
run_fault extent place words end values rest.WrongUpperShift = Some (fault.UpperShift (pair_place place (values + 1)))
run_fault extent place words stop.BadPair values rest.Waiting = Some (fault.Triplet (place + 1 + words))
run_fault extent place words stop.BadPair values rest.Complete = Some (fault.Triplet (place + 1 + words))
run_fault extent place words stop.SymbolEnd values rest.Waiting = waiting_fault extent (pair_place place (values + 1))
run_fault extent place words stop.Unlatch values rest.Waiting = waiting_fault extent (pair_place place (values + 1))
run_fault extent place words stop.SymbolEnd values rest.Complete = None
run_fault extent place words stop.Unlatch values rest.Complete = None

-- The run is taken, unless it has a fault.
abbrev pub run_unless : Option WordFault → ℕ → List Item → Step (List Item) (Option WordFault)
run_unless None count items = Takes count items
run_unless (Some why) count items = Stops (Some why)

-- The run behind a latch is known from its pairs and its items.
abbrev pub run_by : Extent → ℕ → ℕ → PairsEnd → Walked Item Rest → Step (List Item) (Option WordFault)
run_by extent place words end items =
    run_unless (run_fault extent place words end items.place items.why) (1 + words + end_length end) items.taken

-- These pairs stand in the words from an index on.
abbrev pub pairs_from : ℕ → List ℕ → Walked (List ℕ) PairsEnd
pairs_from at words = walk_all first_pair stop.SymbolEnd at words

-- These items stand in the values from an index on.
abbrev pub items_from : CodeSet → ℕ → List ℕ → Walked Item Rest
items_from set at values = walk_all (first_spelling set) rest.Complete at values

-- These pairs stand first in the words.
abbrev pub pairs_in : List ℕ → Walked (List ℕ) PairsEnd
pairs_in words = pairs_from 0 words

-- These items stand first in the values.
abbrev pub items_in : CodeSet → List ℕ → Walked Item Rest
items_in set values = items_from set 0 values

-- This run stands behind a latch at a place.
unfoldable pub run_behind : Extent → CodeSet → ℕ → List ℕ → Step (List Item) (Option WordFault)
run_behind extent set place words = let pairs =
    pairs_in words in run_by extent place pairs.place pairs.why (items_in set (flat pairs.taken))

-- ---- segments of Base 256

-- A place of the symbol has this pseudo-random number.
abbrev pub random_at : ℕ → ℕ
random_at place = (149 * place) % 255 + 1

-- A value of EDIFACT that isn't the unlatch stands for this byte.
abbrev pub edifact_byte : ℕ → ℕ
edifact_byte value = if nat_lt value 31 then value + 64 else value

-- Each number is 0 to 255.
abbrev pub AreBytes : List ℕ → Type 0
AreBytes numbers = AllByRecursion (λ number. number < 256) numbers

-- A length field of two numbers says that there are this many bytes.
abbrev pub long_count : ℕ → ℕ → ℕ
long_count first second = 250 * (first - 249) + second

-- A codeword at a place stands for this value.
abbrev pub plain_at : ℕ → ℕ → ℕ
plain_at place word = (word + 256 - random_at place) % 256

-- Codewords that begin at a place stand for these values.
abbrev pub plain : ℕ → List ℕ → List ℕ
plain place [] = []
plain place (word ∷ words) = plain_at place word ∷ plain (place + 1) words

-- A segment whose length field has `field` words and says that there are `count` bytes is taken, unless fewer values
-- are left.
abbrev pub segment_by : ℕ → ℕ → ℕ → List ℕ → Step (List Item) (Option WordFault)
segment_by place field count values =
    if nat_lt (length values) count then Stops (Some (fault.Length place)) else Takes (1 + field + count)
    (byte_items (take count values))

-- Behind a first length number of 250 or more, the second one decides which segment is taken.
abbrev pub long_segment : ℕ → ℕ → List ℕ → Step (List Item) (Option WordFault)
long_segment place first [] = Stops (Some (fault.Length place))
long_segment place first (second ∷ values) =
    if nat_lt 249 second then Stops (Some (fault.Length place)) else segment_by place 2
    (long_count first second) values

-- The values of all words behind a latch at a place decide which segment is taken.
unfoldable pub segment_behind : ℕ → List ℕ → Step (List Item) (Option WordFault)
segment_behind place [] = Stops (Some (fault.Length place))
segment_behind place (first ∷ values) =
    if first == 0 then Takes (2 + length values) (byte_items values) else
    if nat_lt 249 first then long_segment place first values else
    segment_by place 1 first values

-- ---- runs of EDIFACT

-- Three codewords have these four values.
abbrev pub group_values : ℕ → ℕ → ℕ → List ℕ
group_values high middle low =
    (high / 4) ∷ (high % 4 * 16 + middle / 16) ∷ (middle % 16 * 4 + low / 64) ∷ (low % 64) ∷ []

-- A run has this many codewords behind its latch, and these values before its unlatch. It begins with a group of these
-- values, and where none of them
-- is the unlatch, it goes on as `rest`.
abbrev pub group_by : List ℕ → ℕ × List ℕ → ℕ × List ℕ
group_by (first ∷ second ∷ third ∷ fourth ∷ []) rest =
    if first == 31 then (1, []) else
    if second == 31 then (2, first ∷ []) else
    if third == 31 then (3, first ∷ second ∷ []) else
    if fourth == 31 then (3, first ∷ second ∷ third ∷ []) else
    (3 + rest.0, first ∷ second ∷ third ∷ fourth ∷ rest.1)
group_by _ rest = rest

-- This run is a prefix of the codewords behind a latch.
unfoldable pub edifact_run : List ℕ → ℕ × List ℕ
edifact_run (high ∷ middle ∷ low ∷ more) = group_by (group_values high middle low) (edifact_run more)
edifact_run _ = (0, [])

-- The values of a run of EDIFACT stand for these items.
abbrev pub edifact_items : List ℕ → List Item
edifact_items values = byte_items (map edifact_byte values)

-- Behind the latch of EDIFACT, which is this codeword, a run is taken in the wide extent.
abbrev pub edifact_by : Extent → ℕ → ℕ → List ℕ → Step (List Item) (Option WordFault)
edifact_by Usual place word more = Stops (Some (fault.LeftOut word place))
edifact_by Wide place word more = Takes (1 + (edifact_run more).0) (edifact_items (edifact_run more).1)

-- ---- all parts

-- Behind an Upper Shift, the meaning of the next codeword decides which unit is taken.
abbrev pub raised_unit_by : ℕ → Option Codeword → Step (List Item) (Option WordFault)
raised_unit_by place (Some (codeword.Character byte)) = Takes 2 (Byte (byte + 128) ∷ [])
raised_unit_by place _ = Stops (Some (fault.UpperShift place))

-- Behind an Upper Shift at a place, the words decide which unit is taken.
abbrev pub raised_unit : ℕ → List ℕ → Step (List Item) (Option WordFault)
raised_unit place [] = Stops (Some (fault.Unfinished place))
raised_unit place (next ∷ more) = raised_unit_by place (codeword_of next)

-- The meaning of the first codeword decides which part is taken.
abbrev pub part_by : Extent → ℕ → ℕ → List ℕ → Option Codeword → Step (List Item) (Option WordFault)
part_by extent place word more (Some (codeword.Character byte)) = Takes 1 (Byte byte ∷ [])
part_by extent place word more (Some codeword.Pad) = Stops None
part_by extent place word more (Some (codeword.Digits number)) =
    Takes 1 (Byte (48 + number / 10) ∷ Byte (48 + number % 10) ∷ [])
part_by extent place word more (Some (codeword.Latch set)) = run_behind extent set place more
part_by extent place word more (Some codeword.Base256) = segment_behind place (plain (place + 1) more)
part_by extent place word more (Some codeword.Fnc1) = Takes 1 (Fnc1 ∷ [])
part_by extent place word more (Some codeword.UpperShift) = raised_unit place more
part_by extent place word more (Some codeword.Edifact) = edifact_by extent place word more
part_by extent place word more (Some (codeword.Macro digit)) = Stops (Some (fault.LeftOut word place))
part_by extent place word more (Some codeword.LeftOut) = Stops (Some (fault.LeftOut word place))
part_by extent place word more None = Stops (Some (fault.Reserved place))

-- A codeword with this meaning is by itself a character or a pair of digits.
abbrev pub is_one_word : Option Codeword → Bool
is_one_word (Some (codeword.Character byte)) = true
is_one_word (Some (codeword.Digits number)) = true
is_one_word _ = false

-- The words begin with a codeword that is by itself a character or a pair of digits.
abbrev pub begins_with_one_word : List ℕ → Bool
begins_with_one_word [] = false
begins_with_one_word (word ∷ more) = is_one_word (codeword_of word)

-- The words begin with a part, the end, or a fault.
abbrev pub first_part : Extent → ℕ → List ℕ → Step (List Item) (Option WordFault)
first_part extent place [] = Stops None
first_part extent place (word ∷ more) = part_by extent place word more (codeword_of word)

-- A codeword with this meaning is a macro of this digit, or none.
abbrev pub digit_by : Option Codeword → Option ℕ
digit_by (Some (codeword.Macro digit)) = Some digit
digit_by _ = None
