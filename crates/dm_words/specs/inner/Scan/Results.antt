-- What the private functions that look at the beginning of a list give.
use Rattle.std.specs.Prelude.{◌≡◌, ℕ, ◌+◌, ◌*◌, ◌<◌, ◌≤◌, length, drop, List, [], ◌∷◌, ◌++◌, Option, Some, None, Result}
use Rattle.std.specs.Prelude.{Ok, Err, Bool, true, false}
use Rattle.dm_words.specs.declared.extent.Extent.{Extent}
use Rattle.dm_words.specs.declared.item.Item.{Item}
use Rattle.dm_words.specs.declared.item.Item.TheVariants.{Byte, Fnc1}
use Rattle.dm_words.specs.declared.fault.WordFault.{WordFault}
use Rattle.dm_words.specs.declared.ascii.Unit.{Unit}
use Rattle.dm_words.specs.declared.ascii.Unit.TheVariants as unit
use Rattle.dm_words.specs.declared.c40.pair.Pair.{Pair}
use Rattle.dm_words.specs.declared.c40.pair.Pair.TheVariants as pair
use Rattle.dm_words.specs.declared.c40.pair.PairsEnd.{PairsEnd}
use Rattle.dm_words.specs.declared.c40.value.Spelling.{Spelling}
use Rattle.dm_words.specs.declared.c40.value.Spelling.TheVariants as item
use Rattle.dm_words.specs.declared.c40.value.Rest.{Rest}
use Rattle.dm_words.specs.Ascii.{single, ascii}
use Rattle.dm_words.specs.Codewords.{fnc1_word, upper_shift}
use Rattle.dm_words.specs.NormalForm.{has_fnc1}
use Rattle.dm_words.specs.inner.Scan.Walk.{Step, Takes, Stops}
use Rattle.dm_words.specs.inner.Scan.Prefixes.{first_part, group_by, edifact_items}

-- Behind so many items, a list with so much room has room for what the codewords from an index on spell: two items for
-- each of them.
abbrev pub HasRoomAt : ℕ → List ℕ → ℕ → ℕ → Type 0
HasRoomAt room words at held = held + 2 * length words ≤ room + 2 * at

-- A part with the given number of words was taken, and its items stand behind the old ones; or the end was met; or a
-- fault.
abbrev pub IsPartTakenOrEnd : Result (Option ℕ) WordFault → List Item → List Item
    → Step (List Item) (Option WordFault) → Type 0
IsPartTakenOrEnd (Ok None) old new step = (step ≡ Stops None) × (new ≡ old)
IsPartTakenOrEnd (Ok (Some n)) old new step = (items : List Item) × (step ≡ Takes n items) × (new ≡ old ++ items)
IsPartTakenOrEnd (Err f) old new step = step ≡ Stops (Some f)

-- Either the codeword is by itself a part, wherever it stands, which was taken, and its items stand behind the old
-- ones; or nothing was taken.
abbrev pub IsOneWordTaken : Bool → List Item → List Item → ℕ → Type 0
IsOneWordTaken true old new word = (extent : Extent) (place : ℕ) (more : List ℕ)
    → IsPartTakenOrEnd (Ok (Some 1)) old new (first_part extent place (word ∷ more))
IsOneWordTaken false old new word = new ≡ old

-- A part with the given number of words was taken, and its items stand behind the old ones; or a fault was met.
abbrev pub IsPartTaken : Result ℕ WordFault → List Item → List Item → Step (List Item) (Option WordFault) → Type 0
IsPartTaken (Ok n) old new step = (items : List Item) × (step ≡ Takes n items) × (new ≡ old ++ items)
IsPartTaken (Err f) old new step = step ≡ Stops (Some f)

-- The characters of a group of four values were added up to its unlatch, which ends the run behind this many codewords
-- of the group; or all of them
-- were, and there is no unlatch.
abbrev pub IsGroupTaken : Option ℕ → List Item → List Item → List ℕ → Type 0
IsGroupTaken (Some n) old new group =
    (values : List ℕ) × ((rest : ℕ × List ℕ) → group_by group rest ≡ (n, values)) × (new ≡ old
    ++ edifact_items values) × (n ≤ 3)
IsGroupTaken None old new group =
    ((rest : ℕ × List ℕ) → group_by group rest ≡ (3 + rest.0, group ++ rest.1)) × (new ≡ old ++ edifact_items group)

-- The run, which has this many codewords with its latch, was taken, and its items stand behind the old ones.
abbrev pub IsEdifactTaken : ℕ → List Item → List Item → ℕ × List ℕ → Type 0
IsEdifactTaken n old new run = (n ≡ 1 + run.0) × (new ≡ old ++ edifact_items run.1)

-- The list is empty, or begins with the number, and this is what follows it.
abbrev pub Begins : Option ℕ → List ℕ → List ℕ → Type 0
Begins None list more = list ≡ []
Begins (Some n) list more = list ≡ n ∷ more

-- The pair is the first.
abbrev pub GivesPair : Pair → Step (List ℕ) PairsEnd → Type 0
GivesPair (pair.Values first second third) step =
    (step ≡ Takes 2 (first ∷ second ∷ third ∷ [])) × (first < 40) × (second < 40) × (third < 40)
GivesPair (pair.Stops end) step = step ≡ Stops end

-- The spelling is the first.
abbrev pub GivesItem : Spelling → Step Item Rest → Type 0
GivesItem (item.Takes n i) step = step ≡ Takes n i
GivesItem (item.Stops rest) step = step ≡ Stops rest

-- The unit is that of a byte alone.
abbrev pub IsSingle : Unit → ℕ → Type 0
IsSingle (unit.One w) b = single b ≡ w ∷ []
IsSingle (unit.Digits w) b = ⊥
IsSingle (unit.Raised w) b = single b ≡ upper_shift ∷ w ∷ []
IsSingle unit.Fnc1 b = ⊥

-- The codewords of a unit.
abbrev pub unit_words : Unit → List ℕ
unit_words (unit.One w) = w ∷ []
unit_words (unit.Digits w) = w ∷ []
unit_words (unit.Raised w) = upper_shift ∷ w ∷ []
unit_words unit.Fnc1 = fnc1_word ∷ []

-- An item has these codewords by itself.
abbrev pub item_words : Item → List ℕ
item_words (Byte byte) = single byte
item_words Fnc1 = fnc1_word ∷ []

-- How many items a unit has.
abbrev pub unit_items : Unit → ℕ
unit_items (unit.One w) = 1
unit_items (unit.Digits w) = 2
unit_items (unit.Raised w) = 1
unit_items unit.Fnc1 = 1

-- A unit is FNC1.
abbrev pub unit_is_fnc1 : Unit → Bool
unit_is_fnc1 unit.Fnc1 = true
unit_is_fnc1 _ = false

-- The ASCII codewords of the items from an index on begin with the unit, and FNC1 is among these items where it is the
-- unit or stands
-- behind it.
abbrev pub BeginsAscii : Unit → List Item → ℕ → Type 0
BeginsAscii (unit.One w) items at =
    (ascii (drop at items) ≡ w ∷ ascii (drop (at + 1) items)) × (has_fnc1 (drop at items)
    ≡ has_fnc1 (drop (at + 1) items))
BeginsAscii (unit.Digits w) items at =
    (ascii (drop at items) ≡ w ∷ ascii (drop (at + 2) items)) × (has_fnc1 (drop at items)
    ≡ has_fnc1 (drop (at + 2) items)) × (at + 2 ≤ length items)
BeginsAscii (unit.Raised w) items at =
    (ascii (drop at items) ≡ upper_shift ∷ w ∷ ascii (drop (at + 1) items)) × (has_fnc1 (drop at items)
    ≡ has_fnc1 (drop (at + 1) items))
BeginsAscii unit.Fnc1 items at =
    (ascii (drop at items) ≡ fnc1_word ∷ ascii (drop (at + 1) items)) × (has_fnc1 (drop at items) ≡ true)
