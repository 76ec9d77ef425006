-- What the private functions give that write the codewords of a plan: values of runs, pairs and groups, length
-- fields, and parts.
use Rattle.std.specs.Prelude.{◌≡◌, ℕ, ◌+◌, ◌<◌, ◌≤◌, List, [], ◌∷◌, ◌++◌, length, Some, IsTrue, Bool, true, false, ◌≢◌}
use Rattle.std.specs.Prelude.{◌⊎◌, zero, suc, ◌/◌, ◌%◌}
use Rattle.dm_words.specs.declared.c40.set.CodeSet.{CodeSet}
use Rattle.dm_words.specs.declared.c40.set.CodeSet.TheVariants.{C40, Text, X12}
use Rattle.dm_words.specs.declared.c40.set.Basic.TheVariants as basic
use Rattle.dm_words.specs.declared.c40.set.Shifted.TheVariants as shifted
use Rattle.dm_words.specs.declared.smallest.values.Low.{Low}
use Rattle.dm_words.specs.declared.smallest.values.Low.TheVariants.{Plain, Shifted}
use Rattle.std.specs.List.{AllByRecursion}
use Rattle.dm_words.specs.Joined.{Piece, spelled, gathered, AreJoined}
use Rattle.dm_words.specs.Runs.{IsPair}
use Rattle.dm_words.specs.Edifact.{IsGroup}
use Rattle.dm_words.specs.Base256.{written, IsLengthField}
use Rattle.dm_words.specs.NormalForm.{length_numbers}
use Rattle.dm_words.specs.Plain.{IsPlainPart}
use Rattle.dm_words.specs.Parts.{IsPart}
use Rattle.dm_words.specs.declared.smallest.edifact.Group.{Group}
use Rattle.dm_words.specs.declared.smallest.edifact.Group.TheVariants as group
use Rattle.dm_words.specs.declared.extent.Extent.{Extent}
use Rattle.dm_words.specs.declared.item.Item.{Item}
use Rattle.dm_words.specs.inner.Costs.{Step}
use Rattle.dm_words.specs.CodeSets.{basic_of, shifted_of}
use Rattle.dm_words.specs.Values.{IsCharacter, IsSpelling}
use Rattle.dm_words.specs.inner.Costs.{is_basic}

-- A set has shifts.
abbrev pub HasShifts : CodeSet → Type 0
HasShifts C40 = Unit {0}
HasShifts Text = Unit {0}
HasShifts X12 = ⊥

-- A byte below 128 can be written in a set.
abbrev pub IsHeldBy : CodeSet → ℕ → Type 0
IsHeldBy C40 byte = Unit {0}
IsHeldBy Text byte = Unit {0}
IsHeldBy X12 byte = IsTrue (is_basic X12 byte)

-- A byte is written so in a set.
abbrev pub IsLow : CodeSet → ℕ → Low → Type 0
IsLow set byte (Plain value) = basic_of set value ≡ Some (basic.Character byte)
IsLow set byte (Shifted shift value) = (shifted_of set shift value ≡ Some (shifted.Character byte)) × HasShifts set

-- The values of a byte stand behind the old ones.
abbrev pub IsCharacterPushed : CodeSet → ℕ → List ℕ → List ℕ → Type 0
IsCharacterPushed set byte old new = (values : List ℕ) × (new ≡ old ++ values) × IsCharacter set values byte

-- ---- a run

-- Of the three values of a pair of codewords none, one or two stand already.
pub data Waiting : Type 0 where
  Empty : Waiting
  One : ℕ → Waiting
  Two : ℕ → ℕ → Waiting

-- They are these, in their order.
abbrev pub part_values : Waiting → List ℕ
part_values Empty = []
part_values (One first) = first ∷ []
part_values (Two first second) = first ∷ second ∷ []

-- So many values stand, none, one or two, which make this number: a value, or 40 times the first and the second.
abbrev pub waiting_in : ℕ → ℕ → Waiting
waiting_in zero number = Empty
waiting_in (suc zero) number = One number
waiting_in (suc (suc others)) number = Two (number / 40) (number % 40)

-- Each value that stands is below 40.
abbrev pub IsSmallPart : Waiting → Type 0
IsSmallPart Empty = Unit {0}
IsSmallPart (One first) = first < 40
IsSmallPart (Two first second) = (first < 40) × (second < 40)

-- A value stands behind the others, or is the third, and the codewords of the pair are written.
abbrev pub IsValuePushed : Waiting → List ℕ → ℕ → Waiting → List ℕ → Type 0
IsValuePushed Empty old value part new = (part ≡ One value) × (new ≡ old)
IsValuePushed (One first) old value part new = (part ≡ Two first value) × (new ≡ old)
IsValuePushed (Two first second) old value part new =
    (part ≡ Empty) × ((pair : List ℕ) × IsPair pair (first ∷ second ∷ value ∷ []) × (new ≡ old ++ pair))

-- Behind values that stood already, values were pushed: each three were written as a pair, and the others stand now.
pub record ArePushed (old waiting values new : List ℕ) (part : Waiting) : Type 0 where
  pub pairs : List (Piece (List ℕ))
  pub each : AllByRecursion (λ piece. IsPair piece.words piece.what) pairs
  pub values_are : waiting ++ values ≡ gathered pairs ++ part_values part
  pub words_are : new ≡ old ++ spelled pairs
  pub small : IsSmallPart part

-- The values of an item were pushed.
abbrev pub IsItemPushed : CodeSet → Item → Waiting → List ℕ → List ℕ → Waiting → Type 0
IsItemPushed set item part old new part_then =
    (values : List ℕ) × IsSpelling set values item × ArePushed old (part_values part) values new part_then

-- No value stands.
abbrev pub is_empty : Waiting → Bool
is_empty Empty = true
is_empty (One first) = false
is_empty (Two first second) = false

-- A run of a set ends at a step if no value stands.
abbrev pub run_ends : CodeSet → Step → Bool
run_ends C40 step = step.c40_ends
run_ends Text step = step.text_ends
run_ends X12 step = step.x12_ends

-- ---- a run of EDIFACT

-- Of a group these values stand already.
abbrev pub waiting_values : Group → List ℕ
waiting_values group.Empty = []
waiting_values (group.One first) = first ∷ []
waiting_values (group.Two first second) = first ∷ second ∷ []
waiting_values (group.Three first second third) = first ∷ second ∷ third ∷ []

-- Each value that stands is below 64.
abbrev pub IsSmallGroup : Group → Type 0
IsSmallGroup g = AllByRecursion (λ value. value < 64) (waiting_values g)

-- One more value makes a whole group of three codewords, or none.
abbrev pub whole_words : Group → ℕ
whole_words group.Empty = 0
whole_words (group.One first) = 0
whole_words (group.Two first second) = 0
whole_words (group.Three first second third) = 3

-- A value stands behind the others, or the codewords of their group are written.
abbrev pub IsGroupPushed : Group → List ℕ → ℕ → Group → List ℕ → Type 0
IsGroupPushed group.Empty old value g new = (g ≡ group.One value) × (new ≡ old)
IsGroupPushed (group.One first) old value g new = (g ≡ group.Two first value) × (new ≡ old)
IsGroupPushed (group.Two first second) old value g new = (g ≡ group.Three first second value) × (new ≡ old)
IsGroupPushed (group.Three first second third) old value g new =
    (g ≡ group.Empty) × ((words : List ℕ) × IsGroup words (first ∷ second ∷ third ∷ value ∷ []) × (new ≡ old ++ words))

-- A run of EDIFACT ends at a step: between groups, or with the unlatch as the fourth value of a group.
abbrev pub group_stops : Group → Step → Bool
group_stops group.Empty step = step.edifact_ends
group_stops (group.One first) step = false
group_stops (group.Two first second) step = false
group_stops (group.Three first second third) step = step.group_ends

-- A run of EDIFACT has its end: an unlatch by itself where more than two codewords are left, none where fewer are, or
-- the unlatch in a group.
abbrev pub IsEdifactEnded : Group → ℕ → List ℕ → List ℕ → Type 0
IsEdifactEnded group.Empty total old new =
    ((length old + 2 < total) × (new ≡ old ++ 124 ∷ [])) ⊎ ((total ≤ length old + 2) × (new ≡ old))
IsEdifactEnded g total old new = (then : Group) × IsGroupPushed g old 31 then new

-- ---- a segment

-- A length field for `count` bytes was written, in a symbol that has `total` data codewords: of no more numbers than
-- would say the count.
pub record IsFieldWritten (total count : ℕ) (old new : List ℕ) : Type 0 where
  pub field : List ℕ
  pub words_are : new ≡ old ++ written (length old + 1) field
  pub few : length field ≤ length (length_numbers count)
  pub fits : length new + count ≤ total
  pub counts : (after : List ℕ) → length new + count + length after ≡ total → IsLengthField field count after

-- ---- parts

-- No codewords follow, or the first isn't the unlatch.
abbrev pub NoUnlatchFirst : List ℕ → Type 0
NoUnlatchFirst [] = Unit {0}
NoUnlatchFirst (word ∷ more) = word ≢ 254

-- A part of these items was written, in a symbol that has `total` data codewords, whatever follows that is no unlatch.
pub record IsPartWritten (extent : Extent) (total : ℕ) (old new : List ℕ) (items : List Item) : Type 0 where
  pub part : List ℕ
  pub some : 0 < length part
  pub begins : NoUnlatchFirst part
  pub whole : new ≡ old ++ part
  pub right : (after : List ℕ) → length new + length after ≡ total → NoUnlatchFirst after
      → IsPart extent (length old + 1) part after items
  pub plain : (after : List ℕ) → length new + length after ≡ total → NoUnlatchFirst after
      → IsPlainPart (length old + 1) part after items

-- Parts of these items were written behind the base.
pub record ArePartsWritten (extent : Extent) (total : ℕ) (base new : List ℕ) (items : List Item) : Type 0 where
  pub parts : List (Piece (List Item))
  pub whole : new ≡ base ++ spelled parts
  pub items_are : items ≡ gathered parts
  pub begins : (after : List ℕ) → NoUnlatchFirst after → NoUnlatchFirst (spelled parts ++ after)
  pub right : (after : List ℕ) → length new + length after ≡ total → NoUnlatchFirst after
      → AreJoined (IsPart extent) (length base + 1) parts after
  pub plain : (after : List ℕ) → length new + length after ≡ total → NoUnlatchFirst after
      → AreJoined IsPlainPart (length base + 1) parts after
