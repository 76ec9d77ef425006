-- The values of a run of C40, Text or X12, and the items that they spell (ISO/IEC 16022, C40, Text and ANSI X12
-- encodation).
use Rattle.std.specs.Prelude.{◌≡◌, ℕ, ◌+◌, ◌<◌, List, [], ◌∷◌, ◌++◌, Option, Some, None, ◌⊎◌}
use Rattle.dm_words.specs.declared.item.Item.{Item}
use Rattle.dm_words.specs.declared.item.Item.TheVariants.{Byte, Fnc1}
use Rattle.dm_words.specs.declared.c40.set.CodeSet.{CodeSet}
use Rattle.dm_words.specs.declared.c40.set.Shift.{Shift}
use Rattle.dm_words.specs.declared.c40.set.Basic.TheVariants as basic
use Rattle.dm_words.specs.declared.c40.set.Shifted.{Shifted}
use Rattle.dm_words.specs.declared.c40.set.Shifted.TheVariants as shifted
use Rattle.dm_words.specs.CodeSets.{basic_of, shifted_of}

-- A value of a run is 0 to 39.
abbrev pub IsRunValue : ℕ → Type 0
IsRunValue value = value < 40

-- A shift and the value after it together have this meaning; `None` says that they have none.
pub record IsShifted (set : CodeSet) (values : List ℕ) (meaning : Option Shifted) : Type 0 where
  pub first : ℕ
  pub second : ℕ
  pub shift : Shift
  pub is_shift : basic_of set first ≡ Some (basic.Shift shift)
  pub means : shifted_of set shift second ≡ meaning
  pub whole : values ≡ first ∷ second ∷ []

-- A character is a value of the basic set, or a shift and a value, that means this byte.
pub data IsCharacter (set : CodeSet) (values : List ℕ) (byte : ℕ) : Type 0 where
  plain : (value : ℕ) → basic_of set value ≡ Some (basic.Character byte) → values ≡ value ∷ []
      → IsCharacter set values byte
  by_shift : IsShifted set values (Some (shifted.Character byte)) → IsCharacter set values byte

-- The spelling of an item is a character; Shift 2 and 27, which is FNC1; or an Upper Shift, which is Shift 2 and 30,
-- and a character, whose byte it raises by 128.
pub data IsSpelling (set : CodeSet) (values : List ℕ) (item : Item) : Type 0 where
  character : (byte : ℕ) → IsCharacter set values byte → item ≡ Byte byte → IsSpelling set values item
  fnc1 : IsShifted set values (Some shifted.Fnc1) → item ≡ Fnc1 → IsSpelling set values item
  raised : (upper more : List ℕ) (byte : ℕ) → IsShifted set upper (Some shifted.UpperShift) → IsCharacter set more byte
      → values ≡ upper ++ more → item ≡ Byte (byte + 128) → IsSpelling set values item

-- A filler is nothing, or one shift with no value after it, which means nothing. The standard fills with Shift 1; that
-- any shift is passed over is a rule of this project.
pub data IsFiller (set : CodeSet) (values : List ℕ) : Type 0 where
  nothing : values ≡ [] → IsFiller set values
  lone_shift : (value : ℕ) (shift : Shift) → basic_of set value ≡ Some (basic.Shift shift) → values ≡ value ∷ []
      → IsFiller set values

-- An Upper Shift waits for its character: it stands alone, or before one lone shift.
pub record IsWaiting (set : CodeSet) (values : List ℕ) : Type 0 where
  pub upper : List ℕ
  pub filler : List ℕ
  pub is_upper : IsShifted set upper (Some shifted.UpperShift)
  pub ended : IsFiller set filler
  pub whole : values ≡ upper ++ filler

-- The values begin with a shift and a value that have this meaning together, or none, with or without an Upper Shift
-- before them. That value stands at this index: 1, or 3 behind an Upper Shift.
pub data BeginsShifted (set : CodeSet) (values : List ℕ) (meaning : Option Shifted) (index : ℕ) : Type 0 where
  at_once : (two more : List ℕ) → IsShifted set two meaning → values ≡ two ++ more → index ≡ 1
      → BeginsShifted set values meaning index
  after_upper_shift : (upper two more : List ℕ) → IsShifted set upper (Some shifted.UpperShift)
      → IsShifted set two meaning → values ≡ upper ++ (two ++ more) → index ≡ 3
      → BeginsShifted set values meaning index

-- These values can follow the last whole spelling of a run, whose values are 0 to 39.
pub data IsRest (set : CodeSet) (values : List ℕ) : Type 0 where
  complete : IsFiller set values → IsRest set values
  waiting : IsWaiting set values → IsRest set values
  meaningless : (index : ℕ) → BeginsShifted set values None index → IsRest set values
  wrong_upper_shift : BeginsShifted set values (Some shifted.Fnc1) 3
      ⊎ BeginsShifted set values (Some shifted.UpperShift) 3 → IsRest set values
