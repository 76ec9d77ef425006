-- How many values an item has in a run.
use Rattle.dm_words.proofs.Names.{◌≡◌, ℕ, ◌+◌, ◌-◌, ◌<◌, ◌≤◌, List, [], ◌∷◌, ◌++◌, length, refl, arith, Some, Bool}
use Rattle.dm_words.proofs.Names.{true, false, cond, ltb, AllByRecursion, nat_tests, Item, Byte, Fnc1, CodeSet, C40}
use Rattle.dm_words.proofs.Names.{Text, X12, Shift, All, All-from_recursion, Basic, Shifted, basic_of, shifted_of}
use Rattle.dm_words.proofs.Names.{IsRunValue, IsShifted, IsCharacter, by_shift, IsSpelling, is_basic, low_values}
use Rattle.dm_words.proofs.Names.{shift_values, set_values, unit_cost}
use Rattle.dm_words.specs.declared.c40.set.Basic.TheVariants as basic
use Rattle.dm_words.specs.declared.c40.set.Shifted.TheVariants as shifted
use Rattle.dm_words.specs.Values.{plain, character, fnc1, raised}
use Rattle.dm_words.proofs.ItemBytes.{character_byte}

-- An item by itself has at most two codewords.
pub unit_few : (x : Item) → unit_cost x ≤ 2
unit_few x = grind (arith, nat_tests)

-- A byte with a value of a basic set is basic.
basic_is : (set : CodeSet) (v b : ℕ) → basic_of set v ≡ Some (basic.Character b) → is_basic set b ≡ true
basic_is C40 v b e = grind (arith, nat_tests)
basic_is Text v b e = grind (arith, nat_tests)
basic_is X12 v b e = grind (arith, nat_tests)

-- A byte behind a shift isn't basic.
shifted_is : (set : CodeSet) (shift : Shift) (v b : ℕ) → shifted_of set shift v ≡ Some (shifted.Character b)
    → is_basic set b ≡ false
shifted_is set shift v b h1 = grind (arith, nat_tests)

-- A character has this many values.
character_count : (set : CodeSet) (vs : List ℕ) (b : ℕ) → IsCharacter set vs b → length vs ≡ low_values set b
character_count set vs b h1 = grind (arith, nat_tests, basic_is, shifted_is)

-- In X12 a character is one value.
x12_count : (vs : List ℕ) (b : ℕ) → IsCharacter X12 vs b → length vs ≡ set_values X12 (Byte b)
x12_count vs b h1 = grind (arith, nat_tests, basic_is)

low_test : (b : ℕ) → b < 128 → ltb b 128 ≡ true
low_test b lt = grind (arith, nat_tests)

high_test : (b : ℕ) → ltb (b + 128) 128 ≡ false
high_test b = grind (arith, nat_tests)

back : (b : ℕ) → b + 128 - 128 ≡ b
back b = omega arith

-- The spelling of an item has as many values as the item.
pub spelling_count : (set : CodeSet) (vs : List ℕ) (item : Item) → IsSpelling set vs item → length vs
    ≡ set_values set item
spelling_count C40 vs item (character b c i) = rw (i, low_test b (character_byte _ _ b c)) (character_count _ _ b c)
spelling_count C40 vs item (fnc1 s i) = rw (i, s.whole) refl
spelling_count C40 vs item (raised upper more b u c w i) =
    let n = character_count C40 more b c in
    rw (i, w, u.whole, high_test b, back b) (omega (arith, n))
spelling_count Text vs item (character b c i) = rw (i, low_test b (character_byte _ _ b c)) (character_count _ _ b c)
spelling_count Text vs item (fnc1 s i) = rw (i, s.whole) refl
spelling_count Text vs item (raised upper more b u c w i) =
    let n = character_count Text more b c in
    rw (i, w, u.whole, high_test b, back b) (omega (arith, n))
spelling_count X12 vs item (character b c i) = rw i (x12_count vs b c)
spelling_count X12 vs item (fnc1 s i) = absurd (let e = s.means in cc)
spelling_count X12 vs item (raised upper more b u c w i) = absurd (let e = u.means in cc)

-- This many codewords of ASCII stand for an item that has this many values.
pub data Ascii (cost values : ℕ) : Type 0 where
  one : cost ≡ 1 → values ≡ 1 → Ascii cost values
  two : cost ≡ 1 → values ≡ 2 → Ascii cost values
  three : cost ≡ 2 → values ≡ 3 → Ascii cost values
  four : cost ≡ 2 → values ≡ 4 → Ascii cost values

-- An item that a set has.
pub record IsHeld (set : CodeSet) (item : Item) : Type 0 where
  pub some : 0 < set_values set item
  pub ascii : Ascii (unit_cost item) (set_values set item)

-- In a set with shifts each item has one to four values.
shift_held : (set : CodeSet) (item : Item) → Ascii (unit_cost item) (shift_values set item)
shift_held set Fnc1 = two refl refl
shift_held set (Byte b) = by_tests (ltb b 128) (is_basic set b) (is_basic set (b - 128)) where
  by_tests : (t u v : Bool) → Ascii (cond t 1 2) (cond t (cond u 1 2) (2 + cond v 1 2))
  by_tests true true v = one refl refl
  by_tests true false v = two refl refl
  by_tests false u true = three refl refl
  by_tests false u false = four refl refl

-- So many values are some.
some_values : (c k : ℕ) → Ascii c k → 0 < k
some_values c k h1 = grind (arith, nat_tests)

-- In X12 a byte has one value.
x12_byte : (b : ℕ) (vs : List ℕ) → IsCharacter X12 vs b → Ascii (unit_cost (Byte b)) (set_values X12 (Byte b))
x12_byte b vs (plain v e w) =
    rw (low_test b (character_byte X12 vs b (plain v e w)), basic_is X12 v b e) (one refl refl)
x12_byte b vs (by_shift s) = absurd (let e = s.means in cc)

-- An item with a spelling has one to four values.
held_ascii : (set : CodeSet) (vs : List ℕ) (item : Item) → IsSpelling set vs item
    → Ascii (unit_cost item) (set_values set item)
held_ascii C40 vs item s = shift_held C40 item
held_ascii Text vs item s = shift_held Text item
held_ascii X12 vs item (character b c i) = rw i (x12_byte b vs c)
held_ascii X12 vs item (fnc1 s i) = absurd (let e = s.means in cc)
held_ascii X12 vs item (raised upper more b u c w i) = absurd (let e = u.means in cc)

-- An item with a spelling is held.
pub held : (set : CodeSet) (vs : List ℕ) (item : Item) → IsSpelling set vs item → IsHeld set item
held set vs item s = let a =
    held_ascii set vs item s in record { some = some_values (unit_cost item) (set_values set item) a; ascii = a }

-- The values of tables are below 40.
basic_small : (set : CodeSet) (v : ℕ) (m : Basic) → basic_of set v ≡ Some m → v < 40
basic_small set v m h1 = grind (arith, nat_tests)

shifted_small : (set : CodeSet) (shift : Shift) (v : ℕ) (m : Shifted) → shifted_of set shift v ≡ Some m → v < 40
shifted_small set shift v m h1 = grind (arith, nat_tests)

abbrev Small : List ℕ → Type 0
Small vs = AllByRecursion (λ v. v < 40) vs

is_shifted_small : (set : CodeSet) (vs : List ℕ) (m : Shifted) → IsShifted set vs (Some m) → Small vs
is_shifted_small set vs m s = grind (arith, nat_tests, basic_small, shifted_small)

character_small : (set : CodeSet) (vs : List ℕ) (b : ℕ) → IsCharacter set vs b → Small vs
character_small set vs b h1 = grind (arith, nat_tests, basic_small, is_shifted_small)

small_append : (a b : List ℕ) → Small a → Small b → Small (a ++ b)
small_append [] b h k = k
small_append (v ∷ a) b h k = (h.0, small_append a b h.1 k)

-- The values of a spelling are below 40.
pub spelling_small : (set : CodeSet) (vs : List ℕ) (item : Item) → IsSpelling set vs item → All IsRunValue vs
spelling_small set vs item s = All-from_recursion (λ v. v < 40) vs (by_case s) where
  by_case : IsSpelling set vs item → Small vs
  by_case (character b c i) = character_small set vs b c
  by_case (fnc1 s i) = is_shifted_small set vs shifted.Fnc1 s
  by_case (raised upper more b u c w i) =
      rw w (small_append upper more (is_shifted_small set upper shifted.UpperShift u) (character_small set more b c))

-- A spelling has at most four values.
pub few_values : (set : CodeSet) (vs : List ℕ) (item : Item) → IsSpelling set vs item → length vs ≤ 4
few_values set vs item h1 = grind (arith, nat_tests, held, set_values, spelling_count, unit_cost)
