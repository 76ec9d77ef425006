-- Rooms in which there is room for the symbols of some sizes.
use Rattle.ecc200_calls.proofs.Names.{◌≡◌, ℕ, zero, suc, ◌+◌, ◌*◌, ◌≤◌, Bool, true, not, ◌&&◌, ◌||◌, nat_eq, nat_le}
use Rattle.ecc200_calls.proofs.Names.{Some, length, length-take, refl, arith, rules, find, list_all, and_parts}
use Rattle.ecc200_calls.proofs.Names.{leb-true, le-leb, recursion_from_All, AllPass-from_list_all, Extent, Usual, Wide}
use Rattle.ecc200_calls.proofs.Names.{most_spelled, SizeEntry, IsSize, codeword_count, most_codewords, WordsView}
use Rattle.ecc200_calls.proofs.Names.{IsWords, data_of, at_found, size_facts}
use Rattle.dm_symbol.specs.Messages.{most_data}
use Rattle.dm_layout.specs.symbols.Sizes.{size_table}
use Rattle.ecc200_calls.specs.inner.Rooms.{IsRoom, HasRoom}

-- A size with at most so many data codewords has at most so many rows and codewords.
abbrev fits : ℕ → ℕ → ℕ → SizeEntry → Bool
fits most rows words size =
    not (nat_le size.data_count most) || (nat_le size.rows rows && nat_le (codeword_count size) words)

-- Each size is such, for the small room and for the middle one: this is computed.
small_fits : list_all (fits 62 32 98) size_table ≡ true
unfolding size_table
small_fits = refl

fair_fits : list_all (fits 204 52 288) size_table ≡ true
unfolding size_table
fair_fits = refl

middle_fits : list_all (fits 816 104 1152) size_table ≡ true
unfolding size_table
middle_fits = refl

-- So many codewords spell at most two items each, and seven more.
few_spelled : (extent : Extent) (count : ℕ) → most_spelled extent count ≤ 2 * count + 7
few_spelled Usual count = omega arith
few_spelled Wide zero = omega arith
few_spelled Wide (suc count) = omega arith

-- A room for so many rows and codewords is for the sizes with at most so many data codewords.
module _ (most rows words : ℕ) (each : list_all (fits most rows words) size_table ≡ true) where
  -- A size with so few data codewords that is found in the table has so few rows and codewords.
  few : (p : SizeEntry → Bool) (size : SizeEntry) → find p size_table ≡ Some size → size.data_count ≤ most
      → (size.rows ≤ rows) × (codeword_count size ≤ words)
  few p size found le =
      let test : fits most rows words size ≡ true =
      at_found (λ s. fits most rows words s ≡ true) p size_table size
      (recursion_from_All (λ s. fits most rows words s ≡ true) size_table
      (AllPass-from_list_all (fits most rows words) size_table each)) found in
      let parts = and_parts _ _ (rw (le-leb size.data_count most le) at test) in
      (leb-true _ _ parts.0, leb-true _ _ parts.1)

  -- There is room for such a symbol, and for what it says.
  room : (items marks : ℕ) → 2 * most + 7 ≤ items → items ≤ most_spelled Wide most_data → most ≤ 2 * marks
      → 2 * marks ≤ most_data → IsRoom rows words
      → (size : SizeEntry) → IsSize size → size.data_count ≤ most → HasRoom rows words items marks size
  room items marks enough few_items enough_marks few_marks is size entry le =
      let f = few (λ s. nat_eq s.rows size.rows && nat_eq s.columns size.columns) size entry le in
      record {
        room = is;
        high = f.0;
        long = f.1;
        spelled = λ extent. omega (arith, few_spelled extent size.data_count, le, enough);
        most = few_items;
        marked = omega (arith, le, enough_marks);
        few_marks = few_marks;
      }

-- There is room in the small room, in the middle one, and in the largest.
pub small_room : (size : SizeEntry) → IsSize size → size.data_count ≤ 62 → HasRoom 32 98 131 31 size
small_room = room 62 32 98 small_fits 131 31 (omega arith) (omega arith) (omega arith) (omega arith) (search rules)

pub fair_room : (size : SizeEntry) → IsSize size → size.data_count ≤ 204 → HasRoom 52 288 415 102 size
fair_room = room 204 52 288 fair_fits 415 102 (omega arith) (omega arith) (omega arith) (omega arith) (search rules)

pub middle_room : (size : SizeEntry) → IsSize size → size.data_count ≤ 816 → HasRoom 104 1152 1639 408 size
middle_room =
    room 816 104 1152 middle_fits 1639 408 (omega arith) (omega arith) (omega arith) (omega arith)
    (search rules)

pub largest_room : (size : SizeEntry) → IsSize size → HasRoom 144 2178 3123 779 size
largest_room size entry =
    let f = size_facts size entry in
    record {
      room = search rules;
      high = f.rows_fit;
      long = f.codewords;
      spelled = λ extent. omega (arith, few_spelled extent size.data_count, f.data_fits);
      most = omega arith;
      marked = omega (arith, f.data_fits);
      few_marks = omega arith;
    }

-- What each of the rooms has room for.
pub ruleset rooms = (small_room, fair_room, middle_room, largest_room)

-- The codewords of a symbol fit an array that holds those of the largest.
pub words_fit : (words : WordsView) → IsWords words → length words.list ≤ most_codewords
words_fit words h = omega (arith, h.count, (size_facts words.size h.size).codewords)

-- There are as many data codewords as the size says.
pub data_count_is : (words : WordsView) → IsWords words → length (data_of words) ≡ words.size.data_count
data_count_is words h = omega (arith, length-take words.size.data_count words.list, h.count)

-- There are no more data codewords than the most that a symbol has.
pub data_few : (words : WordsView) → IsWords words → length (data_of words) ≤ most_data
data_few words h = omega (arith, length-take words.size.data_count words.list, (size_facts words.size h.size).data_fits)
