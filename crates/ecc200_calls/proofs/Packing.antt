-- Rows of modules that are packed into one number, module after module from the right.
use Rattle.ecc200_calls.proofs.Names.{◌≡◌, ◌≢◌, ℕ, zero, suc, ◌+◌, ◌-◌, ◌*◌, ◌/◌, ◌%◌, ◌^◌, ◌<◌, ◌≤◌, Bool, true, false}
use Rattle.ecc200_calls.proofs.Names.{cond, nat_eq, List, [], length, get_or, refl, sym, ◌∙◌, ap, arith, mul_comm}
use Rattle.ecc200_calls.proofs.Names.{map, take, drop, bit_or, inl, inr, pow-suc, div-div-eq-div-mul}
use Rattle.ecc200_calls.proofs.Names.{mul-le-mul_right, mod-eq_of_lt, get_or-map, length-drop, length-map, take_all}
use Rattle.ecc200_calls.proofs.Names.{get_or-drop, cases_lt, bit_mask_l, mask_l-lt, length-chunk, get_or-chunk}
use Rattle.ecc200_calls.proofs.Names.{range_with_len, All-get_or, fill_by_all, area, AreModulesOf, SymbolView, IsSymbol}
use Rattle.ecc200_calls.proofs.Names.{module_at, is_dark_bit, is_dark}
use mir.Val.{bool_byte as from_bool}
use Rattle.std.proofs.Math.Pow.{pow_mono}
use Rattle.std.specs.Simd.Lanes.{mask_l, chunk}
use Rattle.std.specs.Int.Bits.{or_shifted_r}
use Rattle.std.proofs.lemmas.Nat.{pow-add}
use Rattle.std.proofs.lemmas.Nat.Bits.{bit_at_cat_low, bit_at_cat_high}

-- The next power of 2 is twice the last one.
pow_next : (i : ℕ) → 2 ^ (i + 1) ≡ 2 ^ i * 2
pow_next i = let e : i + 1 ≡ suc i = omega arith in ap (λ k. 2 ^ k) e ∙ pow-suc 2 i

-- A truth value is below 2 as a number.
from_bool_small : (b : Bool) → from_bool b < 2
from_bool_small true = omega arith
from_bool_small false = omega arith

-- A truth value is true exactly where it is 1 as a number.
from_bool_one : (b : Bool) → nat_eq (from_bool b) 1 ≡ b
from_bool_one true = refl
from_bool_one false = refl

-- One more bit behind i bits are i + 1 bits.
pub packed_small : (row i : ℕ) (b : Bool) → row < 2 ^ i → 2 * row + from_bool b < 2 ^ (i + 1)
packed_small row i b h = omega (arith, pow_next i, from_bool_small b, h)

-- The bit that is added comes first.
dark_first : (row : ℕ) (b : Bool) → is_dark_bit (2 * row + from_bool b) 0 ≡ b
dark_first row b =
    let e : (2 * row + from_bool b) / 1 % 2 ≡ from_bool b = omega (arith, from_bool_small b) in
    ap (λ x. nat_eq x 1) e ∙ from_bool_one b

-- The other bits move up by one.
dark_next : (row c : ℕ) (b : Bool) → is_dark_bit (2 * row + from_bool b) (c + 1) ≡ is_dark_bit row c
dark_next row c b =
    let e : (2 * row + from_bool b) / 2 ≡ row = omega (arith, from_bool_small b) in
    let d : 2 ^ (c + 1) ≡ 2 * 2 ^ c = pow_next c ∙ mul_comm (2 ^ c) 2 in
    ap (λ x. nat_eq (x % 2) 1) (ap (λ x. (2 * row + from_bool b) / x) d
    ∙ sym (div-div-eq-div-mul (2 * row + from_bool b) 2 (2 ^ c)) ∙ ap (λ x. x / 2 ^ c) e)

-- One more module is packed, from the right.
pub packed_more : (modules : List ℕ) (i row : ℕ) → i < length modules
    → ((c : ℕ) → c < i → is_dark_bit row c ≡ is_dark (get_or modules (length modules - i + c) 0))
    → (c : ℕ) → c < i + 1
    → is_dark_bit (2 * row + from_bool (is_dark (get_or modules (length modules - 1 - i) 0))) c ≡
    is_dark (get_or modules (length modules - (i + 1) + c) 0)
packed_more modules i row l h zero k =
    let e : length modules - 1 - i ≡ length modules - (i + 1) + 0 = omega (arith, l) in rw (dark_first, e)
packed_more modules i row l h (suc c) k =
    let s : suc c ≡ c + 1 = omega arith in
    let e : length modules - i + c ≡ length modules - (i + 1) + suc c = omega (arith, l) in
    rw s (dark_next row c _ ∙ h c (omega (arith, k)) ∙ rw (e, s) refl)

-- ---- sixteen modules together

-- So many bits more are that many bits in all.
pub together_small : (row next column : ℕ) → row < 2 ^ column → next < 2 ^ 16 →
    next * 2 ^ column + row < 2 ^ (column + 16)
together_small row next column small few =
    let all : 2 ^ (column + 16) ≡ 2 ^ column * 2 ^ 16 = pow-add 2 column 16 in
    let most : (next + 1) * 2 ^ column ≤ 2 ^ 16 * 2 ^ column = mul-le-mul_right (2 ^ column) (omega (arith, few)) in
    omega (arith, all, most, small)

-- Modules that are packed together stand above those before them.
pub together_is : (row next column : ℕ) → column ≤ 112 → row < 2 ^ column → next < 2 ^ 16 →
    bit_or row (next * 2 ^ column % 2 ^ 128) ≡ next * 2 ^ column + row
together_is row next column low small few =
    let room : next * 2 ^ column < 2 ^ 128 =
    omega (arith, together_small row next column small few, pow_mono {i = column + 16} {j = 128} (omega arith)) in
    ap (bit_or row) (mod-eq_of_lt room) ∙ or_shifted_r next column row small

-- Where the modules before a column are packed, and those from it on beside them, the modules before a later column
-- are.
pub together_more : (modules : List ℕ) (row next column across : ℕ) → row < 2 ^ column
    → ((k : ℕ) → k < column → k < across → is_dark_bit row k ≡ is_dark (get_or modules k 0))
    → ((k : ℕ) → k < 16 → column + k < across → is_dark_bit next k ≡ is_dark (get_or modules (column + k) 0))
    → (k : ℕ) → k < column + 16 → k < across → is_dark_bit (next * 2 ^ column + row) k ≡ is_dark (get_or modules k 0)
together_more modules row next column across small before after k l within = elim (cases_lt k column) [
  | inl lt ↦ ap (λ b. nat_eq b 1) (bit_at_cat_low next column row k lt) ∙ before k lt within
  | inr ge ↦
      let back : column + (k - column) ≡ k = omega (arith, ge) in
      ap (λ b. nat_eq b 1) (bit_at_cat_high next column row k small ge)
      ∙ after (k - column) (omega (arith, ge, l)) (omega (arith, back, within))
      ∙ ap (λ j. is_dark (get_or modules j 0)) back
]

-- The rest of a list from a place on has what stands in the list from there on.
pub rest_at : (xs : List ℕ) (at k d : ℕ) → at + k < length xs
    → (k < length (take (length xs - at) (drop at xs)))
    × (get_or (take (length xs - at) (drop at xs)) k d ≡ get_or xs (at + k) d)
rest_at xs at k d l =
    let whole : take (length xs - at) (drop at xs) ≡ drop at xs =
    take_all (length xs - at) (drop at xs) (omega (arith, length-drop at xs)) in
    (omega (arith, ap length whole, length-drop at xs), ap (λ ys. get_or ys k d) whole ∙ get_or-drop at xs k d)

-- The mask of n modules has n bits.
pub mask_small : (n : ℕ) (modules : List ℕ) (bits : ℕ) → bits ≡ mask_l (map is_dark (chunk 0 n modules)) →
    n ≤ length modules → bits < 2 ^ n
mask_small n modules bits e long =
    rw e
    (rw (length-map (chunk 0 n modules) is_dark, length-chunk 0 n modules (omega (arith, long))) at (mask_l-lt (map
    is_dark (chunk 0 n modules))))

-- A bit of a mask is 1 where its lane is true.
cond_one : (b : Bool) → nat_eq (cond b 1 0) 1 ≡ b
cond_one true = refl
cond_one false = refl

-- Its bits are the modules.
pub mask_dark : (n : ℕ) (modules : List ℕ) (bits : ℕ) → bits ≡ mask_l (map is_dark (chunk 0 n modules))
    → n ≤ length modules
    → (column : ℕ) → column < n → column < length modules → is_dark_bit bits column ≡ is_dark (get_or modules column 0)
mask_dark n modules bits e long column l within =
    let block = chunk 0 n modules in
    let first : 0 + column ≡ column = omega arith in
    let count : length block ≡ n = length-chunk 0 n modules (omega (arith, long)) in
    rw (e, bit_mask_l (map is_dark block) column, cond_one)
    (get_or-map is_dark block column 0 false (omega (arith, count, l))
    ∙ ap is_dark (rw first at (get_or-chunk 0 n modules column 0 l)))

-- ---- all rows

-- A row that is put by the numbers of its two parts has the colours that these parts have.
pub both_parts : (symbol : SymbolView) (row columns start end : ℕ) (colour : ℕ → Bool)
    → ((c : ℕ) → c < 128 → c < columns → module_at symbol row c ≡ is_dark_bit start c)
    → ((c : ℕ) → 128 + c < columns → module_at symbol row (128 + c) ≡ is_dark_bit end c)
    → ((c : ℕ) → c < 128 → c < columns → is_dark_bit start c ≡ colour c)
    → ((c : ℕ) → 128 + c < columns → is_dark_bit end c ≡ colour (128 + c))
    → (c : ℕ) → c < columns → module_at symbol row c ≡ colour c
both_parts symbol row columns start end colour put_start put_end start_is end_is c l = elim (cases_lt c 128) [
  | inl lt ↦ put_start c lt l ∙ start_is c lt l
  | inr ge ↦
      let k = c - 128 in
      let there : 128 + k ≡ c = omega (arith, ge) in
      let inside : 128 + k < columns = omega (arith, there, l) in
      ap (module_at symbol row) (sym there) ∙ put_end k inside ∙ end_is k inside ∙ ap colour there
]

-- Where the rows above one have the colours of their numbers, and it has them too, the rows above the next one have.
pub above_more : (old new : SymbolView) (numbers : List ℕ) (row rows columns : ℕ) → row < rows
    → ((c : ℕ) → c < columns → module_at new row c ≡ is_dark (get_or numbers (row * columns + c) 0))
    → ((r c : ℕ) → r < rows → c < columns → r ≢ row → module_at new r c ≡ module_at old r c)
    → ((r c : ℕ) → r < row → c < columns → module_at old r c ≡ is_dark (get_or numbers (r * columns + c) 0))
    → (r c : ℕ) → r < row + 1 → c < columns → module_at new r c ≡ is_dark (get_or numbers (r * columns + c) 0)
above_more old new numbers row rows columns low here others above r c lr lc = elim (cases_lt r row) [
  | inl lt ↦ others r c (omega (arith, lt, low)) lc (λ e. omega (arith, e, lt)) ∙ above r c lt lc
  | inr ge ↦
      let e : r ≡ row = omega (arith, ge, lr) in
      ap (λ q. module_at new q c) e ∙ here c lc ∙ ap (λ q. is_dark (get_or numbers (q * columns + c) 0)) (sym e)
]

-- Where each module has the colour of its number, the numbers are those of the symbol.
pub all_packed : (symbol : SymbolView) (numbers : List ℕ) → IsSymbol symbol → length numbers ≡ area symbol.size
    → ((r c : ℕ) → r < symbol.size.rows → c < symbol.size.columns
    → module_at symbol r c ≡ is_dark (get_or numbers (r * symbol.size.columns + c) 0))
    → AreModulesOf symbol.size.rows symbol.size.columns numbers symbol
all_packed symbol numbers well count cells =
    let rows = symbol.size.rows in
    let columns = symbol.size.columns in
    let cell = λ (r c : ℕ). get_or (map is_dark numbers) (r * columns + c) false in
    record {
      count = count;
      size = well.size;
      colours = fill_by_all (λ r. map (cell r) (range_with_len 0 columns)) symbol.rows rows [] well.height (λ r lr.
          fill_by_all (cell r) (get_or symbol.rows r []) columns false
          (All-get_or (λ l. length l ≡ columns) symbol.rows r [] (omega (arith, lr, well.height)) well.width) (λ c lc.
          let room : (r + 1) * columns ≤ rows * columns = mul-le-mul_right columns (omega (arith, lr)) in
          cells r c lr lc
          ∙ sym (get_or-map is_dark numbers (r * columns + c) 0 false (omega (arith, count, room, lc)))));
    }
