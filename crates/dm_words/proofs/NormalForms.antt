-- The normal form of a message spells it.
use Rattle.dm_words.proofs.Names.{◌≡◌, ◌⊎◌, inl, inr, ℕ, ◌+◌, ◌-◌, ◌*◌, ◌/◌, ◌%◌, ◌<◌, ◌≤◌, List, [], ◌∷◌, ◌++◌, length}
use Rattle.dm_words.proofs.Names.{map, take, drop, get_or, append_assoc, add-one, refl, sym, ap, subst, ◌∙◌, arith}
use Rattle.dm_words.proofs.Names.{Bool, true, false, not, cond, ltb, ◌&&◌, cases_lt, nat_tests, append-nil}
use Rattle.dm_words.proofs.Names.{at_drop_more, length-append, length-map, length-take, map-append, take-suc}
use Rattle.dm_words.proofs.Names.{recursion_from_All}
use Rattle.dm_words.proofs.Names.{Extent, Item, Byte, Fnc1, Profile, Ascii, Shorter, Piece, byte_of}
use Rattle.dm_words.proofs.Names.{IsItem, IsMessage, byte_items, most_data, is_digit, digit_pair, single, ascii, pads}
use Rattle.dm_words.proofs.Names.{padded, written, randomised, AreBytes, IsLengthField, short, long, IsSegment}
use Rattle.dm_words.proofs.Names.{has_fnc1, length_numbers, one_segment, shorter, normal_form, segment, Spells}
use Rattle.std.proofs.Common.{is_lt, nat_cmp}
use Rattle.std.specs.Ordering.{ord_max}
use Rattle.std.proofs.lemmas.Bool.{cases_Bool}
use Rattle.dm_words.proofs.SpelledContents.{parts_spell}
use Rattle.dm_words.proofs.Segments.{length-written, written-append}
use Rattle.dm_words.proofs.AsciiWords.{AreItems, pads_end, ascii_bytes}
use Rattle.dm_words.proofs.AsciiWords as form

-- ---- the length field

-- The length field of up to 249 bytes is one number.
pub short_numbers : (n : ℕ) → n ≤ 249 → length_numbers n ≡ n ∷ []
short_numbers n le = grind (arith, nat_tests)

-- The length field of more bytes is two numbers.
pub long_numbers : (n : ℕ) → 249 < n → length_numbers n ≡ (249 + n / 250) ∷ (n % 250) ∷ []
long_numbers n big = grind (arith, nat_tests)

-- The length numbers of a count are a length field that says this count.
pub says_count : (n : ℕ) (after : List ℕ) → 0 < n → n < 1750 → IsLengthField (length_numbers n) n after
says_count n after some few =
    elim (cases_lt 249 n) [
      | inl big ↦ long (249 + n / 250) (n % 250) (omega arith) (omega arith) (omega arith) (long_numbers n big)
          (omega arith)
      | inr le ↦ short n some le (short_numbers n le) refl
    ]

-- A segment has a latch, its length numbers and a codeword for each byte.
pub length-one_segment : (bytes : List ℕ) → length (one_segment bytes)
    ≡ 1 + length (length_numbers (length bytes)) + length bytes
length-one_segment bytes = grind (arith, length-written, length_numbers, length-append)

-- ---- the bytes of a message

-- A message without FNC1 is the list of its bytes.
pub bytes_are_items : (m : List Item) → has_fnc1 m ≡ false → m ≡ byte_items (map byte_of m)
bytes_are_items [] none = refl
bytes_are_items (Byte b ∷ m) none = ap (λ (r : List Item). Byte b ∷ r) (bytes_are_items m none)
bytes_are_items (Fnc1 ∷ m) none = cc

-- The bytes of a message are 0 to 255.
pub bytes_of_items : (m : List Item) → AreItems m → AreBytes (map byte_of m)
bytes_of_items [] fit = tt
bytes_of_items (i ∷ m) fit = (fit.0, bytes_of_items m fit.1)

-- ---- the segment spells the message

-- One segment of the bytes of a message, and whatever pads stand behind it, spell the message.
segment_spells : (extent : Extent) (m : List Item) (count : ℕ) → AreItems m → has_fnc1 m ≡ false → 0 < length m
    → length m < 1750 → Spells extent (padded (one_segment (map byte_of m)) count) m
segment_spells extent m count fit none some few =
    let bytes = map byte_of m in
    let words = one_segment bytes in
    let after = pads (length words + 1) (count - length words) in
    let long : length bytes ≡ length m = length-map m byte_of in
    let is : IsSegment 1 words after m = record {
      latch = 231;
      is_latch = refl;
      field = length_numbers (length bytes);
      bytes = bytes;
      in_range = bytes_of_items m fit;
      counted = says_count (length bytes) after (omega (arith, long)) (omega (arith, long));
      whole = refl;
      items_are = bytes_are_items m none;
    } in
    let p : Piece (List Item) = record { words = words; what = m } in
    parts_spell extent (padded words count) m (record {
      parts = p ∷ [];
      after = after;
      joined = (segment is, tt);
      ended = pads_end (length words + 1) (count - length words);
      whole = ap (λ (r : List ℕ). r ++ after) (sym (append-nil words));
      items_are = sym (append-nil m);
    })

-- ---- which of the two is taken

-- This is the segment of all bytes of a message.
abbrev pub segment_of : List Item → List ℕ
segment_of m = one_segment (map byte_of m)

-- The segment is taken where it can be and is shorter.
pub takes_segment : (m : List Item) → has_fnc1 m ≡ false → length (segment_of m) < length (ascii m) → shorter m
    ≡ segment_of m
takes_segment m none lt = grind (arith, nat_tests, ltb, segment_of, ascii)

-- ASCII is taken where there is an FNC1.
pub takes_ascii_with_fnc1 : (m : List Item) → has_fnc1 m ≡ true → shorter m ≡ ascii m
takes_ascii_with_fnc1 m some = rw some refl

-- ASCII is taken where the segment isn't shorter.
pub takes_ascii : (m : List Item) → length (ascii m) ≤ length (segment_of m) → shorter m ≡ ascii m
takes_ascii m le =
    let t : ltb (length (segment_of m)) (length (ascii m)) ≡ false = grind (arith, nat_tests) in
    by_test (has_fnc1 m) t
  where
    by_test : (f : Bool) → ltb (length (segment_of m)) (length (ascii m)) ≡ false
        → cond (not f && ltb (length (segment_of m)) (length (ascii m))) (segment_of m) (ascii m) ≡ ascii m
    by_test true t = refl
    by_test false t = rw t refl

-- The segment is taken for these reasons.
pub record IsSegmentTaken (m : List Item) : Type 0 where
  pub none : has_fnc1 m ≡ false
  pub less : length (segment_of m) < length (ascii m)
  pub is : shorter m ≡ segment_of m

-- Either the segment or ASCII is taken.
pub segment_or_ascii : (m : List Item) → IsSegmentTaken m ⊎ (shorter m ≡ ascii m)
segment_or_ascii m =
    elim (cases_Bool (has_fnc1 m)) [
      | inl some ↦ inr (takes_ascii_with_fnc1 m some)
      | inr none ↦ elim (cases_lt (length (segment_of m)) (length (ascii m))) [
        | inl lt ↦ inl (record { none = none; less = lt; is = takes_segment m none lt })
        | inr le ↦ inr (takes_ascii m le)
      ]
    ]

-- ---- the laws

-- A message whose segment is taken isn't empty.
pub some_items : (m : List Item) → length (segment_of m) < length (ascii m) → 0 < length m
some_items m h1 = grind (arith, nat_tests)

-- The shorter form with pads spells the message.
shorter_spells : (extent : Extent) (m : List Item) (count : ℕ) → IsMessage m → length (shorter m) ≤ count
    → count ≤ most_data → Spells extent (padded (shorter m) count) m
shorter_spells extent m count fit le most =
    let items = recursion_from_All IsItem m fit in
    elim (segment_or_ascii m) [
      | inl s ↦
          let few : length m < 1750 =
          omega (arith, ap length s.is, length-one_segment (map byte_of m), length-map m byte_of) in
          subst (λ (w : List ℕ). Spells extent (padded w count) m) (sym s.is)
          (segment_spells extent m count items s.none (some_items m s.less) few)
      | inr e ↦ subst (λ (w : List ℕ). Spells extent (padded w count) m) (sym e)
          (form.ascii_spells extent m count items)
    ]

-- The normal form with pads spells the message.
pub normal_form_spells : (extent : Extent) (profile : Profile) (m : List Item) (count : ℕ) → IsMessage m
    → length (normal_form profile m) ≤ count → count ≤ most_data
    → Spells extent (padded (normal_form profile m) count) m
normal_form_spells extent Ascii m count fit le most = form.ascii_spells extent m count (recursion_from_All IsItem m fit)
normal_form_spells extent Shorter m count fit le most = shorter_spells extent m count fit le most

-- What is written for values is bytes.
written_bytes : (place : ℕ) (vs : List ℕ) → AreBytes (written place vs)
written_bytes place [] = tt
written_bytes place (v ∷ vs) = (omega arith, written_bytes (place + 1) vs)

-- The codewords of a segment are bytes.
segment_bytes : (bytes : List ℕ) → AreBytes (one_segment bytes)
segment_bytes bytes = (omega arith, written_bytes 2 (length_numbers (length bytes) ++ bytes))

-- The codewords of the normal form are bytes.
pub normal_form_bytes : (profile : Profile) (m : List Item) → AreItems m → AreBytes (normal_form profile m)
normal_form_bytes profile m h1 = grind (arith, nat_tests, ascii_bytes, segment_or_ascii, segment_bytes, map, byte_of)

-- The shorter form isn't longer than ASCII.
pub shorter_than_ascii : (m : List Item) → length (shorter m) ≤ length (ascii m)
shorter_than_ascii m = grind (arith, nat_tests, segment_or_ascii)

-- A message of bytes has no FNC1.
no_fnc1 : (bytes : List ℕ) → has_fnc1 (byte_items bytes) ≡ false
no_fnc1 [] = refl
no_fnc1 (b ∷ bytes) = no_fnc1 bytes

-- A message that is made of bytes has these bytes.
items_are_bytes : (bytes : List ℕ) → map byte_of (byte_items bytes) ≡ bytes
items_are_bytes [] = refl
items_are_bytes (b ∷ bytes) = ap (λ (r : List ℕ). b ∷ r) (items_are_bytes bytes)

-- The shorter form of bytes isn't longer than one segment.
pub shorter_than_segment : (bytes : List ℕ) → length (shorter (byte_items bytes)) ≤ length (one_segment bytes)
shorter_than_segment bytes =
    grind (arith, nat_tests, segment_of, items_are_bytes, cases_lt, takes_segment, no_fnc1, takes_ascii)

-- A byte by itself has at least one codeword.
some_single : (b : ℕ) → 0 < length (single b)
some_single b = grind (arith, nat_tests)

-- A byte by itself has one codeword below 128, and else two.
few_single : (b : ℕ) → (length (single b) ≤ 2) × (b < 128 → length (single b) ≤ 1)
few_single b = grind (arith, nat_tests, ltb, cond)

-- With one item before them, the ASCII codewords of items are no fewer, and at most two more, or one more where the
-- byte of that item is below 128.
pub record IsLonger (i : Item) (m : List Item) : Type 0 where
  pub no_fewer : length (ascii m) ≤ length (ascii (i ∷ m))
  pub two_more : length (ascii (i ∷ m)) ≤ 2 + length (ascii m)
  pub one_more : byte_of i < 128 → length (ascii (i ∷ m)) ≤ 1 + length (ascii m)

-- A byte that stands by itself makes the ASCII form of the items behind it so much longer.
longer_alone : (b : ℕ) (m : List Item) → ascii (Byte b ∷ m) ≡ single b ++ ascii m → IsLonger (Byte b) m
longer_alone b m e = grind (arith, nat_tests, length-append, single, ascii, few_single)

-- One more item makes the ASCII form of the items behind it so much longer.
pub longer : (i : Item) (m : List Item) → IsLonger i m
longer Fnc1 m = record { no_fewer = omega arith; two_more = omega arith; one_more = λ lt. omega arith }
longer (Byte b) [] = longer_alone b [] (sym (append-nil (single b)))
longer (Byte b) (Fnc1 ∷ m) = longer_alone b (Fnc1 ∷ m) refl
longer (Byte b) (Byte c ∷ m) = grind (arith, nat_tests, is_digit, ascii, digit_pair, longer_alone, longer (Byte c) m)

-- The ASCII form has at most two codewords for each item.
pub two_words : (m : List Item) → length (ascii m) ≤ 2 * length m
two_words [] = omega arith
two_words (i ∷ m) = omega (arith, (longer i m).two_more, two_words m)

-- Where the greater of two numbers is below a third, both are.
both_below : (a b n : ℕ) → ord_max nat_cmp a b < n → (a < n) × (b < n)
both_below a b n below = grind (arith, nat_tests, ltb, cond, is_lt)

-- A turn of the loop that looks for the greatest byte: where this is below 128, each item so far makes the ASCII form
-- longer by at most one codeword.
pub below_turn : (m : List Item) (k most b greater : ℕ) (d : Item) → k < length m → b ≡ byte_of (get_or m k d)
    → greater ≡ ord_max nat_cmp most b
    → (most < 128 → length (ascii m) ≤ k + length (ascii (drop k m))) → greater < 128
    → length (ascii m) ≤ k + 1 + length (ascii (drop (k + 1) m))
below_turn m k most b greater d lt is greatest so_far below =
    let both = both_below most b 128 (subst (λ (x : ℕ). x < 128) greatest below) in
    let here : length (ascii (drop k m)) ≡ length (ascii (get_or m k d ∷ drop (k + 1) m)) =
    at_drop_more (λ (r : List Item). length (ascii r)) m k d lt in
    let one = (longer (get_or m k d) (drop (k + 1) m)).one_more (subst (λ (x : ℕ). x < 128) is both.1) in
    omega (arith, so_far both.0, here, one)

-- A message has at most two items for each codeword of its ASCII form.
pub two_items : (m : List Item) → length m ≤ 2 * length (ascii m)
two_items [] = omega arith
two_items (Fnc1 ∷ m) = omega (arith, two_items m)
two_items (Byte b ∷ []) = omega (arith, some_single b)
two_items (Byte b ∷ Fnc1 ∷ m) =
    omega (arith, some_single b, length-append (single b) (ascii (Fnc1 ∷ m)), two_items (Fnc1 ∷ m))
two_items (Byte b ∷ Byte c ∷ m) =
    grind (arith, nat_tests, some_single, length-append, two_items m, two_items (Byte c ∷ m))

-- A message has at most two items for each codeword of its normal form.
pub normal_form_items : (profile : Profile) (m : List Item) → length m ≤ 2 * length (normal_form profile m)
normal_form_items profile m =
    grind (arith, nat_tests, two_items, segment_or_ascii, length-one_segment, byte_of, length-map)

-- ---- writing a segment

-- One more item has its byte at the end.
pub one_byte_more : (m : List Item) (i : ℕ) (d : Item) → i < length m → map byte_of (take (i + 1) m)
    ≡ map byte_of (take i m) ++ byte_of (get_or m i d) ∷ []
one_byte_more m i d lt = ap (map byte_of) (rw add-one (take-suc m i d lt))
    ∙ map-append byte_of (take i m) (get_or m i d ∷ [])

-- One turn of the loop that writes bytes writes that of one more item.
pub bytes_more : (place : ℕ) (start old new : List ℕ) (m : List Item) (i b : ℕ) (d : Item) → i < length m → b
    ≡ byte_of (get_or m i d)
    → old ≡ start ++ written place (map byte_of (take i m)) → new ≡ old ++ randomised (place + i) b ∷ []
    → new ≡ start ++ written place (map byte_of (take (i + 1) m))
bytes_more place start old new m i b d lt is so_far e =
    let before = map byte_of (take i m) in
    let here : i ≡ length before = omega (arith, lt, length-map (take i m) byte_of, length-take i m) in
    let more : before ++ b ∷ [] ≡ map byte_of (take (i + 1) m) = cc (one_byte_more m i d lt) in
    let put : new ≡ old ++ randomised (place + length before) b ∷ [] =
    subst (λ (k : ℕ). new ≡ old ++ randomised (place + k) b ∷ []) here e in
    let last = randomised (place + length before) b ∷ [] in
    put ∙ ap (λ (l : List ℕ). l ++ last) so_far ∙ append_assoc start (written place before) last
    ∙ ap (λ (l : List ℕ). start ++ l) (sym (written-append place before (b ∷ [])))
    ∙ ap (λ (l : List ℕ). start ++ written place l) more

-- A latch, numbers and bytes that are written one behind the other are a latch and all values.
pub segment_whole : (start latched counted new numbers bytes : List ℕ) → latched ≡ start ++ 231 ∷ [] → counted
    ≡ latched ++ written (length latched + 1) numbers → new ≡ counted ++ written (length counted + 1) bytes
    → new ≡ start ++ 231 ∷ written (length start + 2) (numbers ++ bytes)
segment_whole start latched counted new numbers bytes latch count all =
    grind (arith, length-append, length-written, append_assoc, written-append)

-- So are those of one segment, where so many codewords were held before the numbers and before the bytes.
pub segment_held : (first second : ℕ) (latched counted new bytes : List ℕ) → latched ≡ 231 ∷ [] → first ≡ 1
    → counted ≡ latched ++ written (first + 1) (length_numbers (length bytes))
    → second ≡ first + length (length_numbers (length bytes)) → new ≡ counted ++ written (second + 1) bytes
    → new ≡ one_segment bytes
segment_held first second latched counted new bytes latch one count more all =
    let numbers = length_numbers (length bytes) in
    let at : first ≡ length latched = omega (arith, one, ap length latch) in
    let counts : counted ≡ latched ++ written (length latched + 1) numbers =
    subst (λ (k : ℕ). counted ≡ latched ++ written (k + 1) numbers) at count in
    let behind : second ≡ length counted = omega (
      arith,
      more,
      at,
      ap length counts,
      length-append latched (written (length latched + 1) numbers),
      length-written (length latched + 1) numbers,
    ) in
    segment_whole [] latched counted new numbers bytes latch counts
    (subst (λ (k : ℕ). new ≡ counted ++ written (k + 1) bytes) behind all)

-- ---- choosing

-- The segment of a message has a latch, its length numbers and a codeword for each item.
length-segment_of : (m : List Item) → length (segment_of m) ≡ 1 + length (length_numbers (length m)) + length m
length-segment_of m = grind (arith, nat_tests, byte_of, length-map, length-one_segment, length_numbers)

-- The form that was chosen is the normal form.
chosen_form : (profile : Profile) (m : List Item) (takes marked : Bool) (count words : ℕ)
    → (profile ≡ Ascii → takes ≡ false)
    → (profile ≡ Shorter → takes ≡ (not marked && ltb count words)) → marked ≡ has_fnc1 m → count
    ≡ length (segment_of m) → words ≡ length (ascii m)
    → normal_form profile m ≡ cond takes (segment_of m) (ascii m)
chosen_form profile m takes marked count words h1 h2 h3 h4 h5 = grind (arith, nat_tests)

-- The form that was chosen has this length.
chosen_length : (takes : Bool) (m : List Item) (count words : ℕ) → count ≡ length (segment_of m) → words
    ≡ length (ascii m)
    → cond takes count words ≡ length (cond takes (segment_of m) (ascii m))
chosen_length takes m count words h1 h2 = grind (arith, nat_tests)

-- The normal form and its length are known from the length of the segment and from what was found of the ASCII form.
pub form_known : (profile : Profile) (m : List Item) (takes marked : Bool) (count words : ℕ)
    → (profile ≡ Ascii → takes ≡ false)
    → (profile ≡ Shorter → takes ≡ (not marked && ltb count words)) → marked ≡ has_fnc1 m → count
    ≡ 1 + length (length_numbers (length m)) + length m → words ≡ length (ascii m)
    → (normal_form profile m ≡ cond takes (segment_of m) (ascii m)) × (cond takes count words
    ≡ length (normal_form profile m))
form_known profile m takes marked count words never when mark counted lengths =
    grind (arith, nat_tests, segment_of, length-segment_of, chosen_form, chosen_length)
