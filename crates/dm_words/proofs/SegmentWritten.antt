-- The segments that are written are segments.
use Rattle.dm_words.proofs.Names.{◌≡◌, ◌≢◌, ◌⊎◌, inl, inr, ℕ, ◌+◌, ◌/◌, ◌%◌, ◌<◌, ◌≤◌, List, [], ◌∷◌, ◌++◌, length, map}
use Rattle.dm_words.proofs.Names.{refl, sym, ap, subst, arith, Bool, true, false, cond, nat_le, cases_lt, length-append}
use Rattle.dm_words.proofs.Names.{length-map, recursion_from_All, Extent, Item, byte_of, IsItem, IsMessage, written}
use Rattle.dm_words.proofs.Names.{randomised, IsLengthField, IsSegment, to_the_end, has_fnc1, length_numbers, segment}
use Rattle.dm_words.proofs.Names.{IsPartWritten}
use Rattle.dm_words.specs.Plain as plainly
use Rattle.dm_words.specs.inner.Written.{IsFieldWritten}
use Rattle.dm_words.proofs.Segments.{length-written}
use Rattle.dm_words.proofs.NormalForms.{short_numbers, long_numbers, says_count, bytes_of_items, bytes_are_items}
use Rattle.dm_words.proofs.NormalForms.{segment_whole}

-- A latch, a field and bytes were written.
pub field_written : (extent : Extent) (total : ℕ) (old latched counted new field : List ℕ) (m : List Item)
    → 0 < length m → IsMessage m → has_fnc1 m ≡ false
    → latched ≡ old ++ 231 ∷ [] → counted ≡ latched ++ written (length latched + 1) field → new ≡ counted
    ++ written (length counted + 1) (map byte_of m)
    → ((after : List ℕ) → length new + length after ≡ total → IsLengthField field (length (map byte_of m)) after)
    → IsPartWritten extent total old new m
field_written extent total old latched counted new field m some fit none latch count all counts =
    let bytes = map byte_of m in
    let whole = segment_whole old latched counted new field bytes latch count all in
    let place : length old + 2 ≡ (length old + 1) + 1 = omega arith in
    let is : (after : List ℕ) → length new + length after ≡ total
    → IsSegment (length old + 1) (231 ∷ written (length old + 2) (field ++ bytes)) after m = λ after fills. record {
      latch = 231;
      is_latch = refl;
      field = field;
      bytes = bytes;
      in_range = bytes_of_items m (recursion_from_All IsItem m fit);
      counted = counts after fills;
      whole = ap (λ (k : ℕ). 231 ∷ written k (field ++ bytes)) place;
      items_are = bytes_are_items m none;
    } in
    record {
      part = 231 ∷ written (length old + 2) (field ++ bytes);
      some = omega arith;
      begins = λ e. absurd (omega (arith, e));
      whole = whole;
      right = λ after fills first. segment (is after fills);
      plain = λ after fills first. plainly.segment (is after fills) some;
    }

-- The bytes take a codeword each.
bytes_length : (counted new : List ℕ) (m : List Item) → new ≡ counted
    ++ written (length counted + 1) (map byte_of m) → length new ≡ length counted + length m
bytes_length counted new m all = grind (arith, length-append, byte_of, length-written, length-map)

-- A field that says all bytes up to the end of the symbol.
pub field_to_end : (total count held : ℕ) (old new : List ℕ) → length old ≡ held → held + 1 + count ≡ total → new ≡ old
    ++ randomised (held + 1) 0 ∷ [] → IsFieldWritten total count old new
field_to_end total count held old new here full put = record {
  field = 0 ∷ [];
  words_are = is;
  few = by_test (nat_le count 249);
  fits = omega (arith, l, here, full);
  counts = λ after fills. by_after after (omega (arith, l, here, full, fills));
} where
  is : new ≡ old ++ randomised (length old + 1) 0 ∷ []
  is = subst (λ (n : ℕ). new ≡ old ++ randomised (n + 1) 0 ∷ []) (sym here) put

  l : length new ≡ length old + 1
  l = omega (arith, ap length is, length-append old (randomised (length old + 1) 0 ∷ []))

  by_test : (t : Bool) → 1 ≤ length (cond t (count ∷ []) ((249 + count / 250) ∷ (count % 250) ∷ []))
  by_test true = omega arith
  by_test false = omega arith

  by_after : (after : List ℕ) → length after ≡ 0 → IsLengthField (0 ∷ []) count after
  by_after [] none = to_the_end refl refl
  by_after (w ∷ after) none = absurd (omega (arith, none))

-- A field that says the count.
pub field_of_count : (total count held : ℕ) (old new : List ℕ) → length old ≡ held → 0 < count → total ≤ 1558
    → (count ≤ 249) ⊎ (held + 1 + count ≢ total) → held + 1 + count ≤ total
    → new ≡ old ++ written (held + 1) (length_numbers count) → IsFieldWritten total count old new
field_of_count total count held old new here some most which room put = record {
  field = length_numbers count;
  words_are = is;
  few = omega arith;
  fits = elim (cases_lt 249 count) [
    | inl many ↦ elim which [
      | inl few ↦ absurd (omega (arith, few, many))
      | inr other ↦ omega (arith, l, here, ap length (long_numbers count many), other, room)
    ]
    | inr few ↦ omega (arith, l, here, ap length (short_numbers count few), room)
  ];
  counts = λ after fills. says_count count after some (omega (arith, most, room));
} where
  is : new ≡ old ++ written (length old + 1) (length_numbers count)
  is = subst (λ (n : ℕ). new ≡ old ++ written (n + 1) (length_numbers count)) (sym here) put

  l : length new ≡ length old + length (length_numbers count)
  l = omega (
    arith,
    ap length is,
    length-append old (written (length old + 1) (length_numbers count)),
    length-written (length old + 1) (length_numbers count),
  )

-- The field has no more numbers than would say the count.
pub field_few : (total count : ℕ) (old new : List ℕ) → IsFieldWritten total count old new
    → length new ≤ length old + length (length_numbers count)
field_few total count old new f =
    omega (
      arith,
      f.few,
      ap length f.words_are,
      length-append old (written (length old + 1) f.field),
      length-written (length old + 1) f.field,
    )

-- A segment was written.
pub segment_written : (extent : Extent) (total held : ℕ) (old latched counted new : List ℕ) (m : List Item)
    → 0 < length m → IsMessage m
    → has_fnc1 m ≡ false → latched ≡ old ++ 231 ∷ []
    → (f : IsFieldWritten total (length m) latched counted) → length counted ≡ held → new ≡ counted
    ++ written (held + 1) (map byte_of m) → IsPartWritten extent total old new m
segment_written extent total held old latched counted new m some fit none latch f here put =
    let all : new ≡ counted ++ written (length counted + 1) (map byte_of m) =
    subst (λ (n : ℕ). new ≡ counted ++ written (n + 1) (map byte_of m)) (sym here) put in
    let long = bytes_length counted new m all in
    field_written extent total old latched counted new f.field m some fit none latch f.words_are all
    (λ after fills. subst (λ (n : ℕ). IsLengthField f.field n after) (sym (length-map m byte_of))
    (f.counts after (omega (arith, fills, long))))
