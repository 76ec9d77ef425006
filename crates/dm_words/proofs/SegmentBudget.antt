-- A segment that follows the plan stays within its budget.
use Rattle.dm_words.proofs.Names.{◌≡◌, ℕ, ◌+◌, ◌-◌, ◌<◌, ◌≤◌, List, [], ◌∷◌, ◌++◌, length, take, drop, get_or, refl}
use Rattle.dm_words.proofs.Names.{sym, ap, subst, ◌∙◌, arith, Bool, true, false, cond, nat_le, min, nat_tests}
use Rattle.dm_words.proofs.Names.{length-drop, at_drop_more, Setting, Item, Byte, Fnc1, has_fnc1, length_numbers}
use Rattle.dm_words.proofs.Names.{never, most_behind, rest_behind, parts_cost, segment_cost, going_from, IsRightStep}
use Rattle.dm_words.specs.inner.Costs.{Bytes, Step, row}
use Rattle.dm_words.proofs.NormalForms.{short_numbers, long_numbers}
use Rattle.dm_words.proofs.CostsMet.{bytes_is, near_cases}
use Rattle.dm_words.proofs.Plans.{row_within}
use Rattle.dm_words.proofs.RunBudget.{one_more}

module _ (setting : Setting) where
  abbrev bytes_cost : List Item → ℕ
  bytes_cost m = (row setting m).segment.bytes

  abbrev near_of : List Item → ℕ
  near_of m = (row setting m).segment.near

  -- So far a segment has `count` bytes, and `rest` follows.
  pub record IsSegmentSoFar (m rest : List Item) (count : ℕ) : Type 0 where
    pub bytes : bytes_cost m ≡ count + min (parts_cost setting rest) (bytes_cost rest)
    pub ended : parts_cost setting rest ≤ bytes_cost rest → near_of m ≡ count
    pub open_still : bytes_cost rest < parts_cost setting rest → near_of m ≡ count + near_of rest

  pub segment_begun : (b : ℕ) (rest : List Item) → IsSegmentSoFar (Byte b ∷ rest) rest 1
  segment_begun b rest = grind (arith, nat_tests, near_cases, bytes_is)

  pub segment_more : (m : List Item) (b count : ℕ) (rest : List Item) → IsSegmentSoFar m (Byte b ∷ rest) count
      → bytes_cost (Byte b ∷ rest) < parts_cost setting (Byte b ∷ rest) → IsSegmentSoFar m rest (count + 1)
  segment_more m b count rest s goes = grind (arith, nat_tests, bytes_cost, min, parts_cost, bytes_is, near_cases)

  -- The next item is a byte where the segment goes on.
  pub byte_next : (x : Item) (rest : List Item) → bytes_cost (x ∷ rest) < parts_cost setting (x ∷ rest)
      → parts_cost setting (x ∷ rest) < never → (b : ℕ) × (x ≡ Byte b)
  unfolding row
  byte_next Fnc1 rest goes small = absurd (omega (arith, goes, small))
  byte_next (Byte b) rest goes small = (b, refl)

  -- The costs of a segment are those of going on.
  segment_are : (m : List Item) → (row setting m).segment ≡ (going_from setting m).segment
  unfolding row
  segment_are m = grind (arith, nat_tests)

  -- The first item is a byte where a segment goes on over it.
  pub first_byte : (m : List Item) → 0 < length m → (going_from setting m).segment.bytes < never
      → (b : ℕ) × (rest : List Item) × (m ≡ Byte b ∷ rest)
  first_byte [] some small = absurd (omega (arith, some))
  first_byte (Fnc1 ∷ m) some small = absurd (omega (arith, small))
  first_byte (Byte b ∷ m) some small = (b, m, refl)

  -- A segment begins at an index.
  pub begun_at : (m : List Item) (i : ℕ) (d : Item) → i < length m
      → (going_from setting (drop i m)).segment.bytes < never
      → (IsSegmentSoFar (drop i m) (drop (i + 1) m) (i + 1 - i)) × (has_fnc1 (take (i + 1 - i) (drop i m)) ≡ false)
  begun_at m i d lt small =
      let cons : drop i m ≡ get_or m i d ∷ drop (i + 1) m = at_drop_more (λ (l : List Item). l) m i d lt in
      let one : 1 ≡ i + 1 - i = omega arith in
      let f = first_byte (drop i m) (omega (arith, lt, length-drop i m)) small in
      let is : drop i m ≡ Byte f.0 ∷ drop (i + 1) m = f.2 ∙ ap (λ (l : List Item). Byte f.0 ∷ l) (cc) in (
        subst (λ (k : ℕ). IsSegmentSoFar (drop i m) (drop (i + 1) m) k) one
            (rw (sym is) at (segment_begun f.0 (drop (i + 1) m))),
        rw one at (subst (λ (l : List Item). has_fnc1 (take 1 l) ≡ false) (sym is) refl),
      )

  -- The plan says whether a segment ends.
  ends_are : (m : List Item) (s : Step) → IsRightStep setting m s → s.segment_ends
      ≡ nat_le (parts_cost setting m) (bytes_cost m)
  ends_are m s r = grind (arith, nat_tests, nat_le, parts_cost, segment_are)

  -- Bytes and one more.
  byte_more : (a : List Item) (b : ℕ) → has_fnc1 a ≡ false → has_fnc1 (a ++ Byte b ∷ []) ≡ false
  byte_more [] b none = refl
  byte_more (Byte c ∷ a) b none = byte_more a b none
  byte_more (Fnc1 ∷ a) b none = absurd cc

  -- Where a segment goes on, items are left.
  some_left : (l : List Item) → setting.behind ≤ most_behind → bytes_cost l < parts_cost setting l → 0 < length l
  unfolding row
  some_left [] less_behind lt = absurd (omega (arith, lt, less_behind))
  some_left (x ∷ l) less_behind lt = omega arith

  -- Where a segment goes on, there is a byte more.
  pub record GoesOver (m : List Item) (from i : ℕ) : Type 0 where
    pub there : i < length m
    pub so_far : IsSegmentSoFar (drop from m) (drop (i + 1) m) (i + 1 - from)
    pub bytes : has_fnc1 (take (i + 1 - from) (drop from m)) ≡ false

  pub byte_at : (m : List Item) (from i : ℕ) (d : Item) (s : Step) → length m ≤ 3123 → setting.behind ≤ most_behind
      → from ≤ i → i ≤ length m
      → IsRightStep setting (drop i m) s → s.segment_ends ≡ false
      → IsSegmentSoFar (drop from m) (drop i m) (i - from) → has_fnc1 (take (i - from) (drop from m)) ≡ false
      → GoesOver m from i
  byte_at m from i d s few less_behind le within right goes so_far bytes =
      let lt : bytes_cost (drop i m) < parts_cost setting (drop i m) =
      less (nat_le (parts_cost setting (drop i m)) (bytes_cost (drop i m))) refl (sym (ends_are (drop i m) s right)
      ∙ goes) in
      let some : 0 < length (drop i m) = some_left (drop i m) less_behind lt in
      let there : i < length m = omega (arith, some, length-drop i m) in
      let cons : drop i m ≡ get_or m i d ∷ drop (i + 1) m = at_drop_more (λ (l : List Item). l) m i d there in
      let small : parts_cost setting (drop i m) < never =
      omega (
        arith,
        (row_within setting (drop i m) (omega (arith, few, length-drop i m)) less_behind).ascii,
        length-drop i m,
        few,
      ) in
      let next = byte_next (get_or m i d) (drop (i + 1) m) (rw cons at lt) (rw cons at small) in
      let is : drop i m ≡ Byte next.0 ∷ drop (i + 1) m = cons ∙ ap (λ (x : Item). x ∷ drop (i + 1) m) next.1 in
      let k : (i - from) + 1 ≡ i + 1 - from = omega (arith, le) in
      let more : take (i - from) (drop from m) ++ Byte next.0 ∷ [] ≡ take (i + 1 - from) (drop from m) =
      ap (λ (x : Item). take (i - from) (drop from m) ++ x ∷ []) (sym next.1) ∙ one_more m from i d le there in
      record {
        there = there;
        so_far = subst (λ (n : ℕ). IsSegmentSoFar (drop from m) (drop (i + 1) m) n) k
            (segment_more (drop from m) next.0 (i - from) (drop (i + 1) m) (rw is at so_far) (rw is at lt));
        bytes = rw more at (byte_more (take (i - from) (drop from m)) next.0 bytes);
      } where
        less : (t : Bool) → nat_le (parts_cost setting (drop i m)) (bytes_cost (drop i m)) ≡ t → t ≡ false
            → bytes_cost (drop i m) < parts_cost setting (drop i m)
        less true e f = absurd cc
        less false e f = grind (arith, nat_tests)

  -- Where a segment ends, its cost is that of its field, its bytes and what follows.
  pub ended_at : (m : List Item) (from i : ℕ) (s : Step) → IsRightStep setting (drop i m) s → s.segment_ends ≡ true
      → IsSegmentSoFar (drop from m) (drop i m) (i - from)
      → segment_cost (going_from setting (drop from m)).segment.bytes (going_from setting (drop from m)).segment.near
      ≡ 1 + length (length_numbers (i - from)) + (i - from) + parts_cost setting (drop i m)
  ended_at m from i s right ends so_far =
      grind (arith, nat_tests, segment_are, bytes_cost, ends_are, short_numbers, long_numbers, near_of)

  -- A segment up to the end of the symbol has all items, and nothing follows them.
  pub rest_is : (m : List Item) → (going_from setting m).segment.rest < never
      → (has_fnc1 m ≡ false) × ((going_from setting m).segment.rest ≡ length m) × (setting.behind ≡ 0)
  rest_is [] small = grind (arith, nat_tests, cond, never, rest_behind)
  rest_is (Fnc1 ∷ m) small = absurd (omega (arith, small))
  rest_is (Byte b ∷ m) small =
      let same : (row setting m).segment.rest ≡ (going_from setting m).segment.rest =
      ap (λ (t : Bytes). t.rest) (segment_are m) in
      let h = rest_is m (omega (arith, small, same)) in
      (h.0, omega (arith, small, same, h.1), h.2)
