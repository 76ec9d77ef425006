-- The loop that reads the groups of a run of EDIFACT, and the ways in which a group ends.
use Rattle.dm_words.proofs.Names.{◌≡◌, ◌≢◌, ℕ, ◌+◌, ◌-◌, ◌<◌, ◌≤◌, List, [], ◌∷◌, ◌++◌, length, map, drop, get_or}
use Rattle.dm_words.proofs.Names.{refl, sym, ap, ◌∙◌, append_assoc, add-one, arith, length-append, Some, None}
use Rattle.dm_words.proofs.Names.{append-nil, length-drop, map-append, drop-cons, Item, Byte, edifact_byte}
use Rattle.dm_words.proofs.Names.{group_values, group_by, edifact_items, nat_tests}
use Rattle.dm_words.specs.inner.Scan.Prefixes.{edifact_run}
use Rattle.dm_words.specs.inner.Scan.Results.{IsGroupTaken}
use Rattle.dm_words.proofs.SegmentLoops.{byte_items-append}
use Rattle.dm_words.proofs.Groups.{is_not, border_found}

-- ---- the exits of the function that reads a group

module _ (v w x y : ℕ) (old : List Item) (i : Item) (first_is : i
    ≡ Byte (edifact_byte v)) (one : List Item) (one_is : one ≡ old ++ i ∷ []) (ne : v ≢ 31) where
  -- The group ends behind its first value.
  pub ends_second : w ≡ 31 → IsGroupTaken (Some 2) old one (v ∷ w ∷ x ∷ y ∷ [])
  ends_second is = (v ∷ [], (λ rest. rw (is_not v ne, is) refl), rw first_is at one_is, omega arith)

  module _ (j : Item) (second_is : j ≡ Byte (edifact_byte w)) (two : List Item) (two_is : two ≡ one
      ++ j ∷ []) (ne2 : w ≢ 31) where
    -- Two characters were added.
    two_items : two ≡ old ++ edifact_items (v ∷ w ∷ [])
    two_items = grind (arith, nat_tests, append_assoc, edifact_byte)

    -- The group ends behind its second value.
    pub ends_third : x ≡ 31 → IsGroupTaken (Some 3) old two (v ∷ w ∷ x ∷ y ∷ [])
    ends_third is = (v ∷ w ∷ [], (λ rest. rw (is_not v ne, is_not w ne2, is) refl), two_items, omega arith)

    module _ (k : Item) (third_is : k ≡ Byte (edifact_byte x)) (three : List Item) (three_is : three ≡ two
        ++ k ∷ []) (ne3 : x ≢ 31) where
      -- Three characters were added.
      three_items : three ≡ old ++ edifact_items (v ∷ w ∷ x ∷ [])
      three_items = grind (arith, nat_tests, two_items, append_assoc, edifact_items, edifact_byte)

      -- The group ends behind its third value.
      pub ends_fourth : y ≡ 31 → IsGroupTaken (Some 3) old three (v ∷ w ∷ x ∷ y ∷ [])
      ends_fourth is =
          (v ∷ w ∷ x ∷ [], (λ rest. rw (is_not v ne, is_not w ne2, is_not x ne3, is) refl), three_items, omega arith)

      module _ (l : Item) (fourth_is : l ≡ Byte (edifact_byte y)) (four : List Item) (four_is : four ≡ three
          ++ l ∷ []) (ne4 : y ≢ 31) where
        -- The group is whole.
        pub is_whole : IsGroupTaken None old four (v ∷ w ∷ x ∷ y ∷ [])
        is_whole = grind (arith, nat_tests, is_not, three_items, append_assoc, edifact_items, edifact_byte)

-- ---- the loop

-- What was read from an index on so far, and the run from the next index on, are together the run from the first index
-- on.
pub record GroupsGoOn (words : List ℕ) (start : ℕ) (first old : List Item) (next : ℕ) : Type 0 where
  pub items : first ++ edifact_items (edifact_run (drop start words)).1 ≡ old
      ++ edifact_items (edifact_run (drop next words)).1
  pub count : start + (edifact_run (drop start words)).0 ≡ next + (edifact_run (drop next words)).0

-- The words from an index on begin with the word there.
first_of : (words : List ℕ) (k : ℕ) → k < length words → drop k words ≡ get_or words k 0 ∷ drop (k + 1) words
first_of words k lt = drop-cons words k 0 lt ∙ ap (λ (j : ℕ). get_or words k 0 ∷ drop j words) (sym (add-one k))

-- Where three words are left, the run begins with their group.
group_first : (words : List ℕ) (next : ℕ) → next + 2 < length words
    → edifact_run (drop next words)
    ≡ group_by (group_values (get_or words next 0) (get_or words (next + 1) 0) (get_or words (next + 2) 0))
    (edifact_run (drop (next + 3) words))
unfolding edifact_run
group_first words next lt = grind (arith, first_of, edifact_run)

-- The items of values, joined, are those of each, joined.
edifact_items-append : (a b : List ℕ) → edifact_items (a ++ b) ≡ edifact_items a ++ edifact_items b
edifact_items-append a b = grind (arith, nat_tests, map-append, edifact_byte, byte_items-append, map)

module _ (words : List ℕ) (start next : ℕ) (first old new : List Item)
    (so_far : GroupsGoOn words start first old next) where
  -- Where at most two words are left, the run ends.
  pub border_ends : length words - next ≤ 2
      → (start + (edifact_run (drop start words)).0 ≡ next) × (old ≡ first
      ++ edifact_items (edifact_run (drop start words)).1)
  border_ends le = grind (arith, nat_tests, edifact_run, border_found, length-drop, append-nil)

  module _ (lt : next + 2 < length words) where
    -- The values of the next group.
    abbrev group : List ℕ
    group = group_values (get_or words next 0) (get_or words (next + 1) 0) (get_or words (next + 2) 0)

    -- A group that ends the run ends it.
    pub group_ends : (n : ℕ) → IsGroupTaken (Some n) old new group
        → (start + (edifact_run (drop start words)).0 ≡ next + n) × (new ≡ first
        ++ edifact_items (edifact_run (drop start words)).1) × (n ≤ 3)
    group_ends n took = grind (arith, nat_tests, group_first, edifact_run)

    -- After a whole group, the run is still the same.
    pub group_goes_on : IsGroupTaken None old new group
        → GroupsGoOn words start first new (next + 3) × (length new ≡ length old + 4)
    group_goes_on took =
        grind (arith, nat_tests, group_first, group, edifact_items-append, append_assoc, length-append)
