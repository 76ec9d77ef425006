-- The costs of the definition obey the rules.
use Rattle.dm_words.proofs.Names.{◌≡◌, ◌⊎◌, inl, inr, ℕ, zero, suc, ◌+◌, ◌*◌, ◌/◌, ◌%◌, ◌<◌, ◌≤◌, List, [], ◌∷◌, ◌++◌}
use Rattle.dm_words.proofs.Names.{length, refl, ap, arith, Bool, true, cond, ltb, nat_le, ◌&&◌, min}
use Rattle.dm_words.proofs.Names.{cases_lt, nat_tests, Item, Byte, CodeSet, C40, Text, X12, Pairs, Going, Row}
use Rattle.dm_words.proofs.Names.{Begin, One, Two, Run, Rest, is_digit, byte_items, never, unit_cost}
use Rattle.dm_words.proofs.Names.{set_values, values_before, stay, leave, or_leave, is_digit_item, digit_first}
use Rattle.dm_words.proofs.Names.{segment_cost, going_over, cost_of, least, parts_cost, Setting}
use Rattle.dm_words.specs.inner.Costs.{owed, value_before, row, row_pairs}
use Rattle.dm_words.proofs.LowerBounds.{leave_bounds, AreCosts}

-- ---- what is owed in a run

owed_value : (r : ℕ) (p : Pairs) → owed r (value_before p) ≡ owed (suc r) p
unfolding owed
owed_value zero p = refl
owed_value (suc zero) p = refl
owed_value (suc (suc zero)) p = refl
owed_value (suc (suc (suc r))) p = ap (λ (n : ℕ). 2 + n) (owed_value r p)

pub owed_values : (k r : ℕ) (p : Pairs) → owed r (values_before k p) ≡ owed (r + k) p
owed_values zero r p = let e : r + 0 ≡ r = omega arith in rw e refl
owed_values (suc k) r p = grind (arith, nat_tests, owed_value, values_before, owed, owed_values k (suc r) p)

owed_whole : (q : ℕ) (p : Pairs) → owed (3 * q) p ≡ 2 * q + p.none
unfolding owed
owed_whole zero p = omega arith
owed_whole (suc q) p =
    let e : 3 * suc q ≡ suc (suc (suc (3 * q))) = omega arith in
    let here : owed (3 * suc q) p ≡ 2 + owed (3 * q) p = ap (λ (n : ℕ). owed n p) e in
    omega (arith, here, owed_whole q p)

-- Each cost is at most another.
abbrev AtMost : Pairs → Pairs → Type 0
AtMost p o = (p.none ≤ o.none) × (p.one ≤ o.one) × (p.two ≤ o.two)

owed_most : (r : ℕ) (p o : Pairs) → AtMost p o → owed r p ≤ owed r o
unfolding owed
owed_most zero p o le = le.0
owed_most (suc zero) p o le = omega (arith, le.1)
owed_most (suc (suc zero)) p o le = omega (arith, le.2)
owed_most (suc (suc (suc r))) p o le = omega (arith, owed_most r p o le)

or_leave_most : (cost : ℕ) (going : Pairs) → AtMost (or_leave cost going) going
or_leave_most cost going = (omega arith, omega arith, omega arith)

pub stay_is : (k : ℕ) (next : Pairs) → 0 < k → stay k next ≡ values_before k next
stay_is k next h1 = grind (arith, nat_tests)

-- ---- the row

-- The least is at most each.
pub is_least : (item : Item) (pair : Bool) (next : Row) (going : Going) (begin : Begin)
    → least item pair next going ≤ cost_of item pair next going begin
is_least item pair next going begin = grind (arith, nat_tests)

module _ (setting : Setting) where
  -- The costs where runs go on over an item.
  abbrev pub going : CodeSet → Item → List Item → Pairs
  going set x m = stay (set_values set x) (row_pairs set (row setting m))

  abbrev pub is_pair : Item → List Item → Bool
  is_pair x m = is_digit_item x && digit_first m

  pub least_is : (x : Item) (m : List Item) (begin : Begin)
      → parts_cost setting (x ∷ m)
      ≤ cost_of x (is_pair x m) (row setting m) (going_over setting.extent x (row setting m)) begin
  unfolding row
  least_is x m begin = is_least x (is_pair x m) (row setting m) (going_over setting.extent x (row setting m)) begin

  -- The costs of a run are those of going on, or of leaving.
  pub pairs_is : (set : CodeSet) (x : Item) (m : List Item) → row_pairs set (row setting (x ∷ m))
      ≡ or_leave (parts_cost setting (x ∷ m)) (going set x m)
  unfolding row
  pairs_is set x m = grind (arith, nat_tests)

  -- A run that ends costs no more than leaving it.
  pairs_leave : (set : CodeSet) (m : List Item) → (row_pairs set (row setting m)).none ≤ leave 1 (parts_cost setting m)
  unfolding row
  pairs_leave C40 [] = omega arith
  pairs_leave Text [] = omega arith
  pairs_leave X12 [] = omega arith
  pairs_leave set (x ∷ m) = rw (pairs_is set x m) (omega arith)

  run_begins : (set : CodeSet) (x : Item) (m : List Item) → parts_cost setting (x ∷ m) ≤ 1 + (going set x m).none
  run_begins C40 x m = least_is x m (Run C40)
  run_begins Text x m = least_is x m (Run Text)
  run_begins X12 x m = least_is x m (Run X12)

  -- What a run of a set owes from here on.
  abbrev pub owes : CodeSet → ℕ → List Item → ℕ
  owes set r m = owed r (row_pairs set (row setting m))

  -- Behind the last item the cost is that of what follows.
  pub nothing_costs : parts_cost setting [] ≡ setting.behind
  unfolding row
  nothing_costs = refl

  none_begins : (set : CodeSet) → setting.behind ≤ never → parts_cost setting [] ≤ 1 + owes set 0 []
  unfolding owed row
  none_begins set h1 = grind (arith, nat_tests, leave_bounds)

  pub begins : setting.behind ≤ never → (set : CodeSet) (m : List Item) → parts_cost setting m ≤ 1 + owes set 0 m
  unfolding owed
  begins small set [] = none_begins set small
  begins small set (x ∷ m) =
      rw (pairs_is set x m) (omega (arith, run_begins set x m, (leave_bounds 1 (parts_cost setting (x ∷ m))).0))

  goes : (set : CodeSet) (r : ℕ) (x : Item) (m : List Item) → 0 < set_values set x
      → owes set r (x ∷ m) ≤ owes set (r + set_values set x) m
  goes set r x m some =
      let k = set_values set x in
      let next = row_pairs set (row setting m) in
      let most =
      owed_most r (or_leave (parts_cost setting (x ∷ m)) (going set x m)) (going set x m)
      (or_leave_most (parts_cost setting (x ∷ m)) (going set x m)) in
      let here : owed r (row_pairs set (row setting (x ∷ m)))
      ≡ owed r (or_leave (parts_cost setting (x ∷ m)) (going set x m)) = ap (owed r) (pairs_is set x m) in
      let stays : owed r (going set x m) ≡ owed (r + k) next = cc (stay_is k next some, owed_values k r next) in
      omega (arith, most, here, stays)

  ends : (set : CodeSet) (q : ℕ) (m : List Item) → owes set (3 * q) m ≤ 2 * q + leave 1 (parts_cost setting m)
  ends set q m = omega (arith, owed_whole q (row_pairs set (row setting m)), pairs_leave set m)

  -- ---- segments

  pub second_is : (x : Item) (m : List Item) → (row setting (x ∷ m)).second ≡ parts_cost setting m
  unfolding row
  second_is x m = refl

  pair : (n : ℕ) (m : List Item) → n < 100
      → parts_cost setting (Byte (48 + n / 10) ∷ Byte (48 + n % 10) ∷ m) ≤ 1 + parts_cost setting m
  pair n m lt =
      let a : is_digit (48 + n / 10) ≡ true = grind (arith, nat_tests) in
      let b : is_digit (48 + n % 10) ≡ true = grind (arith, nat_tests) in
      let l = least_is (Byte (48 + n / 10)) (Byte (48 + n % 10) ∷ m) Two in
      omega (arith, (rw (a, b) at l), second_is (Byte (48 + n % 10)) m)

  abbrev bytes_cost : List Item → ℕ
  bytes_cost m = (row setting m).segment.bytes

  abbrev near_of : List Item → ℕ
  near_of m = (row setting m).segment.near

  pub bytes_is : (b : ℕ) (m : List Item) → bytes_cost (Byte b ∷ m) ≡ 1 + min (parts_cost setting m) (bytes_cost m)
  unfolding row
  bytes_is b m = refl

  near_is : (b : ℕ) (m : List Item) → near_of (Byte b ∷ m)
      ≡ cond (nat_le (parts_cost setting m) (bytes_cost m)) 1 (1 + near_of m)
  unfolding row
  near_is b m = refl

  -- Whether the next place ends the segment.
  pub near_cases : (b : ℕ) (m : List Item)
      → ((parts_cost setting m ≤ bytes_cost m) × (near_of (Byte b ∷ m) ≡ 1)) ⊎
      ((bytes_cost m < parts_cost setting m) × (near_of (Byte b ∷ m) ≡ 1 + near_of m))
  near_cases b m = grind (arith, nat_tests, nat_le, parts_cost, bytes_cost, near_of, near_is)

  -- A segment of some bytes costs at least this, and more before the place that is near.
  near : (b : ℕ) (bs : List ℕ) (m : List Item)
      → (bytes_cost (byte_items (b ∷ bs) ++ m) ≤ length (b ∷ bs) + parts_cost setting m)
      × (length (b ∷ bs) < near_of (byte_items (b ∷ bs) ++ m)
      → bytes_cost (byte_items (b ∷ bs) ++ m) < length (b ∷ bs) + parts_cost setting m)
  near b [] m = grind (arith, nat_tests, near_cases, bytes_is)
  near b (d ∷ bs) m = grind (arith, nat_tests, byte_items, near_cases, bytes_is, near d bs m)

  segment_most : (b : ℕ) (m : List Item)
      → (parts_cost setting (Byte b ∷ m) ≤ 3 + bytes_cost (Byte b ∷ m)) × (near_of (Byte b ∷ m) ≤ 249
      → parts_cost setting (Byte b ∷ m) ≤ 2 + bytes_cost (Byte b ∷ m))
  unfolding row
  segment_most b m = grind (arith, nat_tests, nat_le, near_of, least_is, parts_cost, cond, bytes_cost)

  any_segment : (bytes : List ℕ) (m : List Item) → 0 < length bytes
      → parts_cost setting (byte_items bytes ++ m) ≤ 3 + length bytes + parts_cost setting m
  any_segment [] m some = absurd (omega (arith, some))
  any_segment (b ∷ bs) m some = omega (arith, (near b bs m).0, (segment_most b (byte_items bs ++ m)).0)

  short_segment : (bytes : List ℕ) (m : List Item) → 0 < length bytes → length bytes ≤ 249
      → parts_cost setting (byte_items bytes ++ m) ≤ 2 + length bytes + parts_cost setting m
  short_segment [] m some few = absurd (omega (arith, some))
  short_segment (b ∷ bs) m some few =
      elim (cases_lt 249 (near_of (byte_items (b ∷ bs) ++ m))) [
        | inr le ↦ omega (arith, (near b bs m).0, (segment_most b (byte_items bs ++ m)).1 le)
        | inl far ↦ (let l =
            (near b bs m).1 (omega (arith, few, far)) in omega (arith, l, (segment_most b (byte_items bs ++ m)).0))
      ]

  -- Whatever there is costs something.
  some_least : (x : Item) (is_two : Bool) (next : Row) (g : Going) → 0 < least x is_two next g
  some_least x is_two next g = grind (arith, nat_tests, nat_le, unit_cost, ltb, cond, never, segment_cost, least)

  some_cost : (x : Item) (m : List Item) → 0 < parts_cost setting (x ∷ m)
  unfolding row
  some_cost x m = some_least x (is_pair x m) (row setting m) (going_over setting.extent x (row setting m))

  rest_most : setting.behind ≡ 0 → (bs : List ℕ) → (row setting (byte_items bs ++ [])).segment.rest ≤ length bs
  unfolding row
  rest_most none [] = rw none (omega arith)
  rest_most none (b ∷ bs) = omega (arith, rest_most none bs)

  last_all : setting.behind ≡ 0 → (bs : List ℕ) → parts_cost setting (byte_items bs ++ []) ≤ 2 + length bs
  unfolding row
  last_all none [] = omega (arith, none)
  last_all none (b ∷ bs) = omega (arith, least_is (Byte b) (byte_items bs ++ []) Rest, rest_most none (b ∷ bs))

  last_segment : (bytes : List ℕ) (m : List Item) → parts_cost setting m ≤ 0
      → parts_cost setting (byte_items bytes ++ m) ≤ 2 + length bytes
  last_segment bytes [] le = last_all (omega (arith, le, nothing_costs)) bytes
  last_segment bytes (x ∷ m) le = absurd (omega (arith, some_cost x m, le))

  -- The costs of the definition obey the rules of ASCII, C40, Text, X12 and Base 256.
  pub are_costs : setting.behind ≤ never → AreCosts (parts_cost setting) owes
  are_costs small = record {
    unit = λ x m. least_is x m One;
    pair = pair;
    begins = begins small;
    goes = goes;
    ends = ends;
    any_segment = any_segment;
    short_segment = short_segment;
    last_segment = last_segment;
  }
