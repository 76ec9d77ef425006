-- Messages and their numbers.
use Rattle.ecc200_calls.proofs.Names.{◌≡◌, ◌⊎◌, inl, inr, ℕ, ◌<◌, ◌≤◌, List, [], ◌∷◌, Bool, true, ◌&&◌, nat_le, Option}
use Rattle.ecc200_calls.proofs.Names.{Some, None, IsSome, refl, ◌∙◌, ap, arith, All, AllByRecursion, list_all}
use Rattle.ecc200_calls.proofs.Names.{AllPass-from_list_all, recursion_from_All, All-from_recursion, and_parts}
use Rattle.ecc200_calls.proofs.Names.{cases_lt, false≢true, leb-true, Item, SizeChoice, IsItem, IsMessage, SizeEntry}
use Rattle.ecc200_calls.proofs.Names.{entry_for, most_data, takes, at_found, found_passes, map, number_of}
use Rattle.ecc200_calls.proofs.Names.{All-from_get_or, get_or, get_or-map, length, length-map, map, sym}
use Rattle.dm_symbol.specs.declared.Item.TheVariants.{Byte, Fnc1}
use Rattle.ecc200_calls.specs.Items.{IsFirstForeign}
use Rattle.std.specs.List.{AllWithin, HoldsAt}
use Rattle.std.specs.Prelude.{IfNone, IfSome, MatchOption}
use Rattle.dm_layout.specs.symbols.Sizes.{size_table}

-- A number up to 256 is that of an item.
item_there : (number : ℕ) → number ≤ 256 → (item : Item) × IsItem item × (number_of item ≡ number)
item_there number few = by_case (cases_lt number 256)
  where
    by_case : (number < 256) ⊎ (256 ≤ number) → (item : Item) × IsItem item × (number_of item ≡ number)
    by_case (inl h) = (Byte number, h, refl)
    by_case (inr h) = (Fnc1, omega arith, omega (arith, h, few))

-- Numbers up to 256 are those of items.
items_there : (numbers : List ℕ) → AllByRecursion (λ number. number ≤ 256) numbers →
    (m : List Item) × AllByRecursion IsItem m × (map number_of m ≡ numbers)
items_there [] h = ([], tt, refl)
items_there (number ∷ rest) h =
    let first = item_there number h.0 in
    let others = items_there rest h.1 in (
      first.0 ∷ others.0,
      (first.1, others.1),
      ap (λ x. x ∷ map number_of others.0) first.2
          ∙ ap (λ xs. number ∷ xs) others.2,
    )

-- Numbers up to 256 are those of a message.
pub message_there : (numbers : List ℕ) → All (λ number. number ≤ 256) numbers →
    (m : List Item) × IsMessage m × (map number_of m ≡ numbers)
message_there numbers h =
    let there = items_there numbers (recursion_from_All (λ number. number ≤ 256) numbers h) in
    (there.0, All-from_recursion IsItem there.0 there.1, there.2)

-- Each size has at most as many data codewords as the largest.
few_data : list_all (λ size. nat_le size.data_count most_data) size_table ≡ true
unfolding size_table
few_data = refl

-- A size that is found has room for the codewords.
pub room_in : (choice : SizeChoice) (count : ℕ) (o : Option SizeEntry) → entry_for choice count ≡ o → IsSome o
    → count ≤ most_data
room_in choice count None e some = absurd (false≢true some)
room_in choice count (Some size) e some =
    let test : SizeEntry → Bool = λ s. takes choice s && nat_le count s.data_count in
    let both = and_parts (takes choice size) (nat_le count size.data_count) (found_passes test size_table size e) in
    let most =
    at_found (λ s. nat_le s.data_count most_data ≡ true) test size_table size
    (recursion_from_All (λ s. nat_le s.data_count most_data ≡ true) size_table
    (AllPass-from_list_all (λ s. nat_le s.data_count most_data) size_table few_data)) e in
    omega (arith, leb-true _ _ both.1, leb-true _ _ most)

-- ---- what stands for items, by its numbers

module _ {N : Type 0} (f : N → ℕ) where
  -- The number at a place is that of what stands there.
  pub number_at : (xs : List N) (i : ℕ) (x : N) → x ≡ get_or xs i x → i < length xs → get_or (map f xs) i 0 ≡ f x
  number_at xs i x is inside = get_or-map f xs i x 0 inside ∙ ap f (sym is)

  -- The first that stands for no item has the first such number.
  first_by_number : (xs : List N) (i : ℕ) → i < length xs → HoldsAt (λ x. 256 < f x) xs i
      → AllWithin (λ x. f x ≤ 256) xs 0 i → IsFirstForeign (map f xs) i
  first_by_number [] i inside foreign before = absurd (omega (arith, inside))
  first_by_number (x ∷ xs) i inside foreign before = record {
    inside = rw length-map inside;
    foreign = rw (get_or-map f (x ∷ xs) i x 0 inside) (foreign x);
    first = λ j h. rw (get_or-map f (x ∷ xs) j x 0 (omega (arith, inside, h))) (before j x (omega arith) h);
  }

  -- Where all stand for items, all numbers do.
  all_by_number : (xs : List N) → AllWithin (λ x. f x ≤ 256) xs 0 (length xs)
      → All (λ number. number ≤ 256) (map f xs)
  all_by_number [] each = All-from_get_or (λ number. number ≤ 256) [] 0 (λ i inside. absurd (omega (arith, inside)))
  all_by_number (x ∷ xs) each =
      All-from_get_or (λ number. number ≤ 256) (map f (x ∷ xs)) 0
      (λ i inside.
      let within : i < length (x ∷ xs) = rw length-map at inside in
      rw (get_or-map f (x ∷ xs) i x 0 within) (each i x (omega arith) within))

  -- So a search tells which number is the first, or that all are those of items.
  pub first_told : (found : Option ℕ) (xs : List N)
      → MatchOption found (AllWithin (λ x. f x ≤ 256) xs 0 (length xs))
      (λ i. (i < length xs) × HoldsAt (λ x. 256 < f x) xs i × AllWithin (λ x. f x ≤ 256) xs 0 i)
      → IfSome found (IsFirstForeign (map f xs)) × IfNone found (All (λ number. number ≤ 256) (map f xs))
  first_told None xs h = (tt, all_by_number xs h)
  first_told (Some i) xs h = (first_by_number xs i h.0 h.1 h.2, tt)
