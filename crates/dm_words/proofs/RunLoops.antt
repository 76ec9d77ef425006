-- The loops that read the pairs and the items of a run.
use Rattle.dm_words.proofs.Names.{◌≡◌, ℕ, ◌+◌, ◌-◌, ◌<◌, ◌≤◌, List, [], ◌∷◌, ◌++◌, length, take, drop, sym, ap, ◌∙◌}
use Rattle.dm_words.proofs.Names.{append_assoc, arith, Option, All, append-nil, length-drop, drop-drop, take_all}
use Rattle.dm_words.proofs.Names.{All-drop, All-append, IsRunValue, CodeSet, PairsEnd, Extent, Item, WordFault, Takes}
use Rattle.dm_words.proofs.Names.{Stops, Walked, and_before, flat, first_pair, first_spelling, pairs_in, items_in}
use Rattle.dm_words.proofs.Names.{run_fault, run_unless, end_length}
use Rattle.std.proofs.lemmas.List.Elements.{All-head, All-cons, All-nil}
use Rattle.dm_words.specs.declared.c40.pair.PairsEnd.TheVariants as stop
use Rattle.dm_words.specs.declared.c40.value.Rest.{Rest}
use Rattle.dm_words.specs.declared.c40.value.Rest.TheVariants as left
use Rattle.dm_words.specs.inner.Scan.Prefixes.{pairs_from, items_from, run_behind}
use Rattle.dm_words.proofs.Walks.{walk_all-takes, walk_all-stops}
use Rattle.dm_words.proofs.Values.{ItemRight, Anything, item_sound}
use Rattle.dm_words.proofs.Pairs.{IsBytes, IsBytes-drop, PairRight, pair_sound}

-- What was read so far, and what the rest gives, are together what the whole gives.
pub record GoesOn {A : Type 0} {S : Type 0} (total : List A) (prefix : List A) (rest : List A) (place : ℕ) (why : S)
    (total_place : ℕ) (total_why : S) : Type 0 where
  pub values : total ≡ prefix ++ rest
  pub place_is : total_place ≡ place
  pub why_is : total_why ≡ why

-- What the pairs before an index gave, and the pairs from there on, are the pairs of the words.
abbrev pub PairsGoOn : List ℕ → Walked (List ℕ) PairsEnd → List ℕ → ℕ → Type 0
PairsGoOn words total prefix at =
    GoesOn (flat total.taken) prefix (flat (pairs_from at (drop at words)).taken)
    (pairs_from at (drop at words)).place (pairs_from at (drop at words)).why total.place total.why

-- After a turn of the loop over the pairs, the pairs of the words are still the same.
pub pairs_turn : (words : List ℕ) (at a b d : ℕ) (old new : List ℕ) (total : Walked (List ℕ) PairsEnd) → IsBytes words
    → at ≤ length words → first_pair at (drop at words) ≡ Takes 2 (a ∷ b ∷ d ∷ [])
    → new ≡ old ++ a ∷ b ∷ d ∷ [] → PairsGoOn words total old at
    → PairsGoOn words total new (at + 2) × (at + 2 ≤ length words)
pairs_turn words at a b d old new total fit le e is so_far =
    let r = pair_sound.right at (drop at words) 2 (a ∷ b ∷ d ∷ []) (IsBytes-drop at words fit) e in
    let one =
    walk_all-takes first_pair PairRight IsBytes stop.SymbolEnd pair_sound at (drop at words) 2 (a ∷ b ∷ d ∷ [])
    (IsBytes-drop at words fit) e in
    let rest : drop 2 (drop at words) ≡ drop (at + 2) words = drop-drop 2 at words in
    let two : pairs_from at (drop at words) ≡ and_before (a ∷ b ∷ d ∷ []) (pairs_from (at + 2) (drop (at + 2) words)) =
    cc in
    let before = rw two at so_far in
    let joined : old ++ ((a ∷ b ∷ d ∷ []) ++ flat (pairs_from (at + 2) (drop (at + 2) words)).taken) ≡ new
    ++ flat (pairs_from (at + 2) (drop (at + 2) words)).taken = rw is (simp append_assoc) in (
      record { values = before.values ∙ joined; place_is = before.place_is; why_is = before.why_is },
      omega (arith, r.2, length-drop at words),
    )

-- What was read is what the whole gives.
pub record Stopped {A S : Type 0} (total prefix : List A) (at : ℕ) (why : S) (total_place : ℕ) (total_why : S) : Type
    0 where
  pub values : prefix ≡ total
  pub place_is : at ≡ total_place
  pub why_is : why ≡ total_why

-- At the end of the loop over the pairs, all pairs were read.
pub pairs_stop : (words : List ℕ) (at : ℕ) (old : List ℕ) (t : PairsEnd) (total : Walked (List ℕ) PairsEnd)
    → first_pair at (drop at words) ≡ Stops t → PairsGoOn words total old at
    → Stopped (flat total.taken) old at t total.place total.why
pairs_stop words at old t total e so_far =
    let one = walk_all-stops first_pair PairRight IsBytes stop.SymbolEnd at (drop at words) t e in
    let before = rw one at so_far in
    record { values = sym (before.values ∙ append-nil old); place_is = sym before.place_is; why_is = sym before.why_is }

-- What the values before an index gave, and the items from there on, are the items of the values.
abbrev pub ItemsGoOn : CodeSet → List ℕ → List Item → Walked Item Rest → List Item → ℕ → Type 0
ItemsGoOn set values first total prefix at =
    GoesOn (first ++ total.taken) prefix (items_from set at (drop at values)).taken
    (items_from set at (drop at values)).place (items_from set at (drop at values)).why total.place total.why

-- After a turn of the loop over the items, the items of the values are still the same.
pub items_turn : (set : CodeSet) (values : List ℕ) (at n : ℕ) (item : Item) (first old new : List Item)
    (total : Walked Item Rest) → at ≤ length values → first_spelling set at (drop at values) ≡ Takes n item
    → new ≡ old ++ item ∷ [] → ItemsGoOn set values first total old at
    → ItemsGoOn set values first total new (at + n) × (0 < n) × (at + n ≤ length values)
items_turn set values at n item first old new total le e is so_far =
    let r = (item_sound set).right at (drop at values) n item tt e in
    let one =
    walk_all-takes (first_spelling set) (ItemRight set) Anything left.Complete (item_sound set) at
    (drop at values) n item tt e in
    let rest : drop n (drop at values) ≡ drop (at + n) values = drop-drop n at values in
    let two : items_from set at (drop at values) ≡ and_before item (items_from set (at + n) (drop (at + n) values)) =
    one ∙ ap (λ (ws : List ℕ). and_before item (items_from set (at + n) ws)) rest in
    let before = rw two at so_far in
    let joined : old ++ (item ∷ (items_from set (at + n) (drop (at + n) values)).taken) ≡ new
    ++ (items_from set (at + n) (drop (at + n) values)).taken = rw is (simp append_assoc) in (
      record { values = before.values ∙ joined; place_is = before.place_is; why_is = before.why_is },
      r.1,
      omega (arith, r.2, length-drop at values),
    )

-- At the end of the loop over the items, all items were read.
pub items_stop : (set : CodeSet) (values : List ℕ) (at : ℕ) (first old : List Item) (k : Rest)
    (total : Walked Item Rest) → first_spelling set at (drop at values) ≡ Stops k
    → ItemsGoOn set values first total old at
    → Stopped (first ++ total.taken) old at k total.place total.why
items_stop set values at first old k total e so_far =
    let one = walk_all-stops (first_spelling set) (ItemRight set) Anything left.Complete at (drop at values) k e in
    let before = rw one at so_far in
    record { values = sym (before.values ∙ append-nil old); place_is = sym before.place_is; why_is = sym before.why_is }

-- What stands behind a latch at a place is known from what the two loops found in the words behind it.
pub run_is : (extent : Extent) (set : CodeSet) (place : ℕ) (words values : List ℕ) (count : ℕ) (t : PairsEnd)
    (read : ℕ) (k : Rest) (f : Option WordFault)
    → (let part = take (length words - place) (drop place words) in (values ≡ flat (pairs_in part).taken) × (count
    ≡ (pairs_in part).place) × (t ≡ (pairs_in part).why))
    → read ≡ (items_in set values).place → k ≡ (items_in set values).why → run_fault extent place count t read k ≡ f
    → run_behind extent set place (drop place words)
    ≡ run_unless f (1 + count + end_length t) (items_in set values).taken
unfolding run_behind
run_is extent set place words values count t read k f pairs r kk e = grind (arith, take_all, length-drop, pairs_in)

-- The number at an index of numbers below 40 is below 40.
pub small_at : (values more : List ℕ) (at v : ℕ) → All IsRunValue values → drop at values ≡ v ∷ more → v < 40
small_at values more at v small e =
    All-head IsRunValue v more (let d = All-drop IsRunValue at values small in rw e at d)

-- Numbers below 40 and three more are below 40.
pub small_more : (old new : List ℕ) (a b d : ℕ) → new ≡ old ++ a ∷ b ∷ d ∷ [] → All IsRunValue old → a < 40 → b < 40
    → d < 40 → All IsRunValue new
small_more old new a b d is h la lb ld =
    rw is (All-append IsRunValue old (a ∷ b ∷ d ∷ []) h
    (All-cons IsRunValue a (b ∷ d ∷ []) la
    (All-cons IsRunValue b (d ∷ []) lb (All-cons IsRunValue d [] ld (All-nil IsRunValue)))))
