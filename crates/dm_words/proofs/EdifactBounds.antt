-- No run of EDIFACT is shorter than its cost, whatever the costs are, if they obey the rules of `AreEdifactCosts`.
use Rattle.dm_words.proofs.Names.{◌≡◌, ◌≢◌, ℕ, ◌+◌, ◌*◌, ◌/◌, ◌<◌, ◌≤◌, List, [], ◌∷◌, ◌++◌, length, map, ap}
use Rattle.dm_words.proofs.Names.{arith, cond, ltb, nat_tests, length-append}
use Rattle.dm_words.proofs.Names.{Item, Byte, spelled, gathered, byte_items, edifact_byte, IsEdifactEnd, few_left}
use Rattle.dm_words.proofs.Names.{first, second, third, fourth, IsEdifactRun, leave}
use Rattle.dm_words.proofs.Groups.{NoUnlatch, groups_room}
use Rattle.dm_words.proofs.ItemBytes.{AreSixBits, groups_small, end_small}
use Rattle.dm_words.proofs.LowerBounds.{leave_bounds}
use Rattle.dm_words.proofs.Pieces.{all-append}

-- These are costs: `least` in ASCII; `owed`, in a run of EDIFACT where some values stand whose codewords are owed too.
pub record AreEdifactCosts (least : List Item → ℕ) (owed : ℕ → List Item → ℕ) : Type 0 where
  pub unit : (b : ℕ) (m : List Item) → b < 128 → least (Byte b ∷ m) ≤ 1 + least m
  pub begins : (m : List Item) → least m ≤ 1 + owed 0 m
  pub goes : (r b : ℕ) (m : List Item) → 32 ≤ b → b ≤ 94 → owed r (Byte b ∷ m) ≤ owed (r + 1) m
  pub ends : (q : ℕ) (m : List Item) → owed (4 * q) m ≤ 3 * q + leave 2 (least m)
  pub last : (q : ℕ) (m : List Item) → owed (4 * q + 3) m ≤ 3 * q + 3 + least m

-- The byte of a value is 32 to 94.
value_byte : (v : ℕ) → v < 64 → v ≢ 31 → (32 ≤ edifact_byte v) × (edifact_byte v ≤ 94)
value_byte v lt none = grind (arith, nat_tests, ltb, cond)

module _ (least : List Item → ℕ) (owed : ℕ → List Item → ℕ) (costs : AreEdifactCosts least owed) where
  -- The items of values.
  abbrev texts : List ℕ → List Item
  texts vs = byte_items (map edifact_byte vs)

  telescope : (vs : List ℕ) (r : ℕ) (m : List Item) → AreSixBits vs → NoUnlatch vs
      → owed r (texts vs ++ m) ≤ owed (r + length vs) m
  telescope [] r m small none = let e : r + 0 ≡ r = omega arith in rw e (omega arith)
  telescope (v ∷ vs) r m small none =
      grind (arith, nat_tests, value_byte, edifact_byte, texts, telescope vs (r + 1) m small.1 none.1)

  to_end : (vs : List ℕ) (n : ℕ) (m : List Item) → AreSixBits vs → NoUnlatch vs → length vs ≡ n
      → least (texts vs ++ m) ≤ 1 + owed n m
  to_end vs n m small none e = grind (arith, nat_tests, texts, telescope)

  -- Whole groups.
  whole : (vs : List ℕ) (q : ℕ) (m : List Item) → AreSixBits vs → NoUnlatch vs → length vs ≡ 4 * q
      → least (texts vs ++ m) ≤ 1 + 3 * q + leave 2 (least m)
  whole vs q m small none e = omega (arith, to_end vs (4 * q) m small none e, costs.ends q m)

  -- The first value goes into ASCII.
  front_one : (v : ℕ) (vs : List ℕ) (m : List Item) → v < 64 → v ≢ 31
      → least (texts (v ∷ vs) ++ m) ≤ 1 + least (texts vs ++ m)
  front_one v vs m lt none = grind (arith, nat_tests, value_byte, edifact_byte, texts)

  and_one : (vs : List ℕ) (q : ℕ) (m : List Item) → AreSixBits vs → NoUnlatch vs → length vs ≡ 4 * q + 1
      → least (texts vs ++ m) ≤ 2 + 3 * q + leave 2 (least m)
  and_one [] q m small none e = absurd (omega (arith, e))
  and_one (v ∷ vs) q m small none e = let w =
      whole vs q m small.1 none.1 (omega (arith, e)) in omega (arith, w, front_one v vs m small.0 none.0)

  and_two : (vs : List ℕ) (q : ℕ) (m : List Item) → AreSixBits vs → NoUnlatch vs → length vs ≡ 4 * q + 2
      → least (texts vs ++ m) ≤ 3 + 3 * q + leave 2 (least m)
  and_two [] q m small none e = absurd (omega (arith, e))
  and_two (v ∷ vs) q m small none e = let w =
      and_one vs q m small.1 none.1 (omega (arith, e)) in omega (arith, w, front_one v vs m small.0 none.0)

  -- The run up to its end, which has some codewords and values.
  end_lower : (words after last vs : List ℕ) (q : ℕ) (m : List Item) → IsEdifactEnd words after last → AreSixBits vs
      → NoUnlatch vs → length vs ≡ 4 * q + length last
      → least m ≤ length after → least (texts vs ++ m) ≤ 1 + 3 * q + length words + length after
  end_lower words after last vs q m (few_left w v few) small none e le =
      omega (
        arith,
        whole vs q m small none (omega (arith, e, ap length v)),
        (leave_bounds 2 (least m)).2 (omega (arith, le, few)),
        le,
      )
  end_lower words after last vs q m (first word rest is lt w v two) small none e le =
      omega (
        arith,
        whole vs q m small none (omega (arith, e, ap length v)),
        (leave_bounds 2 (least m)).1,
        le,
        ap length w,
      )
  end_lower words after last vs q m (second high low value rest lh sv is lr w v some) small none e le =
      omega (
        arith,
        and_one vs q m small none (omega (arith, e, ap length v)),
        (leave_bounds 2 (least m)).1,
        le,
        ap length w,
      )
  end_lower words after last vs q m (third one two rest g v) small none e le =
      omega (
        arith,
        and_two vs q m small none (omega (arith, e, ap length v)),
        (leave_bounds 2 (least m)).1,
        le,
        ap length g.words_are,
      )
  end_lower words after last vs q m (fourth one two three g v) small none e le =
      omega (
        arith,
        to_end vs (4 * q + 3) m small none (omega (arith, e, ap length v)),
        costs.last q m,
        le,
        ap length g.words_are,
      )

  -- A run of EDIFACT.
  pub edifact_lower : (words after : List ℕ) (items m : List Item) → IsEdifactRun words after items
      → least m ≤ length after → least (items ++ m) ≤ length words + length after
  edifact_lower words after items m r le =
      let room = groups_room r.groups r.each in
      let vs = gathered r.groups ++ r.last in
      let small : AreSixBits vs =
      all-append (λ v. v < 64) (gathered r.groups) r.last (groups_small r.groups r.each) (end_small _ _ _ r.ended) in
      let q = length (spelled r.groups) / 3 in
      let l : length vs ≡ 4 * q + length r.last = omega (arith, room, length-append (gathered r.groups) r.last) in
      let e = end_lower r.end after r.last vs q m r.ended small r.no_unlatch l le in
      rw r.items_are (omega (arith, e, room, ap length r.whole, length-append (spelled r.groups) r.end))
