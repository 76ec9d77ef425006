-- No list of codewords that spells a message is shorter than its cost, whatever the costs are, if they obey the rules
-- of `AreCosts`.
use Rattle.dm_words.proofs.Names.{◌≡◌, ◌≢◌, inl, inr, ℕ, zero, suc, ◌+◌, ◌-◌, ◌*◌, ◌/◌, ◌%◌, ◌<◌, ◌≤◌, List, [], ◌∷◌}
use Rattle.dm_words.proofs.Names.{◌++◌, length, ap, arith, true, cond, ltb, AllByRecursion, nat_le, cases_lt}
use Rattle.dm_words.proofs.Names.{nat_tests, length-append, Extent, Wide, Item, Byte, CodeSet, Piece, spelled}
use Rattle.dm_words.proofs.Names.{gathered, whats, IsAsciiUnit, IsSpelling, nothing, lone_shift}
use Rattle.dm_words.proofs.Names.{IsRunEnd, IsRun, to_the_end, short, long, IsSegment, byte_items, IsEdifactRun}
use Rattle.dm_words.proofs.Names.{IsPart, run, segment, edifact, set_values, unit_cost, leave}
use Rattle.dm_words.specs.Parts.{ascii}
use Rattle.dm_words.proofs.AsciiWords.{character_is, digits_are}
use Rattle.dm_words.proofs.Runs.{pairs_room}
use Rattle.dm_words.proofs.Segments.{length-written}
use Rattle.dm_words.proofs.Values.{IsDropped}
use Rattle.dm_words.proofs.SpellingCounts.{unit_few, spelling_count, held, Ascii, one, two, three, four}

-- These are costs: `least` in ASCII; `owed`, in a run where some values stand whose codewords are owed too.
pub record AreCosts (least : List Item → ℕ) (owed : CodeSet → ℕ → List Item → ℕ) : Type 0 where
  pub unit : (x : Item) (m : List Item) → least (x ∷ m) ≤ unit_cost x + least m
  pub pair : (n : ℕ) (m : List Item) → n < 100 → least (Byte (48 + n / 10) ∷ Byte (48 + n % 10) ∷ m) ≤ 1 + least m
  pub begins : (set : CodeSet) (m : List Item) → least m ≤ 1 + owed set 0 m
  pub goes : (set : CodeSet) (r : ℕ) (x : Item) (m : List Item) → 0 < set_values set x
      → owed set r (x ∷ m) ≤ owed set (r + set_values set x) m
  pub ends : (set : CodeSet) (q : ℕ) (m : List Item) → owed set (3 * q) m ≤ 2 * q + leave 1 (least m)
  pub any_segment : (bytes : List ℕ) (m : List Item) → 0 < length bytes
      → least (byte_items bytes ++ m) ≤ 3 + length bytes + least m
  pub short_segment : (bytes : List ℕ) (m : List Item) → 0 < length bytes → length bytes ≤ 249
      → least (byte_items bytes ++ m) ≤ 2 + length bytes + least m
  pub last_segment : (bytes : List ℕ) (m : List Item) → least m ≤ 0 → least (byte_items bytes ++ m) ≤ 2 + length bytes

-- Leaving costs at least what follows, at most one more, and no more where that is little.
pub leave_bounds : (limit c : ℕ) → (c ≤ leave limit c) × (leave limit c ≤ 1 + c) × (c ≤ limit → leave limit c ≡ c)
leave_bounds limit c = grind (arith, nat_tests, nat_le, cond)

module _ (least : List Item → ℕ) (owed : CodeSet → ℕ → List Item → ℕ) (costs : AreCosts least owed) where
  -- ---- a unit of ASCII

  unit_low : (b : ℕ) (m : List Item) → b < 128 → least (Byte b ∷ m) ≤ 1 + least m
  unit_low b m lt = let t : ltb b 128 ≡ true = grind (arith, nat_tests) in rw t at (costs.unit (Byte b) m)

  unit_lower : (words : List ℕ) (items m : List Item) → IsAsciiUnit words items
      → least (items ++ m) ≤ length words + least m
  unit_lower words items m h1 = grind (arith, nat_tests, unit_low, character_is, digits_are, unit_few)

  -- ---- a run

  abbrev AreSpellings : CodeSet → List (Piece Item) → Type 0
  AreSpellings set ps = AllByRecursion (λ p. IsSpelling set p.words p.what) ps

  -- The values of a run are paid at its end.
  telescope : (set : CodeSet) (ps : List (Piece Item)) (r : ℕ) (m : List Item) → AreSpellings set ps
      → owed set r (whats ps ++ m) ≤ owed set (r + length (spelled ps)) m
  telescope set [] r m h = let e : r + 0 ≡ r = omega arith in rw e (omega arith)
  telescope set (p ∷ ps) r m h =
      let a = held set p.words p.what h.0 in
      let n = spelling_count set p.words p.what h.0 in
      let k = set_values set p.what in
      let one = costs.goes set r p.what (whats ps ++ m) a.some in
      let rest = telescope set ps (r + k) m h.1 in
      let e : (r + k) + length (spelled ps) ≡ r + length (p.words ++ spelled ps) =
      omega (arith, n, length-append p.words (spelled ps)) in
      let there : owed set (r + k) (whats ps ++ m) ≤ owed set (r + length (p.words ++ spelled ps)) m = rw e at rest in
      omega (arith, one, there)

  -- A run whose values fill whole pairs.
  whole_run : (set : CodeSet) (ps : List (Piece Item)) (q : ℕ) (m : List Item) → AreSpellings set ps
      → length (spelled ps) ≡ 3 * q
      → least (whats ps ++ m) ≤ 1 + 2 * q + leave 1 (least m)
  whole_run set ps q m h e =
      let t : owed set 0 (whats ps ++ m) ≤ owed set (3 * q) m =
      rw (let z : 0 + length (spelled ps) ≡ 3 * q = omega (arith, e) in z) at (telescope set ps 0 m h) in
      omega (arith, costs.begins set (whats ps ++ m), t, costs.ends set q m)

  -- The front of a run goes into ASCII: the claim, where `fill` values of a filler stand behind the spellings.
  abbrev Front : List (Piece Item) → List Item → Type 0
  Front ps m = (fill z q : ℕ) → 0 < fill → fill ≤ 2 → length (spelled ps) + fill + 1 + 2 * z ≡ 3 * q
      → least (whats ps ++ m) + z ≤ 2 * q + leave 1 (least m)

  -- Where the values of the spellings fill whole pairs, the filler is never taken.
  front_whole : (set : CodeSet) (ps : List (Piece Item)) (m : List Item) (fill z q p : ℕ) → AreSpellings set ps
      → 0 < fill → length (spelled ps) ≡ 3 * p
      → length (spelled ps) + fill + 1 + 2 * z ≡ 3 * q → least (whats ps ++ m) + z ≤ 2 * q + leave 1 (least m)
  front_whole set ps m fill z q p h some whole total = omega (arith, whole_run set ps p m h whole)

  -- One item goes into ASCII.
  front_by : (set : CodeSet) (x : Item) (ps : List (Piece Item)) (m : List Item) (k fill z q : ℕ)
      → AreSpellings set ps → Ascii (unit_cost x) k → Front ps m → 0 < fill → fill ≤ 2
      → (k + length (spelled ps)) + fill + 1 + 2 * z ≡ 3 * q → ((t : ℕ) → k + length (spelled ps) ≢ 3 * t)
      → least (x ∷ (whats ps ++ m)) + z ≤ 2 * q + leave 1 (least m)
  front_by set x ps m k fill zero q h (one c v) again some few total not_whole =
      elim (cases_lt 1 fill) [
        | inl both ↦ absurd (not_whole (q - 1) (omega (arith, both, few, total)))
        | inr le ↦ (let w =
            whole_run set ps (q - 1) m h (omega (arith, v, some, le, total)) in omega
            (arith, c, v, total, w, costs.unit x (whats ps ++ m)))
      ]
  front_by set x ps m k fill (suc z) q h (one c v) again some few total not_whole =
      let a = again fill z (q - 1) some few (omega (arith, v, total)) in
      omega (arith, c, v, a, total, costs.unit x (whats ps ++ m))
  front_by set x ps m k fill z q h (two c v) again some few total not_whole =
      let a = again fill (z + 1) q some few (omega (arith, v, total)) in
      omega (arith, c, a, costs.unit x (whats ps ++ m))
  front_by set x ps m k fill z q h (three c v) again some few total not_whole =
      let a = again fill z (q - 1) some few (omega (arith, v, total)) in
      omega (arith, c, v, a, total, costs.unit x (whats ps ++ m))
  front_by set x ps m k fill z q h (four c v) again some few total not_whole =
      let a = again fill (z + 2) q some few (omega (arith, v, total)) in
      omega (arith, c, a, costs.unit x (whats ps ++ m))

  front : (set : CodeSet) (ps : List (Piece Item)) (m : List Item) → AreSpellings set ps → Front ps m
  front set [] m h fill z q some few total = omega (arith, (leave_bounds 1 (least m)).0, some, total)
  front set (p ∷ ps) m h fill z q some few total =
      let a = held set p.words p.what h.0 in
      let n = spelling_count set p.words p.what h.0 in
      let k = set_values set p.what in
      let l : length (p.words ++ spelled ps)
      ≡ k + length (spelled ps) = omega (arith, n, length-append p.words (spelled ps)) in
      elim (cases_lt 0 ((k + length (spelled ps)) % 3)) [
        | inr le ↦ front_whole set (p ∷ ps) m fill z q ((k + length (spelled ps)) / 3) h some (omega (arith, l, le))
            total
        | inl not_whole ↦ front_by set p.what ps m k fill z q h.1 a.ascii (front set ps m h.1) some few
            (omega (arith, l, total)) (λ t e. absurd (omega (arith, e, not_whole)))
      ]

  -- ---- a whole run

  -- What is dropped is up to three values.
  dropped_few : (extent : Extent) (set : CodeSet) (vs : List ℕ) → IsDropped extent set vs → length vs ≤ 3
  dropped_few extent set vs h1 = grind (arith, nat_tests, nothing, lone_shift)

  -- The values of pairs are paid, and the latch.
  values_lower : (extent : Extent) (set : CodeSet) (words after : List ℕ) (items m : List Item) (p : ℕ)
      (v : IsRun extent set words after items) → length (gathered v.pairs) ≡ 3 * p
      → least (items ++ m) ≤ 1 + 2 * p + leave 1 (least m)
  values_lower extent set words after items m p v e =
      let few = dropped_few extent set v.filler v.dropped in
      let f = length v.filler in
      let l : length (spelled v.spellings) + f
      ≡ 3 * p = omega (arith, ap length v.values, length-append (spelled v.spellings) v.filler, e) in
      rw v.items_are (elim (cases_lt 0 f) [
        | inr none ↦ whole_run set v.spellings p m v.each_spelling (omega (arith, l, none))
        | inl some ↦ elim (cases_lt 2 f) [
          | inr le ↦ (let a =
              front set v.spellings m v.each_spelling f 1 (p + 1) some le (omega (arith, l)) in omega (arith, a))
          | inl more ↦ (let a =
              whole_run set v.spellings (p - 1) m v.each_spelling (omega (arith, l, few, more)) in omega
              (arith, a, l, few, more))
        ]
      ])

  -- The end of a run.
  end_lower : (words after : List ℕ) (c : ℕ) → IsRunEnd words after → c ≤ length after
      → leave 1 c ≤ length words + length after
  end_lower words after c h1 h2 = grind (arith, nat_tests, leave_bounds)

  run_lower : (extent : Extent) (set : CodeSet) (words after : List ℕ) (items m : List Item)
      → IsRun extent set words after items → least m ≤ length after
      → least (items ++ m) ≤ length words + length after
  run_lower extent set words after items m r le =
      let room = pairs_room r.pairs r.each in
      let p = length (spelled r.pairs) / 2 in
      let whole : length (gathered r.pairs) ≡ 3 * p = omega (arith, room) in
      let v = values_lower extent set words after items m p r whole in
      let e = end_lower r.end after (least m) r.ended le in
      omega (arith, v, e, room, ap length r.whole, length-append (spelled r.pairs) r.end)

  -- ---- a segment

  segment_lower : (place : ℕ) (words after : List ℕ) (items m : List Item) → IsSegment place words after items
      → least m ≤ length after
      → least (items ++ m) ≤ length words + length after
  segment_lower place words after items m s le =
      grind (arith, nat_tests, length-written, length-append, byte_items, to_the_end, short, long)

  -- ---- all parts

  module _ (extent : Extent) where
    -- A run of EDIFACT has at least as many codewords as its items cost.
    abbrev pub IsEdifactLower : Type 0
    IsEdifactLower = (words after : List ℕ) (items m : List Item) → extent ≡ Wide → IsEdifactRun words after items
        → least m ≤ length after → least (items ++ m) ≤ length words + length after

    -- No part is shorter than what it adds to the cost.
    pub part_lower : IsEdifactLower → (place : ℕ) (words after : List ℕ) (items m : List Item)
        → IsPart extent place words after items → least m ≤ length after
        → least (items ++ m) ≤ length words + length after
    part_lower other place words after items m (ascii u) le = omega (arith, unit_lower words items m u, le)
    part_lower other place words after items m (run set r) le = run_lower extent set words after items m r le
    part_lower other place words after items m (segment s) le = segment_lower place words after items m s le
    part_lower other place words after items m (edifact wide r) le = other words after items m wide r le
