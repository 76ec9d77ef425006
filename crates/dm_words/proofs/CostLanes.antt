-- The costs that lie in lanes are those of the definition.
use Rattle.dm_words.proofs.Names.{◌++◌, ◌≡◌, ◌⊎◌, ℕ, ◌+◌, ◌-◌, ◌^◌, ◌<◌, ◌≤◌, get_or, List, refl}
use Rattle.dm_words.proofs.Names.{ap, ◌∙◌, arith, Bool, true, false, cond, eqb, length, replicate, w16, []}
use Rattle.dm_words.proofs.Names.{◌∷◌, ◌&&◌, map, nat_eq, nat_le, not, sel_l, top, zip2, length-map, tops_compared, min}
use Rattle.dm_words.proofs.Names.{nat_tests, Extent, Usual, Wide, Item, Byte, Fnc1, C40, Text, X12, Costs, Pairs}
use Rattle.dm_words.proofs.Names.{Groups, Going, Row, is_basic, set_values, has_edifact, stay, stay_edifact}
use Rattle.dm_words.proofs.Names.{values_before, going_over, IsWithin, never, no_pairs, no_groups, leave, has_bit}
use Rattle.dm_words.proofs.Names.{step_in, step_of, begin_at, cost_of, StepBits, HasRow}
use Rattle.std.specs.Prelude.{bit_and}
use Rattle.std.specs.List.{range_with_len}
use Rattle.std.proofs.lemmas.List.FromFn.{get_or-map-range_with_len}
use Rattle.std.proofs.lemmas.Simd.{map-map, zip2_splat, zip2_splat_left}
use Rattle.dm_words.specs.declared.smallest.sets.TheConstants.{SETS}
use Rattle.dm_words.specs.declared.smallest.row.GoingCosts.{GoingCosts}
use Rattle.dm_words.specs.inner.CostLanes.{byte_sets, read_bits, read_edifact, one_or_two, set_bits, first_lanes}
use Rattle.dm_words.specs.inner.CostLanes.{second_lanes, AreFirst, AreSecond, HasGoing, end_lanes, cost_lanes}

-- ---- a byte

-- The lanes of a byte below 128.
pub first_low : (byte : ℕ) (c t : Pairs) (bytes rest : ℕ) (lanes : List ℕ) → byte < 128
    → lanes ≡ first_lanes (values_before (one_or_two (is_basic C40 byte)) c)
    (values_before (one_or_two (is_basic Text byte)) t) bytes rest
    → lanes ≡ first_lanes (stay (set_values C40 (Byte byte)) c) (stay (set_values Text (Byte byte)) t) bytes rest
first_low byte c t bytes rest lanes low is = grind (arith, nat_tests, set_values, one_or_two, is_basic)

-- The lanes of a byte from 128 on.
pub first_high : (byte : ℕ) (c t : Pairs) (bytes rest : ℕ) (lanes : List ℕ) → 128 ≤ byte
    → lanes ≡ first_lanes (values_before (one_or_two (is_basic C40 (byte - 128))) (values_before 2 c))
    (values_before (one_or_two (is_basic Text (byte - 128))) (values_before 2 t)) bytes rest
    → lanes ≡ first_lanes (stay (set_values C40 (Byte byte)) c) (stay (set_values Text (Byte byte)) t) bytes rest
first_high byte c t bytes rest lanes high is = grind (arith, nat_tests, set_values, one_or_two, is_basic)

-- Two values more leave the costs below what they may be.
pub raised_next : (c t : Pairs) (bytes rest : ℕ) (lanes raised : List ℕ) → AreFirst 39990 c t bytes rest lanes
    → raised ≡ first_lanes (values_before 2 c) (values_before 2 t) bytes rest
    → AreFirst 40000 (values_before 2 c) (values_before 2 t) bytes rest raised
raised_next c t bytes rest lanes raised h is = grind (arith, nat_tests)

pub next_first : (c t : Pairs) (bytes rest : ℕ) (lanes : List ℕ) → AreFirst 39990 c t bytes rest lanes
    → AreFirst 40000 c t bytes rest lanes
next_first c t bytes rest lanes h = grind (arith, nat_tests)

-- The second lanes of a byte.
pub second_byte : (extent : Extent) (byte : ℕ) (x : Pairs) (e : Groups) (lanes : List ℕ)
    → lanes ≡ second_lanes (stay (cond (is_basic X12 byte) 1 0) x)
    (stay_edifact (read_edifact extent (nat_le 32 byte && nat_le byte 94)) e)
    → lanes ≡ second_lanes (stay (set_values X12 (Byte byte)) x) (stay_edifact (has_edifact extent (Byte byte)) e)
second_byte extent byte x e lanes h1 = grind (arith, nat_tests)

-- ---- a row

-- The first costs of a row are below what they may be.
pub row_next : (r : Row) (costs : Costs) → IsWithin 3200 r → HasRow r costs
    → AreFirst 39990 r.c40 r.text (min r.ascii r.segment.bytes) r.segment.rest costs.first
row_next r costs w h = grind (arith, nat_tests)

-- So are the second ones.
pub row_second : (r : Row) (costs : Costs) → IsWithin 3200 r → HasRow r costs
    → AreSecond r.x12 r.edifact costs.second
row_second r costs w h = grind (arith, nat_tests)

-- One byte more is in a segment.
pub near_more : (t : Bool) (near : ℕ) → 1 + cond t 0 near ≡ cond t 1 (1 + near)
near_more t near = grind (arith, nat_tests)

-- Over FNC1 runs of C40 and Text go on alone.
pub over_fnc1 : (extent : Extent) (item : Item) (r : Row) (going : GoingCosts) → item ≡ Fnc1
    → going.first ≡ first_lanes (values_before 2 r.c40) (values_before 2 r.text) never never
    → going.second ≡ second_lanes no_pairs no_groups → going.near ≡ 0 → HasGoing (going_over extent item r) going
over_fnc1 extent item r going is first others near = grind (arith, nat_tests, going_over)

-- Over a byte they all may go on.
pub over_byte : (extent : Extent) (item : Item) (byte : ℕ) (r : Row) (next : Costs) (going : GoingCosts)
    → item ≡ Byte byte → HasRow r next
    → going.first ≡ first_lanes (stay (set_values C40 (Byte byte)) r.c40) (stay (set_values Text (Byte byte)) r.text)
    (1 + min r.ascii r.segment.bytes) (1 + r.segment.rest)
    → going.second ≡ second_lanes (stay (set_values X12 (Byte byte)) r.x12)
    (stay_edifact (has_edifact extent (Byte byte)) r.edifact)
    → going.near ≡ 1 + next.near → HasGoing (going_over extent item r) going
over_byte extent item byte r next going is h first others near = grind (arith, nat_tests, going_over, near_more, nat_le)

-- ---- lanes by sets

-- The lanes of these bits are inside, where one of the sets has the bit.
abbrev pub in_sets : ℕ → List ℕ → List Bool
in_sets sets bits = map (λ bit. not (nat_eq (bit_and sets bit) 0)) bits

-- A comparison with 0 tells the lanes that aren't 0.
told_lanes : (xs : List ℕ) → length xs ≡ 8
    → map (top 15) (zip2 (λ a b. cond (not (eqb a b)) 65535 0) xs (replicate 8 0)) ≡ map (λ n. not (eqb n 0)) xs
told_lanes xs long =
    let ne : ℕ → ℕ → Bool = λ a b. not (eqb a b) in
    tops_compared w16 ne xs (replicate 8 0) ∙ zip2_splat ne xs 8 0 long

-- A number is put into the lanes that are told by such a comparison.
pub with_lane_is : (lane lanes : List ℕ) (number : ℕ) → length lane ≡ 8
    → sel_l (map (top 15) (zip2 (λ a b. cond (not (eqb a b)) 65535 0) lane (replicate 8 0))) (replicate 8 number) lanes
    ≡ sel_l (map (λ n. not (eqb n 0)) lane) (replicate 8 number) lanes
with_lane_is lane lanes number long = grind (arith, nat_tests, sel_l, replicate, told_lanes)

-- A comparison of the bits that are shared with 0 tells these lanes.
pub by_sets_is : (sets : ℕ) (bits inside outside : List ℕ) → length bits ≡ 8
    → sel_l (map (top 15) (zip2 (λ a b. cond (not (eqb a b)) 65535 0)
    (zip2 (λ a b. bit_and a b) (replicate 8 sets) bits) (replicate 8 0))) inside outside
    ≡ sel_l (in_sets sets bits) inside outside
by_sets_is sets bits inside outside long =
    let shared : zip2 (λ a b. bit_and a b) (replicate 8 sets) bits ≡ map (λ bit. bit_and sets bit) bits =
    zip2_splat_left (λ a b. bit_and a b) sets 8 bits long in
    cc (
      told_lanes (map (λ bit. bit_and sets bit) bits) (length-map bits (λ bit. bit_and sets bit) ∙ long),
      map-map (λ n. not (eqb n 0)) (λ bit. bit_and sets bit) bits,
    )

-- A byte is one value or two of C40, and one or two of Text.
first_by_sets : (in_c40 in_text in_x12 in_edifact : Bool) (c t : Pairs) (bytes rest : ℕ)
    → sel_l (in_sets (set_bits in_c40 in_text in_x12 in_edifact) (1 ∷ 1 ∷ 1 ∷ 2 ∷ 2 ∷ 2 ∷ 0 ∷ 0 ∷ []))
    (first_lanes (values_before 1 c) (values_before 1 t) bytes rest)
    (first_lanes (values_before 2 c) (values_before 2 t) bytes rest)
    ≡ first_lanes (values_before (one_or_two in_c40) c) (values_before (one_or_two in_text) t) bytes rest
first_by_sets in_c40 in_text in_x12 in_edifact c t bytes rest = grind (arith, nat_tests)

-- A byte goes on in X12, in EDIFACT where that is read, in both or in none.
second_by_sets : (extent : Extent) (in_c40 in_text in_x12 in_edifact : Bool) (x : Pairs) (e : Groups)
    → sel_l (in_sets (bit_and (set_bits in_c40 in_text in_x12 in_edifact) (read_bits extent))
    (4 ∷ 4 ∷ 4 ∷ 8 ∷ 8 ∷ 8 ∷ 8 ∷ 0 ∷ []))
    (second_lanes (stay 1 x) (stay_edifact true e)) (second_lanes no_pairs no_groups)
    ≡ second_lanes (stay (cond in_x12 1 0) x) (stay_edifact (read_edifact extent in_edifact) e)
second_by_sets Wide true true true true x e = refl
second_by_sets Wide true true true false x e = refl
second_by_sets Wide true true false true x e = refl
second_by_sets Wide true true false false x e = refl
second_by_sets Wide true false true true x e = refl
second_by_sets Wide true false true false x e = refl
second_by_sets Wide true false false true x e = refl
second_by_sets Wide true false false false x e = refl
second_by_sets Wide false true true true x e = refl
second_by_sets Wide false true true false x e = refl
second_by_sets Wide false true false true x e = refl
second_by_sets Wide false true false false x e = refl
second_by_sets Wide false false true true x e = refl
second_by_sets Wide false false true false x e = refl
second_by_sets Wide false false false true x e = refl
second_by_sets Wide false false false false x e = refl
second_by_sets Usual true true true true x e = refl
second_by_sets Usual true true true false x e = refl
second_by_sets Usual true true false true x e = refl
second_by_sets Usual true true false false x e = refl
second_by_sets Usual true false true true x e = refl
second_by_sets Usual true false true false x e = refl
second_by_sets Usual true false false true x e = refl
second_by_sets Usual true false false false x e = refl
second_by_sets Usual false true true true x e = refl
second_by_sets Usual false true true false x e = refl
second_by_sets Usual false true false true x e = refl
second_by_sets Usual false true false false x e = refl
second_by_sets Usual false false true true x e = refl
second_by_sets Usual false false true false x e = refl
second_by_sets Usual false false false true x e = refl
second_by_sets Usual false false false false x e = refl

-- So are the lanes that are taken by the sets.
pub first_chosen : (in_c40 in_text in_x12 in_edifact : Bool) (c t : Pairs) (bytes rest sets : ℕ)
    (one two lanes : List ℕ)
    → sets ≡ set_bits in_c40 in_text in_x12 in_edifact
    → one ≡ first_lanes (values_before 1 c) (values_before 1 t) bytes rest
    → two ≡ first_lanes (values_before 2 c) (values_before 2 t) bytes rest
    → lanes ≡ sel_l (in_sets sets (1 ∷ 1 ∷ 1 ∷ 2 ∷ 2 ∷ 2 ∷ 0 ∷ 0 ∷ [])) one two
    → lanes ≡ first_lanes (values_before (one_or_two in_c40) c) (values_before (one_or_two in_text) t) bytes rest
first_chosen in_c40 in_text in_x12 in_edifact c t bytes rest sets one two lanes is_sets is_one is_two is =
    cc (first_by_sets in_c40 in_text in_x12 in_edifact c t bytes rest)

-- In the second vector, so are those of X12 and of EDIFACT that are in the sets of the byte and read in the extent.
pub second_chosen : (extent : Extent) (in_c40 in_text in_x12 in_edifact : Bool) (x : Pairs) (e : Groups)
    (sets read : ℕ) (inside outside lanes : List ℕ)
    → sets ≡ set_bits in_c40 in_text in_x12 in_edifact → read ≡ read_bits extent
    → inside ≡ second_lanes (stay 1 x) (stay_edifact true e) → outside ≡ second_lanes no_pairs no_groups
    → lanes ≡ sel_l (in_sets (bit_and sets read) (4 ∷ 4 ∷ 4 ∷ 8 ∷ 8 ∷ 8 ∷ 8 ∷ 0 ∷ [])) inside outside
    → lanes ≡ second_lanes (stay (cond in_x12 1 0) x) (stay_edifact (read_edifact extent in_edifact) e)
second_chosen extent in_c40 in_text in_x12 in_edifact x e sets read inside outside lanes h1 h2 h3 h4 h5 =
    grind (arith, nat_tests, set_bits, sel_l, in_sets, bit_and, read_bits, second_lanes, stay_edifact, second_by_sets)

-- The table has the sets of each byte: this is computed.
pub sets_at : (byte : ℕ) → byte < 256 → get_or SETS byte 0 ≡ byte_sets byte
sets_at byte small = cc (get_or-map-range_with_len byte_sets 0 256 byte byte 0 small (omega arith))
  where
    sets_are : SETS ≡ map byte_sets (range_with_len 0 256)
    sets_are = refl

-- ---- a step

-- The bits of the lanes that end are the step.
pub step_kept : (cost : ℕ) (bits : StepBits) (ends others lanes more : List ℕ) (g : Going)
    → ends ≡ end_lanes (leave 1 cost) (leave 1 cost) cost → others ≡ end_lanes (leave 1 cost) (leave 2 cost) cost
    → lanes ≡ first_lanes g.c40 g.text g.segment.bytes g.segment.rest → more ≡ second_lanes g.x12 g.edifact
    → ((k : ℕ) → k < 8 → has_bit (2 ^ k) bits.first ≡ nat_le (get_or ends k 0) (get_or lanes k 0))
    → ((k : ℕ) → k < 8 → has_bit (2 ^ k) bits.second ≡ nat_le (get_or others k 0) (get_or more k 0))
    → step_in bits ≡ step_of cost (begin_at bits.begins) g
step_kept cost bits ends others lanes more g e o l m first second =
    let f : (k : ℕ) → k < 8 → has_bit (2 ^ k) bits.first ≡ nat_le (get_or (end_lanes (leave 1 cost) (leave 1 cost)
    cost) k 0) (get_or (first_lanes g.c40 g.text g.segment.bytes g.segment.rest) k 0) =
    λ k small. first k small ∙ ap (λ (xs : List ℕ). nat_le (get_or xs k 0) (get_or lanes k 0)) e
    ∙ ap (λ (xs : List ℕ). nat_le (get_or (end_lanes (leave 1 cost) (leave 1 cost) cost) k 0) (get_or xs k 0)) l in
    let s : (k : ℕ) → k < 8 → has_bit (2 ^ k) bits.second ≡ nat_le (get_or (end_lanes (leave 1 cost) (leave 2 cost)
    cost) k 0) (get_or (second_lanes g.x12 g.edifact) k 0) =
    λ k small. second k small ∙ ap (λ (xs : List ℕ). nat_le (get_or xs k 0) (get_or more k 0)) o
    ∙ ap (λ (xs : List ℕ). nat_le (get_or (end_lanes (leave 1 cost) (leave 2 cost) cost) k 0) (get_or xs k 0)) m in
    let c40 : has_bit 1 bits.first ≡ nat_le (leave 1 cost) g.c40.none = f 0 (omega arith) in
    let text : has_bit 8 bits.first ≡ nat_le (leave 1 cost) g.text.none = f 3 (omega arith) in
    let segment : has_bit 64 bits.first ≡ nat_le cost g.segment.bytes = f 6 (omega arith) in
    let x12 : has_bit 1 bits.second ≡ nat_le (leave 1 cost) g.x12.none = s 0 (omega arith) in
    let edifact : has_bit 8 bits.second ≡ nat_le (leave 2 cost) g.edifact.none = s 3 (omega arith) in
    let group : has_bit 64 bits.second ≡ nat_le cost g.edifact.three = s 6 (omega arith) in
    λ i. record {
      begins = begin_at bits.begins;
      c40_ends = c40 i;
      text_ends = text i;
      x12_ends = x12 i;
      edifact_ends = edifact i;
      group_ends = group i;
      segment_ends = segment i;
    }

-- Each way to begin costs what stands at its place.
pub cost_at : (item : Item) (pair : Bool) (next : Row) (g : Going) (k : ℕ) → k < 8
    → get_or (cost_lanes item pair next g) k 0 ≡ cost_of item pair next g (begin_at k)
cost_at item pair next g k h1 = grind (arith, nat_tests)

-- What a way to begin costs stands in its lane.
pub lane_costs : (item : Item) (pair : Bool) (next : Row) (g : Going) (k : ℕ) (costs : List ℕ) (cost : ℕ) → k < 8
    → costs ≡ cost_lanes item pair next g → cost_of item pair next g (begin_at k) ≡ cost → get_or costs k 0 ≡ cost
lane_costs item pair next g k costs cost small are is = cc (cost_at item pair next g k small)

-- The place behind which none is taken is the first one.
pub first_begin : (n : ℕ) → (0 < n → ⊥) → begin_at n ≡ begin_at 0
first_begin n h1 = grind (arith, nat_tests)

-- Or the second one.
pub second_begin : (n : ℕ) → (1 < n → ⊥) → (begin_at n ≡ begin_at 1) ⊎ (begin_at n ≡ begin_at 0)
second_begin n h1 = grind (arith, nat_tests)

-- The last lane of all costs is 0.
pub last_zero : (g : Going) (costs : GoingCosts) → HasGoing g costs → get_or (costs.first ++ costs.second) 15 0 ≡ 0
last_zero g costs h = cc
