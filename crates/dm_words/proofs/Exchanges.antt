-- Where FNC1 comes first, or second behind one codeword of ASCII, nothing is cheaper than ASCII: FNC1 has two values in
-- a run and one codeword in ASCII.
use Rattle.dm_words.proofs.Names.{◌≡◌, ℕ, ◌+◌, ◌-◌, ◌<◌, ◌≤◌, List, [], ◌∷◌, length, refl, arith, Bool, true, false}
use Rattle.dm_words.proofs.Names.{cond, ltb, nat_le, ◌&&◌, min, nat_tests, CodeSet, C40, Text, X12, Extent}
use Rattle.dm_words.proofs.Names.{Item, Byte, Fnc1, One, Two, Run, Edifact, Segment, Rest, Setting, is_digit, Pairs}
use Rattle.dm_words.proofs.Names.{Groups, Going, Row, never, most_behind, unit_cost, is_basic, set_values, stay}
use Rattle.dm_words.proofs.Names.{stay_edifact, has_edifact, segment_cost, least, cost_of, going_over, parts_cost}
use Rattle.dm_words.specs.inner.Costs.{row, row_pairs, owed, IsRightBegin}
use Rattle.dm_words.specs.inner.Written.{HasShifts}
use Rattle.dm_words.proofs.CostsMet.{pairs_is, begins, least_is, second_is, is_pair}
use Rattle.dm_words.proofs.Plans.{cost_most}

-- ---- in a run nothing is far ahead of ASCII

-- What costs this much in ASCII costs little less in a run, wherever it is.
pub record IsNear (cost : ℕ) (p : Pairs) : Type 0 where
  pub none : cost ≤ 1 + p.none
  pub one : cost ≤ 3 + p.one
  pub two : cost ≤ 2 + p.two

-- Over an item of some values it is so behind one or two values.
over : (cost next : ℕ) (p : Pairs) → IsNear next p → (low basic raised : Bool) → cost ≤ cond low 1 2 + next
    → (cost ≤ 3 + (stay (cond low (cond basic 1 2) (2 + cond raised 1 2)) p).one)
    × (cost ≤ 2 + (stay (cond low (cond basic 1 2) (2 + cond raised 1 2)) p).two)
over cost next p h1 low basic raised h2 = grind (arith, nat_tests)

-- So it is over any item.
over_item : (set : CodeSet) (x : Item) (cost next : ℕ) (p : Pairs) → HasShifts set → IsNear next p
    → cost ≤ unit_cost x + next
    → (cost ≤ 3 + (stay (set_values set x) p).one) × (cost ≤ 2 + (stay (set_values set x) p).two)
over_item C40 Fnc1 cost next p has n le = (omega (arith, le, n.none), omega (arith, le, n.one))
over_item Text Fnc1 cost next p has n le = (omega (arith, le, n.none), omega (arith, le, n.one))
over_item X12 x cost next p has n le = absurd has
over_item C40 (Byte b) cost next p has n le = over cost _ p n (ltb b 128) (is_basic C40 b) (is_basic C40 (b - 128)) le
over_item Text (Byte b) cost next p has n le =
    over cost next p n (ltb b 128) (is_basic Text b) (is_basic Text (b - 128)) le

-- A run of C40 or Text that takes a byte below 128 first is no cheaper.
low_run : (cost : ℕ) (p : Pairs) → cost ≤ 2 + p.one → cost ≤ 2 + p.two → (basic : Bool)
    → 1 + cost ≤ 1 + (stay (cond basic 1 2) p).none
low_run cost p h1 h2 basic = grind (arith, nat_tests)

-- Nor can one of X12, or of EDIFACT, that would have to end at once.
no_x12 : (p : Pairs) → p.one ≡ never → (basic : Bool) → never ≤ (stay (cond basic 1 0) p).none
no_x12 p h1 basic = grind (arith, nat_tests)

no_groups_so : (g : Groups) → never ≤ g.one → (has : Bool) → never ≤ (stay_edifact has g).none
no_groups_so g h1 has = grind (arith, nat_tests)

no_second_group : (g : Groups) → g.two ≡ never → (has : Bool) → never ≤ (stay_edifact has g).one
no_second_group g h1 has = grind (arith, nat_tests)

-- A segment costs its latch and its length at least.
segment_least : (bytes near : ℕ) → 2 + bytes ≤ segment_cost bytes near
segment_least bytes near = grind (arith, nat_tests, nat_le)

-- The least cost is that of what costs no more than the others.
one_least : (x : Item) (pair : Bool) (next : Row) (g : Going) → let cost = cost_of x pair next g in cost One ≤ cost Two
    → cost One ≤ cost (Run C40) → cost One ≤ cost (Run Text) → cost One ≤ cost (Run X12) → cost One ≤ cost Edifact
    → cost One ≤ cost Segment → cost One ≤ cost Rest → least x pair next g ≡ cost One
one_least x pair next g a b c d e f h = omega (arith, a, b, c, d, e, f, h)

two_least : (x : Item) (pair : Bool) (next : Row) (g : Going) → let cost = cost_of x pair next g in cost Two ≤ cost One
    → cost Two ≤ cost (Run C40) → cost Two ≤ cost (Run Text) → cost Two ≤ cost (Run X12) → cost Two ≤ cost Edifact
    → cost Two ≤ cost Segment → cost Two ≤ cost Rest → least x pair next g ≡ cost Two
two_least x pair next g a b c d e f h = omega (arith, a, b, c, d, e, f, h)

-- EDIFACT has no FNC1.
no_edifact : (extent : Extent) → has_edifact extent Fnc1 ≡ false
no_edifact extent = grind (arith, nat_tests)

and_false : (t : Bool) → t && false ≡ false
and_false t = grind (arith, nat_tests)

-- Before FNC1 and what follows it costs this much.
record IsBeforeFnc1 (next before : Row) : Type 0 where
  c40 : (before.c40.one ≡ next.c40.none) × (before.c40.two ≡ 2 + next.c40.one)
  text : (before.text.one ≡ next.text.none) × (before.text.two ≡ 2 + next.text.one)
  x12 : (before.x12.one ≡ never) × (before.x12.two ≡ never)
  edifact : (before.edifact.one ≡ never) × (before.edifact.two ≡ never)
  bytes : before.segment.bytes ≡ never
  rest : before.segment.rest ≡ never

-- A digit is one value of each set.
digit_values : (b : ℕ) → is_digit b ≡ true → (ltb b 128 ≡ true) × (is_basic C40 b ≡ true) × (is_basic Text b ≡ true) ×
    (is_basic X12 b ≡ true)
digit_values b is = grind (arith, nat_tests)

module _ (setting : Setting) (small : setting.behind ≤ most_behind) where
  none_near : (set : CodeSet) → IsNear (parts_cost setting []) (row_pairs set (row setting []))
  unfolding row owed
  none_near set = grind (arith, nat_tests, begins)

  -- A run never gets far ahead.
  near : (set : CodeSet) → HasShifts set → (m : List Item)
      → IsNear (parts_cost setting m) (row_pairs set (row setting m))
  unfolding owed
  near set has [] = none_near set
  near set has (x ∷ m) =
      let o = over_item set x (parts_cost setting (x ∷ m)) (parts_cost setting m) (row_pairs set (row setting m)) has
      (near set has m) (least_is setting x m One) in
      let is = pairs_is setting set x m in
      record {
        none = begins setting (omega (arith, small)) set (x ∷ m);
        one = rw is o.0;
        two = rw is o.1;
      }

  -- ---- FNC1 first

  cost_least : (x : Item) (m : List Item) → parts_cost setting (x ∷ m)
      ≡ least x (is_pair setting x m) (row setting m) (going_over setting.extent x (row setting m))
  unfolding row
  cost_least x m = refl

  pub fnc1_first : (m : List Item) → length m ≤ 3122 → IsRightBegin setting (Fnc1 ∷ m) One
  fnc1_first m few =
      let next = row setting m in
      let c = near C40 tt m in
      let t = near Text tt m in
      let most = cost_most setting m in
      cc (
        cost_least Fnc1 m,
        one_least Fnc1 false next (going_over setting.extent Fnc1 next)
            (omega (arith, most, small, few)) (omega (arith, c.two)) (omega (arith, t.two)) (omega
            (arith, most, small, few))
            (rw (no_edifact setting.extent) (omega (arith, most, small, few))) (omega (arith, most, small, few))
            (omega (arith, most, small, few)),
      )

  fnc1_cost : (m : List Item) → length m ≤ 3122 → parts_cost setting (Fnc1 ∷ m) ≡ 1 + parts_cost setting m
  fnc1_cost m few = fnc1_first m few

  before_fnc1 : (m : List Item) → IsBeforeFnc1 (row setting m) (row setting (Fnc1 ∷ m))
  unfolding row
  before_fnc1 m = grind (arith, nat_tests, no_edifact)

  -- ---- FNC1 behind a byte below 128

  pub fnc1_second : (b : ℕ) (m : List Item) → b < 128 → length m ≤ 3121 → IsRightBegin setting (Byte b ∷ Fnc1 ∷ m) One
  fnc1_second b m lt few =
      let next = row setting (Fnc1 ∷ m) in
      let low : ltb b 128 ≡ true = grind (arith, nat_tests) in
      let cost = fnc1_cost m (omega (arith, few)) in
      let f = before_fnc1 m in
      let c = near C40 tt m in
      let t = near Text tt m in
      let cc40 = near C40 tt (Fnc1 ∷ m) in
      let ct = near Text tt (Fnc1 ∷ m) in
      let most = cost_most setting m in
      let seg = segment_least (going_over setting.extent (Byte b) next).segment.bytes
      (going_over setting.extent (Byte b) next).segment.near in
      let e = no_groups_so next.edifact (omega (arith, f.edifact.0)) (has_edifact setting.extent (Byte b)) in
      let x = no_x12 next.x12 f.x12.0 (is_basic X12 b) in
      cc (
        cost_least (Byte b) (Fnc1 ∷ m),
        one_least (Byte b) (is_digit b && false) next
            (going_over setting.extent (Byte b) next)
            (rw (and_false (is_digit b), low) (omega (arith, cost, most, small, few))) (rw low (low_run
            (parts_cost setting (Fnc1 ∷ m)) next.c40 (omega (arith, cost, f.c40.0, c.none)) cc40.two
            (is_basic C40 b))) (rw
            low (low_run (parts_cost setting (Fnc1 ∷ m)) next.text (omega (arith, cost, f.text.0, t.none)) ct.two
            (is_basic Text b))) (rw low (omega (arith, x, cost, most, small, few)))
            (rw low (omega (arith, e, cost, most, small, few))) (rw low (omega
            (arith, seg, f.bytes, cost, most, small, few)))
            (rw low (omega (arith, f.rest, cost, most, small, few))),
      )

  low_cost : (b : ℕ) (m : List Item) → b < 128 → length m ≤ 3121
      → parts_cost setting (Byte b ∷ Fnc1 ∷ m) ≡ 1 + parts_cost setting (Fnc1 ∷ m)
  low_cost b m lt few = grind (arith, nat_tests, ltb, fnc1_second)

  -- ---- FNC1 behind two digits

  -- Before a digit and FNC1 it costs this much.
  record IsBeforeDigit (p before : Row) (cost : ℕ) : Type 0 where
    c40 : before.c40.one ≡ p.c40.two
    text : before.text.one ≡ p.text.two
    x12 : before.x12.one ≡ p.x12.two
    edifact : never ≤ before.edifact.one
    bytes : before.segment.bytes ≡ 1 + min cost p.segment.bytes
    rest : before.segment.rest ≡ 1 + p.segment.rest

  before_digit : (c : ℕ) (m : List Item) → is_digit c ≡ true
      → IsBeforeDigit (row setting (Fnc1 ∷ m)) (row setting (Byte c ∷ Fnc1 ∷ m)) (parts_cost setting (Fnc1 ∷ m))
  unfolding row
  before_digit c m is = grind (arith, nat_tests, digit_values, no_second_group, row, before_fnc1, has_edifact)

  pub fnc1_third : (b c : ℕ) (m : List Item) → is_digit b ≡ true → is_digit c ≡ true → length m ≤ 3120
      → IsRightBegin setting (Byte b ∷ Byte c ∷ Fnc1 ∷ m) Two
  fnc1_third b c m is_b is_c few =
      let next = row setting (Byte c ∷ Fnc1 ∷ m) in
      let v = digit_values b is_b in
      let c_low : c < 128 = grind (arith, nat_tests) in
      let cost = fnc1_cost m (omega (arith, few)) in
      let low = low_cost c m c_low (omega (arith, few)) in
      let second = second_is setting (Byte c) (Fnc1 ∷ m) in
      let f = before_fnc1 m in
      let d = before_digit c m is_c in
      let cn = near C40 tt m in
      let tn = near Text tt m in
      let most = cost_most setting m in
      let seg = segment_least (going_over setting.extent (Byte b) next).segment.bytes
      (going_over setting.extent (Byte b) next).segment.near in
      let e = no_groups_so next.edifact d.edifact (has_edifact setting.extent (Byte b)) in
      cc (
        cost_least (Byte b) (Byte c ∷ Fnc1 ∷ m),
        two_least (Byte b) (is_digit b && is_digit c) next
            (going_over setting.extent (Byte b) next) (rw (is_b, is_c, v.0) (omega (arith, second, low)))
            (rw (v.1, is_b, is_c, v.0) (omega (arith, second, cost, d.c40, f.c40.1, cn.one)))
            (rw (v.2, is_b, is_c, v.0) (omega (arith, second, cost, d.text, f.text.1, tn.one)))
            (rw (v.3, is_b, is_c) (omega (arith, second, cost, d.x12, f.x12.1, most, small, few)))
            (rw (is_b, is_c) (omega (arith, second, cost, e, most, small, few)))
            (rw (is_b, is_c) (omega (arith, second, seg, d.bytes, f.bytes, low, cost, most, small, few)))
            (rw (is_b, is_c) (omega (arith, second, d.rest, f.rest, cost, most, small, few))),
      )
