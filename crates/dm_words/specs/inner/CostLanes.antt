-- The costs of runs and segments as they lie in lanes.
use Rattle.std.specs.Prelude.{◌≡◌, ℕ, ◌+◌, ◌≤◌, List, [], ◌∷◌, Bool, false, ◌&&◌, nat_le, if◌then◌else◌}
use Prim.Native.Nat.{min}
use Rattle.dm_words.specs.declared.extent.Extent.{Extent}
use Rattle.dm_words.specs.declared.extent.Extent.TheVariants.{Usual, Wide}
use Rattle.dm_words.specs.declared.smallest.row.Costs.{Costs}
use Rattle.dm_words.specs.declared.smallest.row.GoingCosts.{GoingCosts}
use Rattle.dm_words.specs.inner.Costs.{Pairs, Groups, Going, Row, ArePaid, ArePaidGroups, cost_of, is_basic}
use Rattle.dm_words.specs.declared.item.Item.{Item}
use Rattle.dm_words.specs.declared.c40.set.CodeSet.TheVariants.{C40, Text, X12}
use Rattle.dm_words.specs.declared.smallest.plan.Begin.TheVariants.{One, Two, Run, Edifact, Segment, Rest}

-- ---- the sets that have a byte

-- The sets that have a byte as one value, as bits: C40 has weight 1, Text 2, X12 4 and EDIFACT 8.
abbrev pub set_bits : Bool → Bool → Bool → Bool → ℕ
set_bits in_c40 in_text in_x12 in_edifact =
    (if in_c40 then 1 else 0) + (if in_text then 2 else 0) + (if in_x12 then 4 else 0) + (if in_edifact then 8 else 0)

-- The bits of the sets that have this byte as one value.
abbrev pub byte_sets : ℕ → ℕ
byte_sets byte =
    set_bits (is_basic C40 byte) (is_basic Text byte) (is_basic X12 byte) (nat_le 32 byte && nat_le byte 94)

-- A byte has a value in EDIFACT, where an extent reads that.
abbrev pub read_edifact : Extent → Bool → Bool
read_edifact Wide has = has
read_edifact Usual has = false

-- An extent reads runs of these sets, as bits.
abbrev pub read_bits : Extent → ℕ
read_bits Wide = 15
read_bits Usual = 7

-- A byte has so many values in a set, one where it is in the basic set.
abbrev pub one_or_two : Bool → ℕ
one_or_two basic = if basic then 1 else 2

-- ---- lanes

-- The first vector has the costs of C40, of Text, and of segments.
abbrev pub first_lanes : Pairs → Pairs → ℕ → ℕ → List ℕ
first_lanes c t bytes rest = c.none ∷ c.one ∷ c.two ∷ t.none ∷ t.one ∷ t.two ∷ bytes ∷ rest ∷ []

-- The second has those of X12 and of EDIFACT.
abbrev pub second_lanes : Pairs → Groups → List ℕ
second_lanes x e = x.none ∷ x.one ∷ x.two ∷ e.none ∷ e.one ∷ e.two ∷ e.three ∷ 0 ∷ []

-- They lie in the first vector, and none is greater than this: 40000 can grow over an item, and 39990 over two.
pub record AreFirst (most : ℕ) (c t : Pairs) (bytes rest : ℕ) (lanes : List ℕ) : Type 0 where
  pub are : lanes ≡ first_lanes c t bytes rest
  pub c40 : ArePaid most c
  pub text : ArePaid most t
  pub bytes_most : bytes ≤ most
  pub rest_most : rest ≤ most

-- They lie in the second vector, and none is too great to grow.
pub record AreSecond (x : Pairs) (e : Groups) (lanes : List ℕ) : Type 0 where
  pub are : lanes ≡ second_lanes x e
  pub x12 : ArePaid 40000 x
  pub edifact : ArePaidGroups 40000 e

-- The costs from an item on.
pub record HasRow (r : Row) (costs : Costs) : Type 0 where
  pub ascii : costs.ascii ≡ r.ascii
  pub second : costs.after ≡ r.second
  pub first : costs.first ≡ first_lanes r.c40 r.text (min r.ascii r.segment.bytes) r.segment.rest
  pub others : costs.second ≡ second_lanes r.x12 r.edifact
  pub near : costs.near ≡ (if nat_le r.ascii r.segment.bytes then 0 else r.segment.near)

-- The costs where runs and segments go on over an item.
pub record HasGoing (g : Going) (costs : GoingCosts) : Type 0 where
  pub first : costs.first ≡ first_lanes g.c40 g.text g.segment.bytes g.segment.rest
  pub others : costs.second ≡ second_lanes g.x12 g.edifact
  pub near : costs.near ≡ g.segment.near

-- A run or a segment ends in one lane of each three, with one of these costs; the others hold more than any cost.
abbrev pub end_lanes : ℕ → ℕ → ℕ → List ℕ
end_lanes run group cost = run ∷ 65535 ∷ 65535 ∷ group ∷ 65535 ∷ 65535 ∷ cost ∷ 65535 ∷ []

-- A run ends without an unlatch before what costs at most this much, in the lanes in which it ends. A segment never has
-- one.
abbrev pub limit_lanes : ℕ → ℕ → List ℕ
limit_lanes run group = run ∷ 0 ∷ 0 ∷ group ∷ 0 ∷ 0 ∷ 65535 ∷ 0 ∷ []

-- Each way to begin costs so much.
abbrev pub cost_lanes : Item → Bool → Row → Going → List ℕ
cost_lanes item pair next going =
    let cost = cost_of item pair next going in
    cost Two ∷ cost One ∷ cost (Run C40) ∷ cost (Run Text) ∷ cost (Run X12) ∷ cost Edifact ∷ cost Segment ∷ cost Rest
    ∷ []

-- The least of eight numbers, by halves.
abbrev pub least_of : List ℕ → ℕ
least_of (a ∷ b ∷ c ∷ d ∷ e ∷ f ∷ g ∷ h ∷ []) = min (min (min a e) (min c g)) (min (min b f) (min d h))
least_of _ = 0
