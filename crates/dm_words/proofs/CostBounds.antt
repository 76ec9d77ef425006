-- The costs of EDIFACT obey the rules too, and no words are fewer than the cost.
use Rattle.dm_words.proofs.Names.{◌≡◌, ℕ, zero, suc, ◌+◌, ◌*◌, ◌≤◌, List, [], ◌∷◌, ◌++◌, length, refl, ap, arith, true}
use Rattle.dm_words.proofs.Names.{ltb, nat_tests, Extent, Usual, Wide, Item, Byte, Edifact, Setting}
use Rattle.dm_words.proofs.Names.{IsPart, Groups, never, leave, byte_before, has_edifact, stay_edifact}
use Rattle.dm_words.proofs.Names.{or_leave_edifact, parts_cost, before_words}
use Rattle.dm_words.specs.inner.Costs.{owed_group, row}
use Rattle.dm_words.proofs.CostsMet.{least_is, owes, are_costs}
use Rattle.dm_words.proofs.LowerBounds.{leave_bounds, IsEdifactLower, part_lower}
use Rattle.dm_words.proofs.EdifactBounds.{AreEdifactCosts, edifact_lower}

-- ---- what is owed in a run of EDIFACT

pub owed_byte : (r : ℕ) (g : Groups) → owed_group r (byte_before g) ≡ owed_group (suc r) g
unfolding owed_group
owed_byte zero g = refl
owed_byte (suc zero) g = omega arith
owed_byte (suc (suc zero)) g = omega arith
owed_byte (suc (suc (suc zero))) g = refl
owed_byte (suc (suc (suc (suc r)))) g = ap (λ (n : ℕ). 3 + n) (owed_byte r g)

four_more : (q : ℕ) → 4 * suc q ≡ suc (suc (suc (suc (4 * q))))
four_more q = omega arith

owed_groups : (q : ℕ) (g : Groups) → owed_group (4 * q) g ≡ 3 * q + g.none
unfolding owed_group
owed_groups zero g = omega arith
owed_groups (suc q) g =
    let here : owed_group (4 * suc q) g ≡ 3 + owed_group (4 * q) g = ap (λ (n : ℕ). owed_group n g) (four_more q) in
    omega (arith, here, owed_groups q g)

owed_three : (q : ℕ) (g : Groups) → owed_group (4 * q + 3) g ≡ 3 * q + 3 + g.three
unfolding owed_group
owed_three zero g = omega arith
owed_three (suc q) g =
    let e : 4 * suc q + 3 ≡ suc (suc (suc (suc (4 * q + 3)))) = omega arith in
    let here : owed_group (4 * suc q + 3) g ≡ 3 + owed_group (4 * q + 3) g = ap (λ (n : ℕ). owed_group n g) e in
    omega (arith, here, owed_three q g)

-- Each cost is at most another.
abbrev GroupsAtMost : Groups → Groups → Type 0
GroupsAtMost g o = (g.none ≤ o.none) × (g.one ≤ o.one) × (g.two ≤ o.two) × (g.three ≤ o.three)

group_most : (r : ℕ) (g o : Groups) → GroupsAtMost g o → owed_group r g ≤ owed_group r o
unfolding owed_group
group_most zero g o le = le.0
group_most (suc zero) g o le = omega (arith, le.1)
group_most (suc (suc zero)) g o le = omega (arith, le.2)
group_most (suc (suc (suc zero))) g o le = omega (arith, le.3)
group_most (suc (suc (suc (suc r)))) g o le = omega (arith, group_most r g o le)

or_leave_group_most : (cost : ℕ) (going : Groups) → GroupsAtMost (or_leave_edifact cost going) going
or_leave_group_most cost going = (omega arith, omega arith, omega arith, omega arith)

-- The costs where runs go on over an item.
abbrev pub going_edifact : Setting → Item → List Item → Groups
going_edifact setting x m = stay_edifact (has_edifact setting.extent x) (row setting m).edifact

-- The costs of a run are those of going on, or of leaving.
pub edifact_is : (setting : Setting) (x : Item) (m : List Item) → (row setting (x ∷ m)).edifact
    ≡ or_leave_edifact (parts_cost setting (x ∷ m)) (going_edifact setting x m)
unfolding row
edifact_is setting x m = refl

module _ (behind : ℕ) where
  edifact_leave : (m : List Item)
      → ((row (before_words behind) m).edifact.none ≤ leave 2 (parts_cost (before_words behind) m))
      × ((row (before_words behind) m).edifact.three ≤ parts_cost (before_words behind) m)
  unfolding row
  edifact_leave [] = (omega arith, omega arith)
  edifact_leave (x ∷ m) = (omega arith, omega arith)

  -- What is owed from here on.
  abbrev owes_edifact : ℕ → List Item → ℕ
  owes_edifact r m = owed_group r (row (before_words behind) m).edifact

  none_edifact : behind ≤ never → parts_cost (before_words behind) [] ≤ 1 + owes_edifact 0 []
  unfolding owed_group row
  none_edifact small = omega (arith, small, (leave_bounds 2 behind).0)

  edifact_begins : behind ≤ never → (m : List Item) → parts_cost (before_words behind) m ≤ 1 + owes_edifact 0 m
  unfolding owed_group
  edifact_begins small [] = none_edifact small
  edifact_begins small (x ∷ m) =
      let s = before_words behind in
      rw (edifact_is s x m) (omega (arith, least_is s x m Edifact, (leave_bounds 2 (parts_cost s (x ∷ m))).0))

  edifact_goes : (r b : ℕ) (m : List Item) → 32 ≤ b → b ≤ 94 → owes_edifact r (Byte b ∷ m) ≤ owes_edifact (r + 1) m
  edifact_goes r b m low high =
      let next = (row (before_words behind) m).edifact in
      let over = going_edifact (before_words behind) (Byte b) m in
      let has : has_edifact Wide (Byte b) ≡ true = grind (arith, nat_tests) in
      let stays : over ≡ byte_before next = rw has refl in
      let cost = parts_cost (before_words behind) (Byte b ∷ m) in
      let most = group_most r (or_leave_edifact cost over) over (or_leave_group_most cost over) in
      let here : owed_group r (row (before_words behind) (Byte b ∷ m)).edifact
      ≡ owed_group r (or_leave_edifact cost over) =
      ap (owed_group r) (edifact_is (before_words behind) (Byte b) m) in
      let e : suc r ≡ r + 1 = omega arith in
      let there : owed_group r over ≡ owed_group (r + 1) next = cc (owed_byte r next) in
      omega (arith, most, here, there)

  -- The costs of the definition obey the rules of EDIFACT in the wide extent.
  pub are_edifact_costs : behind ≤ never → AreEdifactCosts (parts_cost (before_words behind)) owes_edifact
  are_edifact_costs small = record {
    unit = λ b m lt. (let t : ltb b 128 ≡ true = grind (arith, nat_tests) in
        rw t at ((are_costs (before_words behind) small).unit (Byte b) m));
    begins = edifact_begins small;
    goes = edifact_goes;
    ends = λ q m. omega (arith, owed_groups q (row (before_words behind) m).edifact, (edifact_leave m).0);
    last = λ q m. omega (arith, owed_three q (row (before_words behind) m).edifact, (edifact_leave m).1);
  }

-- Runs of EDIFACT are no shorter than the cost of their items.
pub edifact_is_lower : (extent : Extent) (behind : ℕ) (small : behind ≤ never)
    → let setting : Setting = record { extent = extent; behind = behind } in
    IsEdifactLower (parts_cost setting) (owes setting) (are_costs setting small) extent
edifact_is_lower Usual behind small ws after items m wide r le = absurd cc
edifact_is_lower Wide behind small ws after items m wide r le =
    edifact_lower (parts_cost (before_words behind)) (owes_edifact behind) (are_edifact_costs behind small) ws after
    items m r le

-- A part has no fewer codewords than its items add to the cost of what follows them in a text that so many codewords
-- follow.
pub part_no_fewer : (extent : Extent) (behind place : ℕ) (words after : List ℕ) (items m : List Item) → behind ≤ never
    → let setting : Setting = record { extent = extent; behind = behind } in IsPart extent place words after items
    → parts_cost setting m ≤ length after → parts_cost setting (items ++ m) ≤ length words + length after
part_no_fewer extent behind place words after items m small p le =
    let s : Setting = record { extent = extent; behind = behind } in
    part_lower (parts_cost s) (owes s) (are_costs s small) extent (edifact_is_lower extent behind small) place words
    after items m p le
