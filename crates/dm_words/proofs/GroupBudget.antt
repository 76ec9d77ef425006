-- A run of EDIFACT that follows the plan stays within its budget.
use Rattle.dm_words.proofs.Names.{◌≡◌, ◌⊎◌, ℕ, suc, ◌+◌, ◌<◌, ◌≤◌, List, [], ◌∷◌, length, drop, get_or, refl}
use Rattle.dm_words.proofs.Names.{sym, ◌∙◌, arith, Bool, true, false, nat_le, not, nat_tests, length-drop, at_drop_more}
use Rattle.dm_words.proofs.Names.{length-append, Extent, Setting, Wide, Item, Byte, Groups, Group, never}
use Rattle.dm_words.proofs.Names.{no_groups, leave, or_leave_edifact, has_edifact, stay_edifact, byte_before}
use Rattle.dm_words.proofs.Names.{going_from, parts_cost, IsRightStep, waiting_values, IsGroupPushed, IsEdifactEnded}
use Rattle.dm_words.specs.inner.Costs.{Step, owed_group, row}
use Rattle.dm_words.specs.declared.smallest.edifact.Group.TheVariants as group
use Rattle.dm_words.specs.inner.Written.{whole_words, group_stops}
use Rattle.dm_words.proofs.CostBounds.{owed_byte}

-- A run goes on where it doesn't cost less to leave it: by the test between groups, or that behind three values.
abbrev stops_by : Group → Bool → Bool → Bool
stops_by group.Empty between behind = between
stops_by (group.One x) between behind = false
stops_by (group.Two x y) between behind = false
stops_by (group.Three x y z) between behind = behind

-- The plan says whether a run stops.
stops_are : (setting : Setting) (m : List Item) (s : Step) (g : Group) → IsRightStep setting m s
    → group_stops g s
    ≡ stops_by g (nat_le (leave 2 (parts_cost setting m)) (going_from setting m).edifact.none)
    (nat_le (parts_cost setting m) (going_from setting m).edifact.three)
stops_are setting m s g h1 = grind (arith, nat_tests, group_stops, stops_by, nat_le, parts_cost, going_from)

-- The costs of a run are those of going on, or of leaving.
edifact_are : (setting : Setting) (m : List Item) → (row setting m).edifact
    ≡ or_leave_edifact (parts_cost setting m) (going_from setting m).edifact
unfolding row
edifact_are setting m = grind (arith, nat_tests)

-- Where a run goes on, it can pay for that.
goes_on : (g : Group) (cost words total : ℕ) (over : Groups)
    → words + owed_group (length (waiting_values g)) (or_leave_edifact cost over) ≤ total → total < never
    → stops_by g (nat_le (leave 2 cost) over.none) (nat_le cost over.three) ≡ false
    → words + owed_group (length (waiting_values g)) over ≤ total
unfolding owed_group
goes_on g cost words total over h1 h2 h3 = grind (arith, nat_tests)

-- Where a run ends, it can pay for leaving.
leaves : (g : Group) (cost words total : ℕ) (over : Groups)
    → words + owed_group (length (waiting_values g)) (or_leave_edifact cost over) ≤ total
    → stops_by g (nat_le (leave 2 cost) over.none) (nat_le cost over.three) ≡ true
    → ((length (waiting_values g) ≡ 0) × (words + leave 2 cost ≤ total)) ⊎
    ((length (waiting_values g) ≡ 3) × (words + 3 + cost ≤ total))
unfolding owed_group
leaves g cost words total over h1 h2 = grind (arith, nat_tests, leave)

-- Values that stand cost nothing less than themselves.
owed_some : (g : Group) (next : Groups) → length (waiting_values g) ≤ owed_group (length (waiting_values g)) next
unfolding owed_group
owed_some g next = grind (arith, nat_tests)

-- No run goes on where none can.
never_on : (g : Group) (words total : ℕ) → total < never
    → words + owed_group (length (waiting_values g)) no_groups ≤ total → ⊥
unfolding owed_group
never_on g words total h1 h2 = grind (arith, nat_tests)

-- What is known of an item where a run goes on.
record IsHeld (extent : Extent) (x : Item) : Type 0 where
  wide : extent ≡ Wide
  byte : ℕ
  is : x ≡ Byte byte
  low : 32 ≤ byte
  high : byte ≤ 94

-- An item is held by a run of EDIFACT.
held : (extent : Extent) (x : Item) → has_edifact extent x ≡ true → IsHeld extent x
held extent x h1 = grind (arith, nat_tests)

-- Where the costs of going on over an item are paid, the run holds the item, and the costs behind it are paid.
over_paid : (extent : Extent) (x : Item) (g : Group) (words total : ℕ) (next : Groups)
    → words + owed_group (length (waiting_values g)) (stay_edifact (has_edifact extent x) next) ≤ total → total < never
    → IsHeld extent x × (words + owed_group (length (waiting_values g) + 1) next ≤ total)
over_paid extent x g words total next b small = by_test (has_edifact extent x) refl b where
  by_test : (t : Bool) → has_edifact extent x ≡ t
      → words + owed_group (length (waiting_values g)) (stay_edifact t next) ≤ total
      → IsHeld extent x × (words + owed_group (length (waiting_values g) + 1) next ≤ total)
  by_test false e b = absurd (never_on g words total small b)
  by_test true e b =
      let r = length (waiting_values g) in
      let one : suc r ≡ r + 1 = omega arith in
      let o : owed_group r (byte_before next) ≡ owed_group (r + 1) next = cc (owed_byte r next) in
      (held extent x e, omega (arith, b, o))

-- What is known at an index where a run goes on.
pub record IsGroupPaidAt (setting : Setting) (m : List Item) (i : ℕ) (d : Item) (g : Group) (words total : ℕ) : Type 0
  where
    pub there : i < length m
    pub wide : setting.extent ≡ Wide
    pub byte : ℕ
    pub is : get_or m i d ≡ Byte byte
    pub low : 32 ≤ byte
    pub high : byte ≤ 94
    pub budget : words + owed_group (length (waiting_values g) + 1) (row setting (drop (i + 1) m)).edifact ≤ total

-- From what is paid over the first item.
paid_at : (setting : Setting) (m : List Item) (i : ℕ) (d : Item) (g : Group) (words total : ℕ) → i < length m
    → words + owed_group (length (waiting_values g)) (going_from setting (drop i m)).edifact ≤ total
    → total < never → IsGroupPaidAt setting m i d g words total
paid_at setting m i d g words total lt b small =
    let cons : drop i m ≡ get_or m i d ∷ drop (i + 1) m = at_drop_more (λ (l : List Item). l) m i d lt in
    let here : words + owed_group (length (waiting_values g))
    (going_from setting (get_or m i d ∷ drop (i + 1) m)).edifact ≤ total = rw cons at b in
    let h = over_paid setting.extent (get_or m i d) g words total (row setting (drop (i + 1) m)).edifact here small in
    record { there = lt; wide = h.0.wide; byte = h.0.byte; is = h.0.is; low = h.0.low; high = h.0.high; budget = h.1 }

-- The first item of a run.
pub first_of_groups : (setting : Setting) (m : List Item) (i : ℕ) (d : Item) (words total : ℕ) → i < length m
    → words + (going_from setting (drop i m)).edifact.none ≤ total → total < never
    → IsGroupPaidAt setting m i d group.Empty words total
unfolding owed_group
first_of_groups setting m i d words total lt b small = paid_at setting m i d group.Empty words total lt b small

-- Nothing is left where the items end, so a run doesn't go on there.
some_left : (setting : Setting) (m : List Item) (g : Group) (words total : ℕ)
    → words + owed_group (length (waiting_values g)) (going_from setting m).edifact ≤ total → total < never
    → 0 < length m
some_left setting [] g words total b small = absurd (never_on g words total small b)
some_left setting (x ∷ m) g words total b small = omega arith

-- An item where a run goes on.
pub group_at : (setting : Setting) (m : List Item) (i : ℕ) (d : Item) (s : Step) (g : Group) (words total : ℕ)
    (on : Bool) → IsRightStep setting (drop i m) s
    → words + owed_group (length (waiting_values g)) (row setting (drop i m)).edifact ≤ total → total < never → on
    ≡ not (group_stops g s) → on ≡ true → IsGroupPaidAt setting m i d g words total
group_at setting m i d s g words total on right budget small is so =
    let goes : group_stops g s ≡ false = by_bool (group_stops g s) (sym is ∙ so) in
    let b = goes_on g (parts_cost setting (drop i m)) words total (going_from setting (drop i m)).edifact
    (rw (edifact_are setting (drop i m)) at budget) small (sym (stops_are setting (drop i m) s g right) ∙ goes) in
    let some = some_left setting (drop i m) g words total b small in
    paid_at setting m i d g words total (omega (arith, some, length-drop i m)) b small where
      by_bool : (b : Bool) → not b ≡ true → b ≡ false
      by_bool true e = cc
      by_bool false e = refl

-- Leaving a run.
pub leave_groups : (setting : Setting) (m : List Item) (s : Step) (g : Group) (words total : ℕ) (on : Bool)
    → IsRightStep setting m s
    → words + owed_group (length (waiting_values g)) (row setting m).edifact ≤ total → on ≡ not (group_stops g s) → on
    ≡ false
    → ((length (waiting_values g) ≡ 0) × (words + leave 2 (parts_cost setting m) ≤ total)) ⊎
    ((length (waiting_values g) ≡ 3) × (words + 3 + parts_cost setting m ≤ total))
leave_groups setting m s g words total on right budget is none =
    let stops : group_stops g s ≡ true = by_bool (group_stops g s) (sym is ∙ none) in
    leaves g (parts_cost setting m) words total (going_from setting m).edifact (rw (edifact_are setting m) at budget)
    (sym (stops_are setting m s g right) ∙ stops) where
      by_bool : (b : Bool) → not b ≡ false → b ≡ true
      by_bool true e = refl
      by_bool false e = cc

-- The budget after an item: the codewords of a whole group are written.
pub after_value : (g g' : Group) (v total : ℕ) (old new : List ℕ) (next : Groups) → IsGroupPushed g old v g' new
    → length old + owed_group (length (waiting_values g) + 1) next ≤ total
    → length new + owed_group (length (waiting_values g')) next ≤ total
unfolding owed_group
after_value group.Empty g' v total old new next p b = rw (p.0, p.1) b
after_value (group.One x) g' v total old new next p b = rw (p.0, p.1) b
after_value (group.Two x y) g' v total old new next p b = rw (p.0, p.1) b
after_value (group.Three x y z) g' v total old new next p b = grind (arith, length-append)

-- A value is pushed within the budget.
pub value_room : (g : Group) (words total : ℕ) (next : Groups)
    → words + owed_group (length (waiting_values g) + 1) next ≤ total → words + whole_words g ≤ total
unfolding owed_group
value_room g words total next h1 = grind (arith, nat_tests)

-- The values that stand fit.
pub waiting_room : (g : Group) (words total : ℕ) (next : Groups)
    → words + owed_group (length (waiting_values g)) next ≤ total → words + length (waiting_values g) ≤ total
waiting_room g words total next b = omega (arith, b, owed_some g next)

-- The budget behind the end of a run.
pub ended_budget : (g : Group) (total cost : ℕ) (old new : List ℕ)
    → ((length (waiting_values g) ≡ 0) × (length old + leave 2 cost ≤ total)) ⊎
    ((length (waiting_values g) ≡ 3) × (length old + 3 + cost ≤ total))
    → IsEdifactEnded g total old new → length new + cost ≤ total
ended_budget g total cost old new h1 h2 = grind (arith, nat_tests, length-append, nat_le)
