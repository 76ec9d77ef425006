-- A run that follows the plan stays within its budget.
use Rattle.dm_words.proofs.Names.{◌≡◌, ℕ, zero, suc, ◌+◌, ◌-◌, ◌*◌, ◌/◌, ◌<◌, ◌≤◌, List, [], ◌∷◌, ◌++◌, length, take}
use Rattle.dm_words.proofs.Names.{drop, get_or, refl, sym, ap, ◌∙◌, arith, Bool, true, false, cond, ◌⊎◌}
use Rattle.dm_words.proofs.Names.{nat_le, ◌&&◌, not, length-drop, at_drop_more, get_or-drop, take-suc, nat_tests}
use Rattle.dm_words.proofs.Names.{Setting, Item, CodeSet, Pairs, Waiting, never, set_values, no_pairs}
use Rattle.dm_words.proofs.Names.{stay, leave, or_leave, going_from, going_pairs, row_pairs, parts_cost, IsRightStep}
use Rattle.dm_words.proofs.Names.{part_values, is_empty, IsItemPushed}
use Rattle.dm_words.specs.inner.Costs.{Step, owed, row}
use Rattle.dm_words.specs.inner.Written.{run_ends}
use Rattle.dm_words.proofs.RunWritten.{pushed_lengths}
use Rattle.dm_words.proofs.SpellingCounts.{spelling_count}
use Rattle.dm_words.proofs.CostsMet.{owed_values, stay_is}

-- Whole pairs are paid.
pub owed_more : (n r : ℕ) (p : Pairs) → owed (3 * n + r) p ≡ 2 * n + owed r p
unfolding owed
owed_more zero r p = let e : 3 * 0 + r ≡ r = omega arith in omega (arith, ap (λ (k : ℕ). owed k p) e)
owed_more (suc n) r p =
    let e : 3 * suc n + r ≡ suc (suc (suc (3 * n + r))) = omega arith in
    let here : owed (3 * suc n + r) p ≡ 2 + owed (3 * n + r) p = ap (λ (k : ℕ). owed k p) e in
    omega (arith, here, owed_more n r p)

-- Where the run goes on, it can pay for that.
pub goes_on : (p : Waiting) (cost k words total : ℕ) (next : Pairs)
    → words + owed (length (part_values p)) (or_leave cost (stay k next)) ≤ total → total < never
    → is_empty p && nat_le (leave 1 cost) (stay k next).none ≡ false
    → (0 < k) × (words + owed (length (part_values p) + k) next ≤ total)
unfolding owed
goes_on p cost zero words total next budget small goes = absurd (by_part p budget goes) where
  by_part : (p : Waiting) → words + owed (length (part_values p)) (or_leave cost no_pairs) ≤ total
      → is_empty p && nat_le (leave 1 cost) never ≡ false → ⊥
  by_part Waiting.Empty b g = let lt : never < leave 1 cost = grind (arith, nat_tests) in omega (arith, lt, b, small)
  by_part (Waiting.One x) b g = omega (arith, b, small)
  by_part (Waiting.Two x y) b g = omega (arith, b, small)
goes_on p cost (suc k) words total next budget small goes =
    let over = stay (suc k) next in
    let e : owed (length (part_values p)) over ≡ owed (length (part_values p) + suc k) next =
    cc (stay_is (suc k) next (omega arith), owed_values (suc k) (length (part_values p)) next) in
    let b : words + owed (length (part_values p)) over ≤ total = by_part p over budget goes in
    (omega arith, omega (arith, b, e)) where
      by_part : (p : Waiting) (over : Pairs) → words + owed (length (part_values p)) (or_leave cost over) ≤ total
          → is_empty p && nat_le (leave 1 cost) over.none ≡ false → words + owed (length (part_values p)) over ≤ total
      by_part Waiting.Empty over b g =
          let lt : over.none < leave 1 cost = grind (arith, nat_tests) in omega (arith, lt, b)
      by_part (Waiting.One x) over b g = omega (arith, b, small)
      by_part (Waiting.Two x y) over b g = omega (arith, b, small)

-- Where the run ends, it can pay for leaving.
pub leaves : (p : Waiting) (cost words total : ℕ) (over : Pairs)
    → words + owed (length (part_values p)) (or_leave cost over) ≤ total
    → is_empty p && nat_le (leave 1 cost) over.none ≡ true
    → words + leave 1 cost ≤ total
unfolding owed
leaves p cost words total over h1 h2 = grind (arith, nat_tests)

-- The costs of a run are those of going on, or of leaving.
pub pairs_are : (setting : Setting) (set : CodeSet) (m : List Item) → row_pairs set (row setting m)
    ≡ or_leave (parts_cost setting m) (going_pairs set (going_from setting m))
unfolding row
pairs_are setting set m = grind (arith, nat_tests)

-- The plan says whether a run ends.
pub ends_are : (setting : Setting) (set : CodeSet) (m : List Item) (s : Step) → IsRightStep setting m s → run_ends set s
    ≡ nat_le (leave 1 (parts_cost setting m)) (going_pairs set (going_from setting m)).none
ends_are setting set m s h1 = grind (arith, nat_tests, run_ends)

-- An item is pushed within the budget.
pub item_paid : (set : CodeSet) (p p' : Waiting) (k n words words' total : ℕ) (next : Pairs)
    → words + owed (length (part_values p) + k) next ≤ total
    → length (part_values p) + k ≡ 3 * n + length (part_values p') → words' ≡ words + 2 * n
    → words' + owed (length (part_values p')) next ≤ total
item_paid set p p' k n words words' total next budget e is = grind (arith, owed, part_values, owed_more)

-- Where a run goes on over an item, its costs are these; and behind the last item none goes on.
going_is : (setting : Setting) (set : CodeSet) (x : Item) (rest : List Item)
    → going_pairs set (going_from setting (x ∷ rest)) ≡ stay (set_values set x) (row_pairs set (row setting rest))
going_is setting set x rest = grind (arith, nat_tests)

none_goes : (setting : Setting) (set : CodeSet) → going_pairs set (going_from setting []) ≡ no_pairs
none_goes setting set = grind (arith, nat_tests)

-- Where a run goes on, the set has the item, and the run can pay for it.
run_here : (setting : Setting) (set : CodeSet) (x : Item) (rest : List Item) (s : Step) (p : Waiting) (words total : ℕ)
    → IsRightStep setting (x ∷ rest) s
    → words + owed (length (part_values p)) (row_pairs set (row setting (x ∷ rest))) ≤ total
    → total < never → is_empty p && run_ends set s ≡ false
    → (0 < set_values set x) ×
    (words + owed (length (part_values p) + set_values set x) (row_pairs set (row setting rest)) ≤ total)
run_here setting set x rest s p words total right budget small goes =
    let over = going_is setting set x rest in
    goes_on p (parts_cost setting (x ∷ rest)) (set_values set x) words total (row_pairs set (row setting rest))
    (rw over at (rw (pairs_are setting set (x ∷ rest)) at budget)) small
    (rw over at (rw (ends_are setting set (x ∷ rest) s right) at goes))

-- Where a run goes on, an item is there.
run_some : (setting : Setting) (set : CodeSet) (m : List Item) (s : Step) (p : Waiting) (words total : ℕ)
    → IsRightStep setting m s → words + owed (length (part_values p)) (row_pairs set (row setting m)) ≤ total
    → total < never → is_empty p && run_ends set s ≡ false → 0 < length m
run_some setting set [] s p words total right budget small goes =
    let none = none_goes setting set in
    let h = goes_on p (parts_cost setting []) 0 words total no_pairs
    (rw none at (rw (pairs_are setting set []) at budget)) small
    (rw none at (rw (ends_are setting set [] s right) at goes)) in
    absurd (omega (arith, h.0))
run_some setting set (x ∷ rest) s p words total right budget small goes = omega arith

-- What is known of the item at an index where a run goes on.
pub record IsPaidAt (setting : Setting) (set : CodeSet) (m : List Item) (i : ℕ) (d : Item) (p : Waiting)
    (words total : ℕ) : Type 0 where
  pub there : i < length m
  pub held : 0 < set_values set (get_or m i d)
  pub budget : words + owed (length (part_values p) + set_values set (get_or m i d))
      (row_pairs set (row setting (drop (i + 1) m))) ≤ total

pub run_at : (setting : Setting) (set : CodeSet) (m : List Item) (i : ℕ) (d : Item) (s : Step) (p : Waiting)
    (words total : ℕ) (on : Bool) → IsRightStep setting (drop i m) s
    → words + owed (length (part_values p)) (row_pairs set (row setting (drop i m))) ≤ total → total < never → on
    ≡ not (is_empty p && run_ends set s) → on ≡ true → IsPaidAt setting set m i d p words total
run_at setting set m i d s p words total on right budget small is so =
    let goes : is_empty p && run_ends set s ≡ false = by_bool (is_empty p && run_ends set s) (sym is ∙ so) in
    let some = run_some setting set (drop i m) s p words total right budget small goes in
    let lt : i < length m = omega (arith, some, length-drop i m) in
    let cons : drop i m ≡ get_or m i d ∷ drop (i + 1) m = at_drop_more (λ (l : List Item). l) m i d lt in
    let h = run_here setting set (get_or m i d) (drop (i + 1) m) s p words total (rw cons at right) (rw cons at budget)
    small goes in
    record { there = lt; held = h.0; budget = h.1 } where
      by_bool : (b : Bool) → not b ≡ true → b ≡ false
      by_bool true e = cc
      by_bool false e = refl

-- The first item of a run.
pub first_at : (setting : Setting) (set : CodeSet) (m : List Item) (i : ℕ) (d : Item) (words total : ℕ) → i < length m
    → words + owed 0 (going_pairs set (going_from setting (drop i m))) ≤ total → total < never
    → IsPaidAt setting set m i d Waiting.Empty words total
unfolding owed
first_at setting set m i d words total lt budget small =
    let cons : drop i m ≡ get_or m i d ∷ drop (i + 1) m = at_drop_more (λ (l : List Item). l) m i d lt in
    let h = by_count (set_values set (get_or m i d)) (row_pairs set (row setting (drop (i + 1) m)))
    (rw (going_is setting set (get_or m i d) (drop (i + 1) m)) at (rw cons at budget)) in
    record { there = lt; held = h.0; budget = h.1 } where
      by_count : (k : ℕ) (next : Pairs) → words + owed 0 (stay k next) ≤ total
          → (0 < k) × (words + owed (0 + k) next ≤ total)
      by_count zero next b = absurd (omega (arith, b, small))
      by_count (suc k) next b = let e : owed 0 (stay (suc k) next)
          ≡ owed (0 + suc k) next = ap (owed 0) (stay_is (suc k) next (omega arith))
          ∙ owed_values (suc k) 0 next in (omega arith, omega (arith, b, e))

-- The codewords of an item fit.
pub item_room : (n words total : ℕ) (p : Pairs) → words + owed n p ≤ total → words + 2 * (n / 3) ≤ total
item_room n words total p b = grind (arith, owed, owed_more)

-- The budget after an item.
pub after_item : (set : CodeSet) (x : Item) (p p' : Waiting) (old new : List ℕ) (total : ℕ) (next : Pairs)
    → IsItemPushed set x p old new p' → length old + owed (length (part_values p) + set_values set x) next ≤ total
    → length new + owed (length (part_values p')) next ≤ total
after_item set x p p' old new total next i b =
    let n = pushed_lengths old (part_values p) i.0 new p' i.2 in
    item_paid set p p' (set_values set x) n.0 (length old) (length new) total next b
    (omega (arith, n.2, spelling_count set i.0 x i.1)) n.1

-- The items of a run, with one more.
pub one_more : (m : List Item) (from i : ℕ) (d : Item) → from ≤ i → i < length m → take (i - from) (drop from m)
    ++ get_or m i d ∷ [] ≡ take (i + 1 - from) (drop from m)
one_more m from i d le lt =
    let e : i + 1 - from ≡ suc (i - from) = omega (arith, le) in
    let at : from + (i - from) ≡ i = omega (arith, le) in
    let here : get_or (drop from m) (i - from) d ≡ get_or m i d = cc (get_or-drop from m (i - from) d) in
    cc ((take-suc (drop from m) (i - from) d (omega (arith, lt, le, length-drop from m))))

-- Leaving a run.
pub leave_at : (setting : Setting) (set : CodeSet) (m : List Item) (s : Step) (p : Waiting) (words total : ℕ)
    (on : Bool)
    → IsRightStep setting m s → words + owed (length (part_values p)) (row_pairs set (row setting m)) ≤ total
    → on ≡ not (is_empty p && run_ends set s) → on ≡ false
    → (is_empty p ≡ true) × (words + leave 1 (parts_cost setting m) ≤ total)
leave_at setting set m s p words total on right budget is none =
    let ends : is_empty p && run_ends set s ≡ true = by_bool (is_empty p && run_ends set s) (sym is ∙ none) in (
      both (is_empty p) (run_ends set s) ends,
      leaves p (parts_cost setting m) words total (going_pairs set (going_from setting m))
          (rw (pairs_are setting set m) at budget) (rw (ends_are setting set m s right) at ends),
    ) where
      by_bool : (b : Bool) → not b ≡ false → b ≡ true
      by_bool true e = refl
      by_bool false e = cc

      both : (a b : Bool) → a && b ≡ true → a ≡ true
      both true b e = refl
      both false b e = cc

-- Leaving costs one more where much follows.
pub unlatched : (c : ℕ) → (c ≤ 1) ⊎ (leave 1 c ≡ 1 + c)
unlatched c = grind (arith, nat_tests, nat_le, cond)
