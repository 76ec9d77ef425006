-- What the plan begins at an item is paid.
use Rattle.dm_words.proofs.Names.{◌≡◌, ℕ, ◌+◌, ◌-◌, ◌<◌, ◌≤◌, List, [], ◌∷◌, length, drop, get_or, refl, ap, ◌∙◌}
use Rattle.dm_words.proofs.Names.{arith, Bool, true, false, cond, ◌&&◌, nat_le, length-drop, at_drop_more, Setting}
use Rattle.dm_words.proofs.Names.{Item, CodeSet, Begin, One, Two, Run, Edifact, Segment, Rest, never, unit_cost}
use Rattle.dm_words.proofs.Names.{cost_of, segment_cost, is_digit_item, digit_first, pair_first, row, parts_cost}
use Rattle.dm_words.proofs.Names.{going_from, going_pairs, IsRightStep, nat_tests}
use Rattle.dm_words.specs.inner.Costs.{Step, owed}
use Rattle.dm_words.proofs.CostsMet.{second_is}

-- Two digits are paid.
pub record IsPairAt (setting : Setting) (m : List Item) (i : ℕ) (d : Item) (words total : ℕ) : Type 0 where
  pub second_there : i + 1 < length m
  pub first : is_digit_item (get_or m i d) ≡ true
  pub second : is_digit_item (get_or m (i + 1) d) ≡ true
  pub paid : words + 1 + parts_cost setting (drop (i + 2) m) ≤ total

module _ (setting : Setting) (m : List Item) (i : ℕ) (d : Item) (s : Step) (there : i < length m)
    (right : IsRightStep setting (drop i m) s) (words total : ℕ)
    (budget : words + parts_cost setting (drop i m) ≤ total) where
  cons : drop i m ≡ get_or m i d ∷ drop (i + 1) m
  cons = at_drop_more (λ (l : List Item). l) m i d there

  -- The cost is that of what begins.
  begin_cost : (b : Begin) → s.begins ≡ b → parts_cost setting (drop i m)
      ≡ cost_of (get_or m i d) (pair_first (drop i m)) (row setting (drop (i + 1) m)) (going_from setting (drop i m)) b
  begin_cost b is = grind (arith, nat_tests, cons, parts_cost, cost_of, pair_first, row, going_from)

  pub one_paid : s.begins ≡ One → words + unit_cost (get_or m i d) + parts_cost setting (drop (i + 1) m) ≤ total
  one_paid is = omega (arith, begin_cost One is, budget)

  pub pair_paid : total < never → s.begins ≡ Two → IsPairAt setting m i d words total
  pair_paid small is = by_test (pair_first (drop i m)) refl (begin_cost Two is) where
    by_test : (t : Bool) → pair_first (drop i m) ≡ t → parts_cost setting (drop i m)
        ≡ cond t (1 + (row setting (drop (i + 1) m)).second) never → IsPairAt setting m i d words total
    by_test false e cost = absurd (omega (arith, cost, budget, small))
    by_test true e cost =
        let both : is_digit_item (get_or m i d) && digit_first (drop (i + 1) m) ≡ true = (rw cons at e) in
        let digits = halves (is_digit_item (get_or m i d)) (digit_first (drop (i + 1) m)) both in
        let lt : i + 1 < length m = some_digit (drop (i + 1) m) digits.1 (length-drop (i + 1) m) in
        let two : i + 1 + 1 ≡ i + 2 = omega arith in
        let next : drop (i + 1) m ≡ get_or m (i + 1) d ∷ drop (i + 2) m =
        at_drop_more (λ (l : List Item). l) m (i + 1) d lt ∙ ap (λ (k : ℕ). get_or m (i + 1) d ∷ drop k m) two in
        let paid : (row setting (drop (i + 1) m)).second ≡ parts_cost setting (drop (i + 2) m) =
        cc (second_is setting (get_or m (i + 1) d) (drop (i + 2) m)) in
        record {
          second_there = lt;
          first = digits.0;
          second = cc;
          paid = omega (arith, cost, budget, paid);
        } where
          halves : (a b : Bool) → a && b ≡ true → (a ≡ true) × (b ≡ true)
          halves true true e = (refl, refl)
          halves true false e = absurd cc
          halves false b e = absurd cc

          some_digit : (l : List Item) → digit_first l ≡ true → length l ≡ length m - (i + 1) → i + 1 < length m
          some_digit [] e is = absurd cc
          some_digit (x ∷ l) e is = omega (arith, is)

  pub run_paid : (set : CodeSet) → s.begins ≡ Run set
      → words + 1 + owed 0 (going_pairs set (going_from setting (drop i m))) ≤ total
  unfolding owed
  run_paid set h1 = grind (arith, nat_tests, begin_cost)

  pub edifact_paid : s.begins ≡ Edifact → words + 1 + (going_from setting (drop i m)).edifact.none ≤ total
  edifact_paid is = omega (arith, begin_cost Edifact is, budget)

  pub segment_paid : s.begins ≡ Segment
      → (words + segment_cost (going_from setting (drop i m)).segment.bytes (going_from setting (drop i m)).segment.near
      ≤ total) × (words + 2 + (going_from setting (drop i m)).segment.bytes ≤ total)
  segment_paid is = grind (arith, nat_tests, segment_cost, going_from, begin_cost, nat_le, cond)

  pub rest_paid : s.begins ≡ Rest → words + 2 + (going_from setting (drop i m)).segment.rest ≤ total
  rest_paid is = omega (arith, begin_cost Rest is, budget)
