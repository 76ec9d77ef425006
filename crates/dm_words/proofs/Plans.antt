-- The plan and the cost that the loop finds are those of the definition.
use Rattle.dm_words.proofs.Names.{◌≡◌, ℕ, zero, suc, ◌+◌, ◌-◌, ◌*◌, ◌<◌, ◌≤◌, List, [], ◌∷◌, length, drop, get_or}
use Rattle.dm_words.proofs.Names.{refl, ◌⊎◌, sym, ap, subst, ◌++◌, ◌&&◌, arith, Bool, true, false, cond, inl, inr}
use Rattle.dm_words.proofs.Names.{nat_le, cases_lt, append-nil, at_drop_all, drop-drop, get_or-set_same}
use Rattle.dm_words.proofs.Names.{get_or-set_other, length-append, set, drop-cons, Extent, Setting, Item, Byte, Fnc1}
use Rattle.dm_words.proofs.Names.{CodeSet, C40, Text, X12, Pairs, Groups, Going, Row, Begin, One, Two, never}
use Rattle.dm_words.proofs.Names.{is_basic, low_values, shift_values, set_values, has_edifact, stay, stay_edifact}
use Rattle.dm_words.proofs.Names.{least, cost_of, going_over, with_ascii, StepBits, Costs, HasRow, step_in}
use Rattle.dm_words.proofs.Names.{none_going, rest_behind, most_behind, parts_cost, pair_first, IsWithin, IsRightStep}
use Rattle.dm_words.proofs.Names.{unit_cost, ascii, digit_pair, is_digit, single, digit_first, is_digit_item, step_of}
use Rattle.dm_words.proofs.Names.{length-drop, nat_tests}
use Rattle.std.proofs.Math.Seq.{drop-length}
use Rattle.dm_words.specs.inner.Costs.{Step, ArePaid, ArePaidGroups, AreSmall, row}
use Rattle.dm_words.proofs.CostsMet.{least_is, is_least}
use Rattle.dm_words.proofs.SpellingCounts.{unit_few}

-- An item has at most four there.
shifts_few : (set : CodeSet) (x : Item) → shift_values set x ≤ 4
shifts_few set x = grind (arith, low_values, is_basic)

-- An item has at most four values.
values_few : (set : CodeSet) (x : Item) → set_values set x ≤ 4
values_few set x = grind (arith, shifts_few, is_basic)

-- Costs of a run grow by at most four over an item.
stay_paid : (count most : ℕ) (next : Pairs) → count ≤ 4 → ArePaid most next → never ≤ most
    → ArePaid (most + 4) (stay count next)
stay_paid zero most next few h big = (omega (arith, big), omega (arith, big), omega (arith, big))
stay_paid (suc zero) most next few h big = (omega (arith, h.1), omega (arith, h.2), omega (arith, h.0))
stay_paid (suc (suc zero)) most next few h big = (omega (arith, h.2), omega (arith, h.0), omega (arith, h.1))
stay_paid (suc (suc (suc zero))) most next few h big = (omega (arith, h.0), omega (arith, h.1), omega (arith, h.2))
stay_paid (suc (suc (suc (suc zero)))) most next few h big =
    (omega (arith, h.1), omega (arith, h.2), omega (arith, h.0))
stay_paid (suc (suc (suc (suc (suc n))))) most next few h big = absurd (omega (arith, few))

stay_edifact_paid : (has : Bool) (most : ℕ) (next : Groups) → ArePaidGroups most next → never ≤ most
    → ArePaidGroups (most + 4) (stay_edifact has next)
stay_edifact_paid has most next h1 h2 = grind (arith, nat_tests)

-- Up to the end of the symbol it costs nothing, or more than any cost.
rest_few : (behind : ℕ) → rest_behind behind ≤ never
rest_few behind = grind arith

-- Items cost at most two codewords each.
pub cost_most : (setting : Setting) (m : List Item) → parts_cost setting m ≤ setting.behind + 2 * length m
unfolding row
cost_most setting [] = omega arith
cost_most setting (x ∷ m) = omega (arith, least_is setting x m One, unit_few x, cost_most setting m)

-- No cost is too great.
pub row_within : (setting : Setting) (m : List Item) → length m ≤ 3200 → setting.behind ≤ most_behind
    → IsWithin (length m) (row setting m)
unfolding row
row_within setting [] few small = grind (arith, nat_tests, ascii, rest_few)
row_within setting (x ∷ m) few small =
    let h = row_within setting m (omega (arith, few)) small in
    let a : parts_cost setting (x ∷ m) ≤ most_behind + 2 * length (x ∷ m) =
    omega (arith, least_is setting x m One, unit_few x, h.ascii) in
    let l = leaves (parts_cost setting (x ∷ m)) in
    let s = in_segment x h in
    let most = never + 4 * length m in
    let c = stay_paid (set_values C40 x) most (row setting m).c40 (values_few C40 x) h.c40 (omega arith) in
    let t = stay_paid (set_values Text x) most (row setting m).text (values_few Text x) h.text (omega arith) in
    let y = stay_paid (set_values X12 x) most (row setting m).x12 (values_few X12 x) h.x12 (omega arith) in
    let e = stay_edifact_paid (has_edifact setting.extent x) most (row setting m).edifact h.edifact (omega arith) in
    record {
      ascii = a;
      second = omega (arith, h.ascii, few);
      c40 = (omega (arith, a, few, l), omega (arith, c.1), omega (arith, c.2));
      text = (omega (arith, a, few, l), omega (arith, t.1), omega (arith, t.2));
      x12 = (omega (arith, a, few, l), omega (arith, y.1), omega (arith, y.2));
      edifact = (omega (arith, a, few, l), omega (arith, e.1), omega (arith, e.2), omega (arith, a, few));
      bytes = s.0;
      near = s.1;
      rest = s.2;
    } where
      leaves : (c : ℕ) → (cond (nat_le c 1) c (1 + c) ≤ 1 + c) × (cond (nat_le c 2) c (1 + c) ≤ 1 + c)
      leaves c = (by_test (nat_le c 1), by_test (nat_le c 2)) where
        by_test : (t : Bool) → cond t c (1 + c) ≤ 1 + c
        by_test true = omega arith
        by_test false = omega arith

      in_segment : (x : Item) → IsWithin (length m) (row setting m)
          → ((going_over setting.extent x (row setting m)).segment.bytes ≤ never) ×
          ((going_over setting.extent x (row setting m)).segment.near ≤ length (x ∷ m))
          × ((going_over setting.extent x (row setting m)).segment.rest ≤ never + 4 * length (x ∷ m))
      in_segment Fnc1 h = (omega arith, omega arith, omega arith)
      in_segment (Byte b) h = (
        omega (arith, h.ascii, few),
        by_test (nat_le (row setting m).ascii (row setting m).segment.bytes),
        omega (arith, h.rest),
      ) where
        by_test : (t : Bool) → cond t 1 (1 + (row setting m).segment.near) ≤ suc (length m)
        by_test true = omega arith
        by_test false = omega (arith, h.near)

-- Nor is one of a row that the loop has.
pub within : (setting : Setting) (m : List Item) (at : ℕ) → length m ≤ 3123 → setting.behind ≤ most_behind
    → IsWithin 3200 (row setting (drop at m))
within setting m at few small = grind (arith, nat_tests, length-drop, row_within, ascii)

-- Of equally cheap ways ASCII is taken.
pub record TakesAscii (x : Item) (pair : Bool) (next : Row) (going : Going) (cost : ℕ) (begins : Begin) : Type 0 where
  pub two : cost_of x pair next going Two ≡ cost → begins ≡ Two
  pub one : cost_of x pair next going One ≡ cost → (begins ≡ One) ⊎ (begins ≡ Two)

-- What is found of an item is right.
right_here : (setting : Setting) (x : Item) (rest : List Item) (begins : Begin) (step : Step)
    → let next = row setting rest in let pair = pair_first (x ∷ rest) in let going = going_over setting.extent x next in
    cost_of x pair next going begins ≡ least x pair next going
    → TakesAscii x pair next going (least x pair next going) begins
    → step ≡ step_of (least x pair next going) begins going
    → IsRightStep setting (x ∷ rest) step
unfolding row
right_here setting x rest begins step chosen takes is =
    subst (IsRightStep setting (x ∷ rest)) (sym is)
    (record { begins = sym chosen; pair = λ e. takes.two (sym e); one = λ e. takes.one (sym e); ends = refl })

-- What is found of an item and what follows is right.
turn_here : (setting : Setting) (x : Item) (rest : List Item) (next new : Row) (pair : Bool) (going : Going)
    (begins : Begin) (cost : ℕ) (step : Step)
    → next ≡ row setting rest → pair ≡ pair_first (x ∷ rest) → going ≡ going_over setting.extent x next → cost
    ≡ least x pair next going → cost_of x pair next going begins ≡ cost → TakesAscii x pair next going cost begins
    → step ≡ step_of cost begins going → new ≡ with_ascii cost next.ascii going
    → (new ≡ row setting (x ∷ rest)) × IsRightStep setting (x ∷ rest) step
unfolding row
turn_here setting x rest next new pair going begins cost step is_next is_pair is_going is_cost chosen takes is_step
    is_new =
    grind (arith, nat_tests, cost_of, pair_first, row, going_over, least, step_of, ascii, right_here)

-- No digit stands behind the last item.
pub digit_last : (m : List Item) → digit_first (drop (length m) m) ≡ false
digit_last m = ap digit_first (drop-length m)

-- Whether the items from one before a place on begin with a digit is said by that one.
pub digit_here : (m : List Item) (at : ℕ) (x d : Item) → 0 < at → at ≤ length m → x ≡ get_or m (at - 1) d
    → is_digit_item x ≡ digit_first (drop (at - 1) m)
digit_here m at x d some within is_x = cc ((ap digit_first (drop-cons m (at - 1) d (omega (arith, some, within)))))

-- A turn of the loop.
pub turn : (setting : Setting) (m : List Item) (at : ℕ) (x d : Item) (next new : Row) (pair : Bool) (going : Going)
    (begins : Begin) (cost : ℕ) (step : Step)
    → 0 < at → at ≤ length m → x ≡ get_or m (at - 1) d
    → next ≡ row setting (drop at m) → pair ≡ pair_first (x ∷ drop at m)
    → going ≡ going_over setting.extent x next → cost
    ≡ least x pair next going → cost_of x pair next going begins ≡ cost → TakesAscii x pair next going cost begins
    → step ≡ step_of cost begins going → new ≡ with_ascii cost next.ascii going
    → (new ≡ row setting (drop (at - 1) m)) × IsRightStep setting (drop (at - 1) m) step
turn setting m at x d next new pair going begins cost step some within is_x is_next is_pair is_going is_cost chosen
    takes is_step is_new =
    let k : suc (at - 1) ≡ at = omega (arith, some) in
    let cons : drop (at - 1) m ≡ x ∷ drop at m = cc (drop-cons m (at - 1) d (omega (arith, some, within))) in
    let P : List Item → Type 0 = λ r. (new ≡ row setting r) × IsRightStep setting r step in
    subst P (sym cons)
    (turn_here setting x (drop at m) _ _ _ _ _ _ _ is_next is_pair is_going is_cost chosen takes is_step is_new)

-- A byte by itself takes so many codewords of ASCII.
single_length : (b : ℕ) → length (single b) ≡ unit_cost (Byte b)
single_length b = grind arith

-- So it is where the items behind it are by themselves.
alone_length : (b : ℕ) (m : List Item) → ascii (Byte b ∷ m) ≡ single b ++ ascii m
    → length (ascii (Byte b ∷ m)) ≡ unit_cost (Byte b) + length (ascii m)
alone_length b m e = omega (arith, ap length e, length-append (single b) (ascii m), single_length b)

-- One more item before others takes so many more codewords of ASCII.
ascii_more : (x : Item) (rest : List Item) → length (ascii (x ∷ rest))
    ≡ cond (is_digit_item x && digit_first rest) (1 + length (ascii (drop 1 rest)))
    (unit_cost x + length (ascii rest))
ascii_more x rest = grind (arith, is_digit, unit_cost, alone_length, append-nil, digit_pair)

-- So it is in a turn of the loop.
pub ascii_turn : (m : List Item) (at : ℕ) (x d : Item) (pair : Bool) → 0 < at → at ≤ length m
    → x ≡ get_or m (at - 1) d → pair ≡ pair_first (x ∷ drop at m)
    → length (ascii (drop (at - 1) m))
    ≡ cond pair (1 + length (ascii (drop (at + 1) m))) (unit_cost x + length (ascii (drop at m)))
ascii_turn m at x d pair some within is_x is_pair =
    let k : suc (at - 1) ≡ at = omega (arith, some) in
    let cons : drop (at - 1) m ≡ x ∷ drop at m = cc (drop-cons m (at - 1) d (omega (arith, some, within))) in
    cc (ascii_more x (drop at m), drop-drop 1 at m)

-- One more step of the plan is written.
pub plan_more : (setting : Setting) (m : List Item) (at : ℕ) (old : List StepBits) (step : StepBits) → 0 < at
    → at ≤ length m → length m < length old → IsRightStep setting (drop (at - 1) m) (step_in step)
    → ((i : ℕ) (other : StepBits) → at ≤ i → i ≤ length m
    → IsRightStep setting (drop i m) (step_in (get_or old i other)))
    → (i : ℕ) (other : StepBits) → at - 1 ≤ i → i ≤ length m
    → IsRightStep setting (drop i m) (step_in (get_or (set old (at - 1) step) i other))
plan_more setting m at old step some within room right others i other from to =
    elim (cases_lt (at - 1) i) [
      | inl later ↦ subst (λ (s : StepBits). IsRightStep setting (drop i m) (step_in s))
          (sym (get_or-set_other old (at - 1) i step other (omega (arith, later))))
          (others i other (omega (arith, later, some)) to)
      | inr le ↦ (let e : at - 1 ≡ i = omega (arith, le, from) in
          let here : IsRightStep setting (drop (at - 1) m) (step_in (get_or (set old (at - 1) step) (at - 1) other)) =
          rw (sym (get_or-set_same old (at - 1) step other (omega (arith, within, some, room)))) at right in
          rw (← e) here)
    ]

-- The first step of the plan that is written is that behind the last item.
pub plan_first : (setting : Setting) (m : List Item) (old : List StepBits) (step : StepBits)
    → length m < length old → step_in step ≡ step_of setting.behind Two (none_going setting.behind)
    → (i : ℕ) (other : StepBits) → length m ≤ i → i ≤ length m
    → IsRightStep setting (drop i m) (step_in (get_or (set old (length m) step) i other))
unfolding row
plan_first setting m old step room is i other from to =
    let all : drop (length m) m ≡ [] = at_drop_all (λ (l : List Item). l) m (length m) (omega arith) in
    let right : IsRightStep setting [] (step_in step) =
    subst (IsRightStep setting []) (sym is)
    (record { begins = tt; pair = λ e. refl; one = λ e. inr refl; ends = refl }) in
    let here : IsRightStep setting (drop (length m) m) (step_in (get_or (set old (length m) step) (length m) other)) =
    subst (λ (s : StepBits). IsRightStep setting (drop (length m) m) (step_in s))
    (sym (get_or-set_same old (length m) step other room)) (rw (sym all) at right) in
    let e : length m ≡ i = omega (arith, from, to) in
    subst (λ (j : ℕ). IsRightStep setting (drop j m) (step_in (get_or (set old (length m) step) j other))) e here

-- ---- lanes

-- The costs behind the last item.
pub last_costs : (setting : Setting) (m : List Item) (costs : Costs)
    → HasRow (with_ascii setting.behind never (none_going setting.behind)) costs
    → HasRow (row setting (drop (length m) m)) costs
unfolding row
last_costs setting m costs has =
    let all : drop (length m) m ≡ [] = at_drop_all (λ (l : List Item). l) m (length m) (omega arith) in
    subst (λ (l : List Item). HasRow (row setting l) costs) (sym all) has

-- Behind the last item no cost is too great.
pub none_small : (behind : ℕ) → AreSmall (none_going behind)
none_small behind = grind (arith, nat_tests, rest_few)

-- Over an item no cost grows too great.
pub going_small : (extent : Extent) (x : Item) (r : Row) → IsWithin 3200 r → AreSmall (going_over extent x r)
going_small extent x r w =
    let c = stay_paid (set_values C40 x) 29184 r.c40 (values_few C40 x) w.c40 (omega arith) in
    let t = stay_paid (set_values Text x) 29184 r.text (values_few Text x) w.text (omega arith) in
    let y = stay_paid (set_values X12 x) 29184 r.x12 (values_few X12 x) w.x12 (omega arith) in
    let e = stay_edifact_paid (has_edifact extent x) 29184 r.edifact w.edifact (omega arith) in
    let s = in_segment x in
    record {
      c40 = (omega (arith, c.0), omega (arith, c.1), omega (arith, c.2));
      text = (omega (arith, t.0), omega (arith, t.1), omega (arith, t.2));
      x12 = (omega (arith, y.0), omega (arith, y.1), omega (arith, y.2));
      edifact = (omega (arith, e.0), omega (arith, e.1), omega (arith, e.2), omega (arith, e.3));
      bytes = s.0;
      rest = s.1;
    } where
      in_segment : (x : Item) → ((going_over extent x r).segment.bytes ≤ 17000)
          × ((going_over extent x r).segment.rest ≤ 30000)
      in_segment Fnc1 = (omega arith, omega arith)
      in_segment (Byte b) = (omega (arith, w.bytes), omega (arith, w.rest))

-- The least cost of an item is small.
pub least_small : (x : Item) (pair : Bool) (r : Row) (g : Going) → IsWithin 3200 r → least x pair r g ≤ 16384
least_small x pair r g w = omega (arith, is_least x pair r g One, unit_few x, w.ascii)

-- The numbers of a row that are kept by themselves are small.
pub kept_small : (r : Row) (costs : Costs) → IsWithin 3200 r → HasRow r costs
    → (costs.ascii ≤ 16384) × (costs.after ≤ 16384) × (costs.near ≤ 16384)
kept_small r costs w h = grind (arith, nat_tests, nat_le, cond)
