-- What items with marks cost, from mark to mark.
use Rattle.dm_words.proofs.Names.{All, All-take, All-drop, ◌≡◌, ℕ, zero, suc, ◌+◌, ◌-◌, ◌*◌, ◌<◌, ◌≤◌, List, [], ◌∷◌}
use Rattle.dm_words.proofs.Names.{◌++◌, length, take, drop, get_or, sym, ap, subst, ◌∙◌, arith}
use Rattle.dm_words.proofs.Names.{length-append, set, cases_lt, get_or-set_same, get_or-set_other, macro_header}
use Rattle.dm_words.proofs.Names.{macro_trailer, macro_text, most_behind, at_drop_more, drop-drop, take-append-drop}
use Rattle.dm_words.proofs.Names.{take_rest, length-take, length-drop, All-append, take-suc, Item, Mark, Wide, eci_word}
use Rattle.dm_words.proofs.Names.{designator, most_assigned, AreMarks, mark_words, IsItem, IsMessage, at_end}
use Rattle.dm_words.proofs.Names.{before_words, parts_cost, marked_cost, behind_first, first_text, first_end}
use Rattle.dm_words.proofs.ContentForms.{marks_within}
use Rattle.dm_words.proofs.Marks.{lower}
use Rattle.dm_words.proofs.Plans.{cost_most}
use Rattle.dm_words.proofs.Names.{nat_tests}

-- A designator has at most three codewords.
pub designator_few : (number : ℕ) → length (designator number) ≤ 3
designator_few number = grind arith

-- Items with marks cost at most two codewords for each item and four for each mark.
pub marked_most : (seen : ℕ) (items : List Item) (marks : List Mark)
    → marked_cost seen items marks ≤ 2 * length items + 4 * length marks
marked_most seen items [] = omega (arith, cost_most (at_end Wide) items)
marked_most seen items (m ∷ marks) =
    let n = m.place - seen in
    let rest = marked_cost m.place (drop n items) marks in
    omega (
      arith,
      cost_most (before_words (length (mark_words m) + rest)) (take n items),
      designator_few m.number,
      marked_most m.place (drop n items) marks,
      length-take n items,
      length-drop n items,
    )

-- The cost is that of the items before the first mark, and of what follows them.
pub cost_is : (seen : ℕ) (items : List Item) (marks : List Mark) → marked_cost seen items marks
    ≡ parts_cost (before_words (behind_first seen items marks)) (first_text seen items marks)
cost_is seen items marks = grind (arith, nat_tests)

-- Marks begin at a place or behind it.
abbrev pub StartAt : ℕ → List Mark → Type 0
StartAt place [] = Unit {0}
StartAt place (m ∷ marks) = place ≤ m.place

-- Marks in order do.
pub start_at : (place most : ℕ) (marks : List Mark) → AreMarks place most marks → StartAt place marks
start_at place most marks h1 = grind (arith, nat_tests)

-- Of marks in order the further ones are in order.
marks_drop : (least most k : ℕ) (marks : List Mark) → AreMarks least most marks → AreMarks least most (drop k marks)
marks_drop least most zero marks are = are
marks_drop least most (suc k) [] are = are
marks_drop least most (suc k) (m ∷ marks) are = grind (arith, nat_tests, lower, marks_drop m.place most k marks are.2)

-- The items before the first mark, from a further place on.
text_shift : (seen place : ℕ) (items : List Item) (marks : List Mark) → seen ≤ place → StartAt place marks
    → first_text place (drop (place - seen) items) marks
    ≡ take (first_end seen items marks - (place - seen)) (drop (place - seen) items)
text_shift seen place items marks h1 h2 = grind (arith, take_rest)

-- So the cost from a further place on is this.
cost_from : (seen place : ℕ) (items : List Item) (marks : List Mark) → seen ≤ place → StartAt place marks
    → marked_cost place (drop (place - seen) items) marks
    ≡ parts_cost (before_words (behind_first seen items marks))
    (take (first_end seen items marks - (place - seen)) (drop (place - seen) items))
cost_from seen place items marks h1 h2 =
    grind (arith, cost_is, text_shift, nat_tests, drop-drop)

-- They end no further in front than at a place that no mark stands before.
end_from : (seen place : ℕ) (items : List Item) (marks : List Mark) → AreMarks place (seen + length items) marks
    → place - seen ≤ first_end seen items marks
end_from seen place items marks h1 = grind (arith, nat_tests)

-- Items are ones where those up to an index and those behind it are.
pub all_items : (items : List Item) (end : ℕ) → IsMessage (take end items) → IsMessage (drop end items)
    → IsMessage items
all_items items end front behind =
    subst IsMessage (take-append-drop end items) (All-append IsItem (take end items) (drop end items) front behind)

-- So it is from another index on.
pub more_items : (items : List Item) (from end : ℕ) → from ≤ end → IsMessage (take (end - from) (drop from items))
    → IsMessage (drop end items) → IsMessage (drop from items)
more_items items from end le here behind =
    let sum : from + (end - from) ≡ end = omega (arith, le) in
    all_items (drop from items) (end - from) here
    (subst IsMessage (sym (drop-drop (end - from) from items ∙ ap (λ (k : ℕ). drop k items) sum)) behind)

-- ---- from the last mark to the first

-- What is known of the mark before an index, which has this place and number, where the items behind it end at this
-- index of the items.
pub record IsBack (seen : ℕ) (items : List Item) (marks : List Mark) (k place number end : ℕ) : Type 0 where
  pub from : seen ≤ place
  pub within : place - seen ≤ end
  pub assigned : number ≤ most_assigned
  pub end_is : place - seen ≡ first_end seen items (drop (k - 1) marks)
  pub cost : behind_first seen items (drop (k - 1) marks)
      ≡ length (eci_word ∷ designator number)
      + parts_cost (before_words (behind_first seen items (drop k marks)))
      (take (end - (place - seen)) (drop (place - seen) items))

pub back : (seen : ℕ) (items : List Item) (marks : List Mark) (k end : ℕ) (d : Mark) → 0 < k → k ≤ length marks
    → AreMarks seen (seen + length items) marks → end ≡ first_end seen items (drop k marks)
    → IsBack seen items marks k (get_or marks (k - 1) d).place (get_or marks (k - 1) d).number end
back seen items marks k end d some within are is =
    let m = get_or marks (k - 1) d in
    let rest = drop k marks in
    let next : (k - 1) + 1 ≡ k = omega (arith, some) in
    let here : drop (k - 1) marks ≡ m ∷ rest =
    cc (at_drop_more (λ (r : List Mark). r) marks (k - 1) d (omega (arith, some, within))) in
    let a : AreMarks seen (seen + length items) (m ∷ rest) =
    subst (AreMarks seen (seen + length items)) here (marks_drop seen (seen + length items) (k - 1) marks are) in
    record {
      from = a.0;
      within = rw is (end_from seen m.place items rest a.2);
      assigned = a.1;
      end_is = ap (first_end seen items) (sym here);
      cost = cc (cost_from seen m.place items rest a.0 (start_at m.place (seen + length items) rest a.2));
    }

-- ---- from the first mark to the last

-- What is known of the mark at an index, which has this place and number, where the items before it begin at this index
-- of the items and this many codewords follow them.
pub record IsForth (seen : ℕ) (items : List Item) (marks : List Mark) (k from place number behind : ℕ) : Type 0 where
  pub later : from ≤ place - seen
  pub within : place - seen ≤ length items
  pub assigned : number ≤ most_assigned
  pub in_order : AreMarks (seen + (place - seen)) (seen + length items) (drop (k + 1) marks)
  pub cost : marked_cost (seen + from) (drop from items) (drop k marks)
      ≡ parts_cost (before_words behind) (take ((place - seen) - from) (drop from items))
  pub behind_is : behind
      ≡ length (eci_word ∷ designator number)
      + marked_cost (seen + (place - seen)) (drop (place - seen) items) (drop (k + 1) marks)
  pub mark : take (k + 1) marks
      ≡ take k marks ++ (let n : Mark = record { place = seen + (place - seen); number = number } in n) ∷ []

pub forth : (seen : ℕ) (items : List Item) (marks : List Mark) (k from : ℕ) (d : Mark) → k < length marks
    → AreMarks (seen + from) (seen + length items) (drop k marks)
    → IsForth seen items marks k from (get_or marks k d).place (get_or marks k d).number
    (behind_first seen items (drop k marks))
forth seen items marks k from d lt are =
    let m = get_or marks k d in
    let rest = drop (k + 1) marks in
    let most = seen + length items in
    let here : drop k marks ≡ m ∷ rest = at_drop_more (λ (r : List Mark). r) marks k d lt in
    let a : AreMarks (seen + from) most (m ∷ rest) = subst (AreMarks (seen + from) most) here are in
    let there : m.place ≡ seen + (m.place - seen) = omega (arith, a.0) in
    let index : (seen + from) - seen ≡ from = omega arith in
    let one : suc k ≡ k + 1 = omega arith in
    record {
      later = omega (arith, a.0);
      within = omega (arith, marks_within m.place most rest a.2);
      assigned = a.1;
      in_order = subst (λ (p : ℕ). AreMarks p most rest) there a.2;
      cost = ap (λ (i : ℕ). marked_cost (seen + from) (drop i items) (drop k marks)) (sym index)
          ∙ cost_from seen (seen + from) items (drop k marks) (omega arith)
          (start_at (seen + from) most (drop k marks) are)
          ∙ ap (λ (i : ℕ). parts_cost (before_words (behind_first seen items (drop k marks)))
          (take (first_end seen items (drop k marks) - i) (drop i items))) index
          ∙ ap (λ (ms : List Mark). parts_cost (before_words (behind_first seen items (drop k marks)))
          (take (first_end seen items ms - from) (drop from items))) here;
      behind_is = cc;
      mark = ap (λ (i : ℕ). take i marks) (sym one) ∙ take-suc marks k d lt
          ∙ ap (λ (p : ℕ). take k marks ++ (let n : Mark = record { place = p; number = m.number } in n) ∷ []) there;
    }

-- Each mark of marks in order stands between the two places.
pub each_within : (least most i : ℕ) (marks : List Mark) (d : Mark) → AreMarks least most marks → i < length marks
    → (least ≤ (get_or marks i d).place) × ((get_or marks i d).place ≤ most)
each_within least most i [] d are lt = absurd (omega (arith, lt))
each_within least most zero (m ∷ marks) d are lt = (are.0, marks_within m.place most marks are.2)
each_within least most (suc i) (m ∷ marks) d are lt =
    let r = each_within m.place most i marks d are.2 (omega (arith, lt)) in (omega (arith, are.0, r.0), r.1)

-- Marks in order none of which stands behind a place are in order up to it.
up_to : (least most total : ℕ) (marks : List Mark) (d : Mark) → AreMarks least total marks → least ≤ most
    → ((i : ℕ) → i < length marks → (get_or marks i d).place ≤ most) → AreMarks least most marks
up_to least most total [] d are le each = le
up_to least most total (m ∷ marks) d are le each = (
  are.0,
  are.1,
  up_to m.place most total marks d are.2 (each 0 (omega arith)) (λ i lt. each (suc i) (omega (arith, lt))),
)

-- Marks in order each of which stands between two places are in order between these.
pub between : (low least most total : ℕ) (marks : List Mark) (d : Mark) → AreMarks low total marks → least ≤ most
    → ((i : ℕ) → i < length marks → (least ≤ (get_or marks i d).place) × ((get_or marks i d).place ≤ most))
    → AreMarks least most marks
between low least most total [] d are le each = le
between low least most total (m ∷ marks) d are le each = (
  (each 0 (omega arith)).0,
  are.1,
  up_to m.place most total marks d are.2 (each 0 (omega arith)).1 (λ i lt. (each (suc i) (omega (arith, lt))).1),
)

-- ---- turns of the loops

-- It keeps what follows the items before the mark.
pub behind_turn : (seen : ℕ) (items : List Item) (marks : List Mark) (k cost : ℕ) (behind : List ℕ) → 0 < k
    → k ≤ length marks → length marks ≤ length behind → cost ≡ behind_first seen items (drop (k - 1) marks)
    → ((i : ℕ) → k ≤ i → i < length marks → get_or behind i 0 ≡ behind_first seen items (drop i marks))
    → (i : ℕ) → k - 1 ≤ i → i < length marks
    → get_or (set behind (k - 1) cost) i 0 ≡ behind_first seen items (drop i marks)
behind_turn seen items marks k cost behind some within room is others i from to =
    grind (arith, nat_tests, cases_lt, get_or-set_other, set, get_or-set_same, behind_first)

-- What follows the items before a mark is little.
pub behind_few : (seen : ℕ) (items : List Item) (marks : List Mark) (k from place number behind : ℕ)
    → IsForth seen items marks k from place number behind → length items ≤ 3123 → length marks ≤ 779 → k < length marks
    → behind ≤ most_behind
behind_few seen items marks k from place number behind f few few_marks lt =
    grind (arith, designator_few, marked_most, length-drop)

-- What stands between a macro's header and its trailer is an item of the macro, and has no more items.
pub inner_few : (items inner : List Item) → inner ≡ take (length items - 2 - 7) (drop 7 items)
    → length inner ≤ length items
inner_few items inner is = grind (arith, nat_tests, length-take, length-drop)

pub inner_items : (items inner : List Item) → inner ≡ take (length items - 2 - 7) (drop 7 items)
    → All IsItem items → All IsItem inner
inner_items items inner is fit =
    rw is (All-take IsItem (length items - 2 - 7) (drop 7 items) (All-drop IsItem 7 items fit))

-- The text of a macro has nine items fewer than its header, itself and its trailer.
pub framed_length : (items text : List Item) (digit : ℕ) → items ≡ macro_text digit text
    → length items ≡ 9 + length text
framed_length items text digit e = grind (arith, length-append, macro_header, macro_trailer)
