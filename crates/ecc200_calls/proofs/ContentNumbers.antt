-- Marks by their numbers.
use Rattle.ecc200_calls.proofs.Names.{◌≡◌, ℕ, zero, suc, ◌+◌, ◌<◌, ◌≤◌, List, [], ◌∷◌, ◌++◌, length, take, get_or, ◌∙◌}
use Rattle.ecc200_calls.proofs.Names.{ap, subst, arith, get_or-map, length-map, take_all, take_more, Mark, AreMarks}
use Rattle.ecc200_calls.proofs.Names.{MarkNumbers, IsFirstWrong, marks_of}
use Rattle.dm_words.specs.Designators.{most_assigned}
use Rattle.dm_words.proofs.Exported.{more_items, one_more}

-- The mark that has these numbers.
abbrev pub mark_of : MarkNumbers → Mark
mark_of m = record { place = m.place; number = m.number }

-- Marks in order end within.
marks_end : (least most : ℕ) (marks : List Mark) → AreMarks least most marks → least ≤ most
marks_end least most [] are = are
marks_end least most (m ∷ marks) are = omega (arith, are.0, marks_end m.place most marks are.2)

-- One more mark stands behind those before it.
pub taken_more : (marks : List MarkNumbers) (i : ℕ) (d : MarkNumbers) → i < length marks
    → take (i + 1) (marks_of marks) ≡ take i (marks_of marks) ++ mark_of (get_or marks i d) ∷ []
taken_more marks i d lt =
    take_more (marks_of marks) i (mark_of d) (omega (arith, lt, length-map marks mark_of))
    ∙ ap (λ m. take i (marks_of marks) ++ m ∷ []) (get_or-map mark_of marks i d (mark_of d) lt)

-- Marks in order, all of them up to a place, are so with one more that isn't before it.
pub next_mark : (least : ℕ) (marks : List Mark) (place number : ℕ) → AreMarks 0 least marks → least ≤ place
    → number ≤ most_assigned → AreMarks 0 place (marks ++ record { place = place; number = number } ∷ [])
next_mark least marks place number are from le =
    one_more 0 place number marks (more_items 0 least place marks are from) le

-- Marks in order with one more have that one within, with the number of an assignment, and not before the others.
last_mark : (low most : ℕ) (marks : List Mark) (mark : Mark) → AreMarks low most (marks ++ mark ∷ [])
    → AreMarks low mark.place marks × (mark.number ≤ most_assigned) × (mark.place ≤ most)
last_mark low most [] mark are = (are.0, are.1, are.2)
last_mark low most (m ∷ marks) mark are =
    let rest = last_mark m.place most marks mark are.2 in ((are.0, are.1, rest.0), rest.1, rest.2)

-- What is known of the marks up to an index: they are in order up to a place, and up to no earlier one.
pub record AreInOrder (marks : List MarkNumbers) (i least : ℕ) : Type 0 where
  pub in_order : AreMarks 0 least (take i (marks_of marks))
  pub least_is : (place : ℕ) → AreMarks 0 place (take i (marks_of marks)) → least ≤ place

module _ (count : ℕ) (marks : List MarkNumbers) (i least : ℕ) (d : MarkNumbers) (lt : i < length marks)
    (so_far : AreInOrder marks i least) where
  -- With one more that is right they are in order up to its place.
  pub one_more_right : (place number : ℕ) → place ≡ (get_or marks i d).place → number ≡ (get_or marks i d).number
      → least ≤ place → number ≤ most_assigned → AreInOrder marks (i + 1) place
  one_more_right place number p n from assigned =
      let m = get_or marks i d in
      let from_m : least ≤ m.place = omega (arith, from, p) in
      let assigned_m : m.number ≤ most_assigned = omega (arith, assigned, n) in
      record {
        in_order = rw p (rw (taken_more marks i d lt) (next_mark least (take i (marks_of marks)) m.place m.number
            so_far.in_order from_m assigned_m));
        least_is = λ q are.
            let last = last_mark 0 q (take i (marks_of marks)) (mark_of m)
            (subst (AreMarks 0 q) (taken_more marks i d lt) are) in
            omega (arith, p, last.2);
      }

  -- One that isn't is the first that is wrong.
  pub first_is_wrong : least ≤ count
      → (least ≤ (get_or marks i d).place → (get_or marks i d).place ≤ count
      → (get_or marks i d).number ≤ most_assigned → ⊥)
      → IsFirstWrong count marks i
  first_is_wrong within wrong = record {
    inside = lt;
    before = more_items 0 least count (take i (marks_of marks)) so_far.in_order within;
    wrong = λ are.
        let m = get_or marks i d in
        let last = last_mark 0 count (take i (marks_of marks)) (mark_of m)
        (subst (AreMarks 0 count) (taken_more marks i d lt) are) in
        wrong (so_far.least_is m.place last.0) last.2 last.1;
  }

-- Marks that are in order to the end are right.
pub all_right : (count least : ℕ) (marks : List MarkNumbers) (i : ℕ) → length marks ≤ i → AreInOrder marks i least
    → least ≤ count → AreMarks 0 count (marks_of marks)
all_right count least marks i le so_far within =
    rw (take_all i (marks_of marks) (omega (arith, le, length-map marks mark_of))) at (more_items 0 least count _
    so_far.in_order within)

-- The next of marks in order up to a place stands no further back.
pub next_within : (least most : ℕ) (marks : List MarkNumbers) (i : ℕ) (d : MarkNumbers) → i < length marks
    → AreMarks least most (marks_of marks) → (get_or marks i d).place ≤ most
next_within least most [] i d lt are = absurd (omega arith)
next_within least most (m ∷ marks) zero d lt are = marks_end m.place most (marks_of marks) are.2
next_within least most (m ∷ marks) (suc i) d lt are = next_within m.place most marks i d (omega (arith, lt)) are.2
