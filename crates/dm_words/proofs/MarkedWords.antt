-- The loops that count and write items with marks.
use Rattle.dm_words.proofs.Names.{◌≡◌, ℕ, ◌+◌, ◌-◌, ◌*◌, ◌<◌, ◌≤◌, List, ◌∷◌, ◌++◌, length, take, drop, get_or, sym, ap}
use Rattle.dm_words.proofs.Names.{subst, ◌∙◌, append_assoc, arith, length-append, append-nil, at_drop_more, at_drop_all}
use Rattle.dm_words.proofs.Names.{drop-drop, take_rest, length-take, length-drop, Item, Unit, Mark, ascii}
use Rattle.dm_words.proofs.Names.{most_assigned, eci_word, designator, AreMarks, ascii_with_marks, unit_words}
use Rattle.dm_words.proofs.Names.{unit_items}
use Rattle.dm_words.proofs.ContentForms.{marks_within}
use Rattle.dm_words.proofs.NormalForms.{two_words}
use Rattle.dm_words.proofs.UnitLoops.{HasUnit}

-- What is known in a turn of the loop, whose mark has this place and number: the items up to it, the mark, and the
-- others.
pub record Turn (items : List Item) (marks : List Mark) (before i place number : ℕ) : Type 0 where
  pub from : before ≤ place
  pub within : place ≤ length items
  pub assigned : number ≤ most_assigned
  pub in_order : AreMarks place (length items) (drop (i + 1) marks)
  pub words : ascii_with_marks before (drop before items) (drop i marks)
      ≡ ascii (take (place - before) (drop before items))
      ++ ((eci_word ∷ designator number) ++ ascii_with_marks place (drop place items) (drop (i + 1) marks))

-- A turn of the loop takes the next mark.
pub turn : (items : List Item) (marks : List Mark) (before i : ℕ) (d : Mark) → i < length marks
    → AreMarks before (length items) (drop i marks)
    → Turn items marks before i (get_or marks i d).place (get_or marks i d).number
turn items marks before i d lt are =
    let m = get_or marks i d in
    let here : drop i marks ≡ m ∷ drop (i + 1) marks = at_drop_more (λ (r : List Mark). r) marks i d lt in
    let a : AreMarks before (length items) (m ∷ drop (i + 1) marks) = subst (AreMarks before (length items)) here are in
    let n = m.place - before in
    let sum : before + n ≡ m.place = omega (arith, a.0) in
    let rest : drop n (drop before items) ≡ drop m.place items = cc (drop-drop n before items) in
    record {
      from = a.0;
      within = marks_within m.place (length items) (drop (i + 1) marks) a.2;
      assigned = a.1;
      in_order = a.2;
      words = cc;
    }

-- Behind the last mark, the other items are written in ASCII.
pub last : (items : List Item) (marks : List Mark) (before i : ℕ) → length marks ≤ i
    → ascii_with_marks before (drop before items) (drop i marks) ≡ ascii (drop before items)
last items marks before i le = at_drop_all (λ (r : List Mark). ascii_with_marks before (drop before items) r) marks i le

-- The items up to a mark take at most two codewords each.
pub piece_short : (items : List Item) (before place : ℕ) → before ≤ place → place ≤ length items
    → length (ascii (take (place - before) (drop before items))) ≤ 2 * (place - before)
piece_short items before place h1 h2 = grind (arith, two_words, length-take, length-drop)

-- The codewords up to the next mark are counted, and those of the mark.
pub count_turn : (items : List Item) (marks : List Mark) (before i place number total sum a m : ℕ)
    → Turn items marks before i place number
    → a ≡ length (ascii (take (place - before) (drop before items))) → m ≡ length (eci_word ∷ designator number)
    → total ≡ sum + length (ascii_with_marks before (drop before items) (drop i marks))
    → total ≡ (sum + (a + m)) + length (ascii_with_marks place (drop place items) (drop (i + 1) marks))
count_turn items marks before i place number total sum a m t first second so_far =
    grind (arith, ascii_with_marks, eci_word, length-append)

-- The codewords that are left are those of the items up to the next mark, of the mark, and the others.
pub turn_length : (items : List Item) (marks : List Mark) (before i place number : ℕ)
    → Turn items marks before i place number
    → length (ascii_with_marks before (drop before items) (drop i marks))
    ≡ length (ascii (take (place - before) (drop before items)))
    + (length (eci_word ∷ designator number) + length (ascii_with_marks place (drop place items) (drop (i + 1) marks)))
turn_length items marks before i place number t =
    let piece = ascii (take (place - before) (drop before items)) in
    let rest = ascii_with_marks place (drop place items) (drop (i + 1) marks) in
    let mark = eci_word ∷ designator number in
    omega (arith, ap length t.words, length-append piece (mark ++ rest), length-append mark rest)

-- Behind the last mark, those of the other items are left.
pub last_length : (items : List Item) (marks : List Mark) (before i : ℕ) → length marks ≤ i
    → length (ascii_with_marks before (drop before items) (drop i marks))
    ≡ length (ascii (take (length items - before) (drop before items)))
last_length items marks before i le = cc (take_rest items before, last items marks before i le)

-- The codewords are added up to the next mark and with it.
pub add_turn : (items : List Item) (marks : List Mark) (before i place number : ℕ) (total words new newer : List ℕ)
    → Turn items marks before i place number
    → total ≡ words ++ ascii_with_marks before (drop before items) (drop i marks) → new ≡ words
    ++ ascii (take (place - before) (drop before items))
    → newer ≡ new ++ (eci_word ∷ designator number) → total ≡ newer
    ++ ascii_with_marks place (drop place items) (drop (i + 1) marks)
add_turn items marks before i place number total words new newer t so_far first second =
    grind (arith, ascii_with_marks, eci_word, append_assoc)
