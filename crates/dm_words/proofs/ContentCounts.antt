-- How many items and marks the codewords of a content hold.
use Rattle.dm_words.proofs.Names.{◌≡◌, ℕ, ◌+◌, ◌-◌, ◌*◌, ◌≤◌, List, [], ◌∷◌, ◌++◌}
use Rattle.dm_words.proofs.Names.{length, take, drop, Option, Some, None, sym, ◌∙◌, ap, arith, length-append}
use Rattle.dm_words.proofs.Names.{take-append-drop, Item, Head, Mark, Profile, ascii, designator, head_words}
use Rattle.dm_words.proofs.Names.{ContentView, mark_words, ascii_with_marks, form_by, content_form}
use Rattle.dm_words.proofs.NormalForms.{normal_form_items, two_items}

-- A designator has a codeword.
designator_some : (number : ℕ) → 1 ≤ length (designator number)
designator_some number = grind arith

-- Items with marks have at least one codeword for each two items, and two for each mark.
marked_counts : (before : ℕ) (items : List Item) (marks : List Mark)
    → length items + 4 * length marks ≤ 2 * length (ascii_with_marks before items marks)
marked_counts before items [] = omega (arith, two_items items)
marked_counts before items (mark ∷ marks) =
    let n = mark.place - before in
    let whole : length items ≡ length (take n items) + length (drop n items) =
    sym (ap (λ (xs : List Item). length xs) (take-append-drop n items)) ∙ length-append (take n items) (drop n items) in
    omega (
      arith,
      two_items (take n items),
      designator_some mark.number,
      marked_counts mark.place (drop n items) marks,
      length-append (ascii (take n items))
          (mark_words mark ++ ascii_with_marks mark.place (drop n items) marks),
      length-append (mark_words mark) (ascii_with_marks mark.place (drop n items) marks),
    )

-- The normal form of a content has at least one codeword for each two items, and two for each mark.
pub content_form_counts : (profile : Profile) (l : ContentView)
    → length l.items + 4 * length l.marks ≤ 2 * length (content_form profile l)
content_form_counts profile l = by l.head l.items l.marks where
  by : (head : Option Head) (items : List Item) (marks : List Mark)
      → length items + 4 * length marks ≤ 2 * length (form_by profile head items marks)
  by None items [] = omega (arith, normal_form_items profile items)
  by None items (mark ∷ marks) = marked_counts 0 items (mark ∷ marks)
  by (Some head) items marks =
      omega (
        arith,
        marked_counts 0 items marks,
        length-append (head_words (Some head))
            (ascii_with_marks 0 items marks),
      )
