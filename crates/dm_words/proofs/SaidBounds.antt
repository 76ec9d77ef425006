-- How many items and marks codewords say: at most two items for each, in the wide extent seven more, and a mark for
-- each two.
use Rattle.dm_words.proofs.Names.{◌≡◌, ℕ, zero, suc, ◌+◌, ◌*◌, ◌≤◌, List, [], ◌∷◌, ◌++◌, length, ap, ◌∙◌, arith}
use Rattle.dm_words.proofs.Names.{length-append, Extent, Usual, Wide, Item, Opening, Piece, spelled, whats}
use Rattle.dm_words.proofs.Names.{AreJoined, ContentView, Said, IsContentPart, part, mark, said_items, said_marks}
use Rattle.dm_words.proofs.Names.{IsOpening, opening_items, closing_items, Says, as_content, most_spelled, Spells}
use Rattle.dm_words.proofs.ContentLoops.{designator_some}
use Rattle.dm_words.proofs.ContentParts.{not_wide}
use Rattle.dm_words.proofs.Parts.{room_of}
use Rattle.dm_words.proofs.Openings.{said_behind}

-- A part, before parts that say few, says few with them.
few_with : (extent : Extent) (place before : ℕ) (words after : List ℕ) (s : Said) (ss : List Said) (count : ℕ)
    → IsContentPart extent place words after s
    → ((seen : ℕ) → (length (said_items ss) ≤ 2 * count) × (2 * length (said_marks seen ss) ≤ count))
    → (length (said_items (s ∷ ss)) ≤ 2 * (length words + count))
    × (2 * length (said_marks before (s ∷ ss)) ≤ length words + count)
few_with extent place before words after s ss count (part items p e) rest =
    let few = rest (before + length items) in
    rw e (
      omega (arith, room_of extent place words after items p, few.0, length-append items (said_items ss)),
      omega (arith, few.1),
    )
few_with extent place before words after s ss count (mark d number wide is w e) rest =
    let few = rest before in
    rw e (omega (arith, few.0), omega (arith, few.1, ap length w, designator_some d number is))

-- Parts that are joined say few items and marks.
joined_few : (extent : Extent) (place before : ℕ) (ps : List (Piece Said)) (after : List ℕ)
    → AreJoined (IsContentPart extent) place ps after
    → (length (said_items (whats ps)) ≤ 2 * length (spelled ps))
    × (2 * length (said_marks before (whats ps)) ≤ length (spelled ps))
joined_few extent place before [] after h = (omega arith, omega arith)
joined_few extent place before (p ∷ ps) after h =
    let few = few_with extent place before p.words (spelled ps ++ after) p.what (whats ps) (length (spelled ps)) h.0
    (λ seen. joined_few extent (place + length p.words) seen ps after h.1) in
    let long = length-append p.words (spelled ps) in
    (omega (arith, few.0, long), omega (arith, few.1, long))

-- What stands before and behind the parts is few items for the codewords of the opening.
opening_few : (extent : Extent) (first more : List ℕ) (opening : Opening) (count n : ℕ)
    → IsOpening extent first more opening → length first ≤ count
    → n + 2 * length first ≤ length (opening_items opening) + length (closing_items opening) + 2 * count
    → n ≤ most_spelled extent count
opening_few extent first more opening count n h1 h2 h3 = grind (arith, not_wide, length-append)

-- Codewords that say a content say few items and marks.
pub said_counts : (extent : Extent) (words : List ℕ) (l : ContentView) → Says extent words l
    → (length l.items ≤ most_spelled extent (length words)) × (2 * length l.marks ≤ length words)
said_counts extent words l s =
    let o = s.opening in
    let few = joined_few extent s.place (length (opening_items o)) s.parts.parts s.parts.after s.parts.joined in
    let long : length words ≡ length s.opened.first + (length (spelled s.parts.parts) + length s.parts.after) =
    ap length s.opened.whole ∙ length-append s.opened.first s.more
    ∙ ap (λ n. length s.opened.first + n) (ap length s.parts.whole
    ∙ length-append (spelled s.parts.parts) s.parts.after) in
    let items : length l.items ≡ length (opening_items o)
    + (length (said_items (whats s.parts.parts)) + length (closing_items o)) =
    ap (λ (x : ContentView). length x.items) (s.content_is ∙ said_behind o s.said)
    ∙ length-append (opening_items o) (said_items s.said ++ closing_items o)
    ∙ ap (λ n. length (opening_items o) + n) (length-append (said_items s.said) (closing_items o)
    ∙ ap (λ (ss : List Said). length (said_items ss) + length (closing_items o)) s.parts.said_are) in
    let marks : length l.marks ≡ length (said_marks (length (opening_items o)) (whats s.parts.parts)) =
    ap (λ (x : ContentView). length x.marks) (s.content_is ∙ said_behind o s.said)
    ∙ ap (λ (ss : List Said). length (said_marks (length (opening_items o)) ss)) s.parts.said_are in (
      opening_few extent s.opened.first s.more o (length words) (length l.items) s.opened.is_opening
          (omega (arith, long)) (omega (arith, items, few.0, long)),
      omega (arith, marks, few.1, long),
    )

-- What codewords spell has no more items than that.
pub spelled_is_few : (extent : Extent) (words : List ℕ) (m : List Item) → Spells extent words m
    → length m ≤ most_spelled extent (length words)
spelled_is_few extent words m s = (said_counts extent words (as_content m) s).0

-- In any extent there are at most seven items more than two for each codeword.
pub said_few : (extent : Extent) (words : List ℕ) (l : ContentView) → Says extent words l
    → (length l.items ≤ 2 * length words + 7) × (2 * length l.marks ≤ length words)
said_few extent words l s =
    (let c = said_counts extent words l s in (omega (arith, c.0, most (length words) extent), c.1)) where
      most : (count : ℕ) (e : Extent) → most_spelled e count ≤ 2 * count + 7
      most count Usual = omega arith
      most zero Wide = omega arith
      most (suc count) Wide = omega arith
