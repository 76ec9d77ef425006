-- No codewords that say a content are fewer than its least cost.
use Rattle.dm_words.proofs.Names.{◌≡◌, ℕ, ◌+◌, ◌-◌, ◌*◌, ◌≤◌, List, [], ◌∷◌, ◌++◌, length, take, drop, sym, ap, subst}
use Rattle.dm_words.proofs.Names.{◌∙◌, append_assoc, arith, length-append, Some, length-drop}
use Rattle.dm_words.proofs.Names.{take-append-add, Extent, Wide, Item, Mark, Opening, eci_word, designator, head_words}
use Rattle.dm_words.proofs.Names.{Piece, spelled, whats, AreJoined, ContentView, AreMarks, Said, Items, Number}
use Rattle.dm_words.proofs.Names.{IsContentPart, part, mark, AreContentParts, said_items, said_marks, IsOpening, headed}
use Rattle.dm_words.proofs.Names.{framed, plain, said_content, Says, mark_words, macro_text, macro_header}
use Rattle.dm_words.proofs.Names.{macro_trailer, FramesNoFnc1, IsPart, never, at_end, before_words, marked_cost}
use Rattle.dm_words.proofs.Names.{IsLeastContentCost, Usual, refl, as_content, parts_cost, IsLeastCost, Spells}
use Rattle.std.proofs.Math.Seq.{drop-append-add}
use Rattle.dm_words.proofs.ContentParts.{not_wide}
use Rattle.dm_words.proofs.CostsMet.{nothing_costs}
use Rattle.dm_words.proofs.CostBounds.{part_no_fewer}
use Rattle.dm_words.proofs.Designators.{designator_only}
use Rattle.dm_words.proofs.Heads.{head_only}
use Rattle.dm_words.proofs.Openings.{frame_macro}
use Rattle.dm_words.proofs.MarkedCosts.{StartAt, designator_few, marked_most}
use Rattle.dm_words.proofs.SaidContents.{said_in_order}
use Rattle.dm_words.proofs.Names.{nat_tests}

-- Items of a part, before others, cost no more than the part has codewords and the others cost.
items_first : (seen place : ℕ) (words after : List ℕ) (items rest : List Item) (marks : List Mark)
    → IsPart Wide place words after items → StartAt (seen + length items) marks
    → 2 * length rest + 4 * length marks ≤ never → marked_cost (seen + length items) rest marks ≤ length after
    → marked_cost seen (items ++ rest) marks ≤ length words + length after
items_first seen place words after items rest [] p starts few le =
    part_no_fewer Wide 0 _ _ _ _ rest (omega arith) p le
items_first seen place words after items rest (m ∷ marks) p starts few le =
    let count = m.place - (seen + length items) in
    let b = length (mark_words m) + marked_cost m.place (drop count rest) marks in
    let small : b ≤ never = omega (
      arith,
      designator_few m.number,
      marked_most m.place (drop count rest) marks,
      length-drop count rest,
    ) in
    let n : m.place - seen ≡ length items + count = omega (arith, starts) in
    let first : take (m.place - seen) (items ++ rest) ≡ items ++ take count rest =
    ap (λ (k : ℕ). take k (items ++ rest)) n ∙ take-append-add items rest count in
    let others : drop (m.place - seen) (items ++ rest) ≡ drop count rest = cc (drop-append-add items rest count) in
    let one = part_no_fewer Wide b place words after items (take count rest) small p le in
    rw (first, others) one

-- Items with marks behind so many items cost this much. The usual extent says no mark.
abbrev cost_in : Extent → ℕ → List Item → List Mark → ℕ
cost_in Usual seen items marks = parts_cost (at_end Usual) items
cost_in Wide seen items marks = marked_cost seen items marks

-- What is said behind so many items costs this much.
abbrev said_cost : Extent → ℕ → List Said → ℕ
said_cost extent seen said = cost_in extent seen (said_items said) (said_marks seen said)

-- It is little enough for the costs.
abbrev IsFew : ℕ → List Said → Type 0
IsFew seen said = 2 * length (said_items said) + 4 * length (said_marks seen said) ≤ never

-- So many items stand before what is said next.
abbrev seen_after : ℕ → Said → ℕ
seen_after seen (Items items) = seen + length items
seen_after seen (Number number) = seen

-- Marks that are said stand no further in front than the items that were seen.
pub starts : (seen least : ℕ) (said : List Said) → least ≤ seen → StartAt least (said_marks seen said)
starts seen least [] le = tt
starts seen least (Items items ∷ said) le = starts (seen + length items) least said (omega (arith, le))
starts seen least (Number number ∷ said) le = le

-- What is said next leaves no more.
fewer : (seen : ℕ) (said : Said) (rest : List Said) → IsFew seen (said ∷ rest) → IsFew (seen_after seen said) rest
fewer seen said rest h1 = grind (arith, nat_tests, length-append, said_items)

-- A mark costs its codewords.
mark_first : (seen number : ℕ) (rest : List Said)
    → said_cost Wide seen (Number number ∷ rest) ≡ length (eci_word ∷ designator number) + said_cost Wide seen rest
mark_first seen number rest = grind (arith, nothing_costs, before_words, mark_words, said_cost, cost_in)

-- A part and what is said behind it have no fewer codewords than they cost.
part_first : (extent : Extent) (seen place : ℕ) (words after : List ℕ) (said : Said) (rest : List Said)
    → IsContentPart extent place words after said → IsFew seen (said ∷ rest)
    → said_cost extent (seen_after seen said) rest ≤ length after
    → said_cost extent seen (said ∷ rest) ≤ length words + length after
part_first Usual seen place words after said rest (part items p is) few le =
    rw is (part_no_fewer Usual 0 place words after items (said_items rest) (omega arith) p le)
part_first Usual seen place words after said rest (mark d number wide e whole is) few le = absurd (not_wide wide)
part_first Wide seen place words after said rest (part items p is) few le =
    let here : IsFew seen (Items items ∷ rest) = subst (λ (s : Said). IsFew seen (s ∷ rest)) is few in
    let there : said_cost Wide (seen + length items) rest ≤ length after = rw is at le in
    rw is (items_first seen place words after items (said_items rest) (said_marks (seen + length items) rest) p
    (starts (seen + length items) (seen + length items) rest (omega arith)) (fewer seen (Items items) rest here) there)
part_first Wide seen place words after said rest (mark d number wide e whole is) few le =
    let there : said_cost Wide seen rest ≤ length after = rw is at le in
    let count : length words ≡ length (eci_word ∷ designator number) =
    ap length (whole ∙ ap (λ (l : List ℕ). eci_word ∷ l) (designator_only d number e)) in
    rw is (omega (arith, mark_first seen number rest, there, count))

-- Nor do parts that are joined.
joined_lower : (extent : Extent) (seen place : ℕ) (ps : List (Piece Said)) (after : List ℕ)
    → AreJoined (IsContentPart extent) place ps after → IsFew seen (whats ps)
    → said_cost extent seen (whats ps) ≤ length (spelled ps ++ after)
joined_lower Usual seen place [] after h few = omega (arith, nothing_costs (at_end Usual))
joined_lower Wide seen place [] after h few = omega (arith, nothing_costs (at_end Wide))
joined_lower extent seen place (p ∷ ps) after h few =
    let rest = joined_lower extent (seen_after seen p.what) (place + length p.words) ps after h.1
    (fewer seen p.what (whats ps) few) in
    let one = part_first extent seen place p.words (spelled ps ++ after) p.what (whats ps) h.0 few rest in
    omega (arith, ap length (append_assoc p.words (spelled ps) after), length-append p.words (spelled ps ++ after))

-- Nor do parts and an end.
parts_lower : (extent : Extent) (seen place : ℕ) (words : List ℕ) (said : List Said)
    → AreContentParts extent place words said → IsFew seen said → said_cost extent seen said ≤ length words
parts_lower extent seen place words said a few = grind (arith, nat_tests, joined_lower)

module _ (extent : Extent) (words : List ℕ) (l : ContentView) (cost : ℕ)
    (few : 2 * length l.items + 4 * length l.marks ≤ never)
    (parts : cost ≤ length (head_words l.head) + cost_in extent 0 l.items l.marks)
    (macros : extent ≡ Wide → IsLeastContentCost l cost) (no_fnc1 : FramesNoFnc1 words l.items)
    (s : Says extent words l) where
  -- The codewords are those of the opening and those behind it.
  whole : length words ≡ length s.opened.first + length s.more
  whole = omega (arith, ap length s.opened.whole, length-append s.opened.first s.more)

  -- By its parts the content costs no more than its codewords behind the opening and these of its head.
  by_parts : (head : List ℕ) → head ≡ head_words l.head → l.items ≡ said_items s.said → l.marks ≡ said_marks 0 s.said
      → length head ≤ length s.opened.first → cost ≤ length words
  by_parts head is items marks le =
      let enough : IsFew 0 s.said = (rw (items, marks) at few) in
      let c : cost ≤ length head + said_cost extent 0 s.said = (rw (← is, items, marks) at parts) in
      omega (arith, c, whole, le, parts_lower extent 0 s.place s.more s.said s.parts enough)

  -- What the content is behind this opening.
  content_by : (opening : Opening) → s.opening ≡ opening → l ≡ said_content opening s.said
  content_by opening is = s.content_is ∙ ap (λ (o : Opening). said_content o s.said) is

  pub by_opening : IsOpening extent s.opened.first s.more s.opening → cost ≤ length words
  by_opening (headed head wide h is) =
      let e = content_by _ is in
      by_parts (head_words (Some head)) (ap (λ (k : ContentView). head_words k.head) (sym e))
      (ap (λ (k : ContentView). k.items) e) (ap (λ (k : ContentView). k.marks) e)
      (omega (arith, ap length (head_only s.opened.first head h).1))
  by_opening (plain first no_head no_frame is) =
      let e = content_by _ is in
      by_parts [] (ap (λ (k : ContentView). head_words k.head) (sym e))
      (ap (λ (k : ContentView). k.items) e) (ap (λ (k : ContentView). k.marks) e)
      (omega arith)
  by_opening (framed digit wide f is) =
      let e = content_by _ is in
      let text = said_items s.said in
      let m = frame_macro s.opened.first digit f in
      let items : l.items ≡ macro_text digit text = ap (λ (k : ContentView). k.items) e in
      let marks : l.marks ≡ said_marks 7 s.said = ap (λ (k : ContentView). k.marks) e in
      let in_order : AreMarks 7 (7 + length text) l.marks = rw marks (said_in_order _ 7 _ _ _ s.parts) in
      let c : cost ≤ 1 + said_cost Wide 7 s.said =
      (rw marks at ((macros wide).framed m.0 digit text m.1 (ap (λ (k : ContentView). k.head) e) items
      (λ fnc1. no_fnc1 (digit, text, items, fnc1) s.opened.first s.more digit f s.opened.whole) in_order)) in
      let long : length text ≤ length l.items = omega (
        arith,
        ap length items,
        length-append (macro_header digit) (text ++ macro_trailer),
        length-append text macro_trailer,
      ) in
      let enough : IsFew 7 s.said = omega (arith, few, long, ap length marks) in
      omega (
        arith,
        whole,
        m.2,
        parts_lower Wide 7 s.place s.more s.said (rw wide at s.parts) enough,
      )

-- No codewords that say a content, and have no macro before FNC1, are fewer than its least cost.
pub no_fewer_content : (words : List ℕ) (l : ContentView) (cost : ℕ)
    → 2 * length l.items + 4 * length l.marks ≤ never → IsLeastContentCost l cost → FramesNoFnc1 words l.items
    → Says Wide words l → cost ≤ length words
no_fewer_content words l cost few least no_fnc1 s =
    by_opening Wide words l cost few least.parts (λ wide. least) no_fnc1 s s.opened.is_opening

-- Nor are those that spell a message in an extent.
pub no_fewer_words : (extent : Extent) (words : List ℕ) (m : List Item) (cost : ℕ) → 2 * length m ≤ never
    → IsLeastCost extent m cost → FramesNoFnc1 words m → Spells extent words m → cost ≤ length words
no_fewer_words Usual words m cost few least no_fnc1 s =
    by_opening Usual words (as_content m) cost (omega (arith, few)) (omega (arith, least.parts))
    (λ wide. absurd (not_wide wide)) no_fnc1 s s.opened.is_opening
no_fewer_words Wide words m cost few least no_fnc1 s =
    no_fewer_content words (as_content m) cost (omega (arith, few)) (record {
      parts = omega (arith, least.parts);
      framed = λ word digit text k none is no_fnc1 marks. least.macros word digit text refl k is no_fnc1;
    }) no_fnc1 s
