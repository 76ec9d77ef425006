-- The loop that reads one part of a content after the other.
use Rattle.dm_words.proofs.Names.{◌≡◌, ℕ, suc, ◌+◌, ◌*◌, ◌/◌, ◌%◌, ◌<◌, ◌≤◌, List, [], ◌∷◌, ◌++◌, length, take, drop}
use Rattle.dm_words.proofs.Names.{refl, sym, ap, subst, ◌∙◌, append_assoc, arith, length-append, Option, Some, None}
use Rattle.dm_words.proofs.Names.{Result, Ok, true, append-nil, length-drop, length-take, drop-drop, Extent, Usual}
use Rattle.dm_words.proofs.Names.{Designator, WordFault, ContentFault, Mark, most_assigned, IsDesignator, ContentView}
use Rattle.dm_words.proofs.Names.{Said, Items, Number, IsContentPart, part, mark, said_items, said_marks, eci_count}
use Rattle.dm_words.proofs.Names.{BeginNoEci, Takes, Stops, as_said, mark_by, first_content_part, items_with}
use Rattle.dm_words.proofs.Names.{first_part, Item, Byte, codeword_of, extended, content_to, IsContentAt}
use Rattle.dm_words.specs.declared.contents.fault.ContentFault.TheVariants as fault
use Rattle.dm_words.specs.inner.Scan.Walk.{walk}
use Rattle.dm_words.specs.inner.ContentScan.{with_said, content_on}
use Rattle.dm_words.specs.inner.Scan.Results.{IsPartTakenOrEnd, IsOneWordTaken}
use Rattle.dm_words.specs.declared.codeword.Codeword.TheVariants as codeword
use Rattle.dm_words.specs.inner.ContentsAt.{IsContentPartTaken}
use Rattle.dm_words.proofs.Walks.{walk-fuel}
use Rattle.dm_words.proofs.Pairs.{IsBytes, IsBytes-drop}
use Rattle.dm_words.proofs.Parts.{room_of, part_room}
use Rattle.dm_words.proofs.ContentParts.{content_part_sound, as_part, no_eci}
use Rattle.dm_words.proofs.SaidContents.{assigned}
use Rattle.dm_words.proofs.Marks.{more_items, one_more}
use Rattle.dm_words.proofs.EciCounts.{marks_stay, more_marks, mark_count, taken_away}

-- What one part says and then others is what all of them say.
with_extended : (l : ContentView) (s : Said) (rest : List Said) → extended (with_said l s) rest ≡ extended l (s ∷ rest)
with_extended l s rest = grind (arith, length-append, append_assoc, said_items, said_marks)

-- Reading on takes the first part.
pub content_on-takes : (extent : Extent) (so_far : ContentView) (place : ℕ) (words : List ℕ) (n : ℕ) (said : Said)
    → IsBytes words
    → first_content_part extent place words ≡ Takes n said
    → content_on extent so_far place words ≡ content_on extent (with_said so_far said) (place + n) (drop n words)
unfolding content_on walk
content_on-takes extent so_far place words n said fit e =
    let r = (content_part_sound extent).right place words n said fit e in
    let w = walk-fuel (first_content_part extent) (IsContentPart extent) IsBytes None (content_part_sound extent)
    (length words)
    (suc (length (drop n words))) (place + n) (drop n words) (omega (arith, r.1, r.2, length-drop n words))
    (omega arith) ((content_part_sound extent).fits n words fit) in
    let rest = walk (first_content_part extent) None (suc (length (drop n words))) (place + n) (drop n words) in
    rw (e, w) (ap (λ (l : ContentView). content_to l rest.why) (sym (with_extended so_far said rest.taken)))

-- Nothing more is said.
extended-nil : (l : ContentView) → extended l [] ≡ l
extended-nil l = rw (append-nil l.items, append-nil l.marks) refl

-- Reading on stops where no part stands.
pub content_on-stops : (extent : Extent) (so_far : ContentView) (place : ℕ) (words : List ℕ) (why : Option ContentFault)
    → first_content_part extent place words ≡ Stops why → content_on extent so_far place words ≡ content_to so_far why
unfolding content_on walk
content_on-stops extent so_far place words why e = rw e
    (ap (λ (l : ContentView). content_to l why) (extended-nil so_far))

-- A designator has a codeword.
pub designator_some : (words : List ℕ) (number : ℕ) → IsDesignator words number → 0 < length words
designator_some words number h1 = grind arith

-- A part of so many codewords has room: two items for each codeword, or two codewords for the number of an assignment.
abbrev pub HasRoom : ℕ → Said → Type 0
HasRoom n (Items items) = length items ≤ 2 * n
HasRoom n (Number number) = (2 ≤ n) × (number ≤ most_assigned)

-- Each part has room.
pub room_by : (extent : Extent) (place : ℕ) (words after : List ℕ) (said : Said)
    → IsContentPart extent place words after said
    → HasRoom (length words) said
room_by extent place words after said (part items p is) = rw is (room_of extent place words after items p)
room_by extent place words after said (mark d number wide e whole is) =
    rw is (omega (arith, ap length whole, designator_some d number e), assigned d number e)

-- What is known after a part was taken: the room that is left.
stays : (most : ℕ) (words : List ℕ) (at n : ℕ) (old new : ContentView) (said : Said) → IsContentAt most words at old
    → HasRoom n said → mark_count said + eci_count (drop (at + n) words) ≤ eci_count (drop at words) → 0 < n
    → new ≡ with_said old said → IsContentAt most words (at + n) new
stays most words at n old new (Items items) v room left some is =
    let message : new.items ≡ old.items ++ items = ap (λ (l : ContentView). l.items) is in
    let marks : new.marks ≡ old.marks = ap (λ (l : ContentView). l.marks) is in
    record {
      item_room = rw message (omega (arith, v.item_room, room, length-append old.items items));
      marks = rw marks (marks_stay words at (at + n) old.marks v.marks (omega arith));
      in_order =
          rw (message, marks)
          (more_items 0 (length old.items) (length (old.items ++ items)) old.marks v.in_order
          (omega (arith, length-append old.items items)));
    }
stays most words at n old new (Number number) v room left some is =
    let message : new.items ≡ old.items = ap (λ (l : ContentView). l.items) is in
    let m : Mark = record { place = length old.items; number = number } in
    let marks : new.marks ≡ old.marks ++ m ∷ [] = ap (λ (l : ContentView). l.marks) is in
    record {
      item_room = rw message (omega (arith, v.item_room));
      marks = rw marks (more_marks words at n old.marks (m ∷ []) v.marks (omega (arith, room.0)) left);
      in_order = rw (message, marks) (one_more 0 (length old.items) number old.marks v.in_order room.1);
    }

-- How many items there are after a part was taken.
counted : (n : ℕ) (old new : ContentView) (said : Said) → HasRoom n said → new
    ≡ with_said old said → length new.items ≤ length old.items + 2 * n
counted n old new said h1 h2 = grind (arith, length-append)

-- After a turn of the loop that takes a part, this is known.
pub record Leaves (extent : Extent) (most : ℕ) (words : List ℕ) (start at n : ℕ) (first new : ContentView)
    (total : Result ContentView ContentFault) : Type 0 where
  pub in_range : at + n ≤ length words
  pub some : 0 < n
  pub content : IsContentAt most words (at + n) new
  pub count : length new.items + 2 * start ≤ length first.items + 2 * (at + n)
  pub so_far : content_on extent new (at + n + 1) (drop (at + n) words) ≡ total

-- After a turn of the loop that takes a part, what is read in all is still the same.
pub goes_on : (extent : Extent) (most : ℕ) (words : List ℕ) (start at n : ℕ) (first old new : ContentView)
    (total : Result ContentView ContentFault)
    → IsBytes words → at ≤ length words
    → IsContentAt most words at old → length old.items + 2 * start ≤ length first.items + 2 * at
    → IsContentPartTaken (Ok (Some n)) old new (first_content_part extent (at + 1) (drop at words))
    → content_on extent old (at + 1) (drop at words) ≡ total
    → Leaves extent most words start at n first new total
goes_on extent most words start at n first old new total fit in_range v count took so_far =
    let said = took.0 in
    let fits = (content_part_sound extent).fits at words fit in
    let r = (content_part_sound extent).right (at + 1) (drop at words) n said fits took.1 in
    let long : length (take n (drop at words)) ≡ n = omega (arith, length-take n (drop at words), r.2) in
    let room : HasRoom n said =
    rw long at (room_by extent (at + 1) (take n (drop at words)) (drop n (drop at words)) said r.0) in
    let once = content_on-takes extent old (at + 1) (drop at words) n said fits took.1 in
    let place : (at + 1) + n ≡ at + n + 1 = omega arith in
    let rest : drop n (drop at words) ≡ drop (at + n) words = drop-drop n at words in
    record {
      in_range = omega (arith, r.2, length-drop at words);
      some = r.1;
      content = stays most words at n old new said v room (taken_away extent at n words said r.0) r.1 took.2;
      count = omega (arith, counted n old new said room took.2);
      so_far = rw (took.2, ← place, ← rest) (sym once ∙ so_far);
    }

-- At the end of the loop, what is read in all is what was read so far.
pub stops_on : (extent : Extent) (words : List ℕ) (at : ℕ) (old : ContentView) (why : Option ContentFault)
    (total : Result ContentView ContentFault)
    → first_content_part extent (at + 1) (drop at words) ≡ Stops why → content_on extent old (at + 1) (drop at words)
    ≡ total → total ≡ content_to old why
stops_on extent words at old why total e so_far = cc (content_on-stops extent old (at + 1) (drop at words) why e)

-- ---- parts of one codeword

-- A character is by itself a part.
pub character_taken : (extent : Extent) (place word byte : ℕ) (more : List ℕ) (old new : List Item) → codeword_of word
    ≡ Some (codeword.Character byte)
    → new ≡ old ++ Byte byte ∷ [] → IsPartTakenOrEnd (Ok (Some 1)) old new (first_part extent place (word ∷ more))
character_taken extent place word byte more old new e is = (Byte byte ∷ [], rw e refl, is)

-- A pair of digits is by itself a part.
pub digits_taken : (extent : Extent) (place word number : ℕ) (more : List ℕ) (old new : List Item) → codeword_of word
    ≡ Some (codeword.Digits number)
    → new ≡ old ++ Byte (48 + number / 10) ∷ Byte (48 + number % 10) ∷ []
    → IsPartTakenOrEnd (Ok (Some 1)) old new (first_part extent place (word ∷ more))
digits_taken extent place word number more old new e is =
    (Byte (48 + number / 10) ∷ Byte (48 + number % 10) ∷ [], rw e refl, is)

-- After a turn of the loop that takes parts of one codeword, this is known.
pub record OneWordLeaves (words : List ℕ) (start at : ℕ) (first old new : List Item) : Type 0 where
  pub in_range : at + 1 ≤ length words
  pub room : length new + 2 * start ≤ length first + 2 * (at + 1)
  pub no_fewer : length old ≤ length new
  pub said : (extent : Extent) (marks : List Mark)
      → content_on extent (items_with marks new) (at + 1 + 1) (drop (at + 1) words)
      ≡ content_on extent (items_with marks first) (start + 1) (drop start words)

-- A turn of the loop that takes parts of one codeword keeps to the words and to what is read in all of a content.
pub one_word_turn : (words : List ℕ) (start at word : ℕ) (first old new : List Item) → IsBytes words
    → length old + 2 * start ≤ length first + 2 * at → drop at words ≡ word ∷ drop (at + 1) words
    → IsOneWordTaken true old new word
    → ((extent : Extent) (marks : List Mark) → content_on extent (items_with marks old) (at + 1) (drop at words)
    ≡ content_on extent (items_with marks first) (start + 1) (drop start words))
    → OneWordLeaves words start at first old new
one_word_turn words start at word first old new fit room here taken so_far =
    let more = drop (at + 1) words in
    let fits = IsBytes-drop at words fit in
    let usual = taken Usual (at + 1) more in
    let few = part_room Usual (at + 1) (word ∷ more) 1 usual.0 (subst IsBytes here fits) usual.1 in
    let long = ap length usual.2 in
    record {
      in_range = omega (arith, ap length here, length-drop at words);
      room = omega (arith, few.0, room, long, length-append old usual.0);
      no_fewer = omega (arith, long, length-append old usual.0);
      said = λ extent marks. (
          let took = taken extent (at + 1) more in
          let behind : first_content_part extent (at + 1) (word ∷ more) ≡ Takes 1 (Items took.0) =
          cc (as_part extent (at + 1) word more (λ wide. no_eci extent (at + 1) word 1 more took.0 took.1), took.1) in
          let found : first_content_part extent (at + 1) (drop at words) ≡ Takes 1 (Items took.0) = cc in
          let once = content_on-takes extent (items_with marks old) (at + 1) (drop at words) 1 (Items took.0) fits
          found in
          let behind_it = rw (drop-drop 1 at words) at once in
          rw took.2 (sym behind_it ∙ so_far extent marks)
          );
    }

-- Behind parts of one codeword there is room for what is left.
pub one_words_leave : (most : ℕ) (words : List ℕ) (at to : ℕ) (old new : List Item) (marks : List Mark)
    → IsContentAt most words at (items_with marks old) → at ≤ to → length old ≤ length new
    → length new + 2 * at ≤ length old + 2 * to → IsContentAt most words to (items_with marks new)
one_words_leave most words at to old new marks v on more few = record {
  item_room = omega (arith, v.item_room, few);
  marks = marks_stay words at to marks v.marks on;
  in_order = more_items 0 (length old) (length new) marks v.in_order more;
}

-- ---- one part

-- Behind ECI, a mark is taken.
pub mark_taken : (place : ℕ) (d : Designator) (old new : ContentView) → new.head ≡ old.head → new.items ≡ old.items
    → new.marks ≡ old.marks ++ record { place = length old.items; number = d.number } ∷ []
    → IsContentPartTaken (Ok (Some (1 + d.count))) old new (mark_by place (Some d))
mark_taken place d old new head message marks = (Number d.number, refl, rw (head, message, marks) refl)

-- Behind ECI, a mark is taken where a designator is found.
pub mark_found : (place : ℕ) (o : Option Designator) (d : Designator) (old new : ContentView) → o ≡ Some d
    → new.head ≡ old.head → new.items ≡ old.items
    → new.marks ≡ old.marks ++ record { place = length old.items; number = d.number } ∷ []
    → IsContentPartTaken (Ok (Some (1 + d.count))) old new (mark_by place o)
mark_found place o d old new e head message marks = rw e (mark_taken place d old new head message marks)

-- Where the words don't begin with ECI, a part of a content is one that says items.
item_step : (extent : Extent) (place : ℕ) (words : List ℕ) → BeginNoEci words
    → first_content_part extent place words ≡ as_said (first_part extent place words)
item_step extent place words h1 = grind (arith, as_part)

-- Such a part is taken.
pub item_taken : (extent : Extent) (place : ℕ) (words : List ℕ) (o : Option ℕ) (old new : List Item)
    → BeginNoEci words → IsPartTakenOrEnd (Ok o) old new (first_part extent place words)
    → (marks : List Mark) → IsContentPartTaken (Ok o) (items_with marks old) (items_with marks new)
    (first_content_part extent place words)
item_taken extent place words None old new other taken marks =
    (item_step extent place words other ∙ ap as_said taken.0, ap (items_with marks) taken.1)
item_taken extent place words (Some n) old new other taken marks =
    (Items taken.0, item_step extent place words other ∙ ap as_said taken.1, ap (items_with marks) taken.2)

-- Or its fault is met.
pub item_fault : (extent : Extent) (place : ℕ) (words : List ℕ) (f : WordFault) → BeginNoEci words
    → first_part extent place words ≡ Stops (Some f)
    → first_content_part extent place words ≡ Stops (Some (fault.Word f))
item_fault extent place words f other e = item_step extent place words other ∙ ap as_said e
