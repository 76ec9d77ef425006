-- Contents that are written, and symbols that are normalised.
use Rattle.ecc200_calls.proofs.Names.{◌≡◌, ◌⊎◌, inl, inr, ℕ, ◌*◌, ◌+◌, ◌<◌, ◌≤◌, List, [], ◌∷◌, length, Option, Err}
use Rattle.ecc200_calls.proofs.Names.{refl, sym, ◌∙◌, ap, arith, All, length-map, Head, Item, Mark, IsMessage, Profile}
use Rattle.ecc200_calls.proofs.Names.{SizeChoice, TooLong, ContentView, IsContent, AreMarks, size_facts, entry_for}
use Rattle.ecc200_calls.proofs.Names.{most_data, ContentFits, form_written_is_plain, no_content_written}
use Rattle.ecc200_calls.proofs.Names.{no_words_written, Profiled, Smallest, MarkNumbers, SymbolOut, number_of, map}
use Rattle.ecc200_calls.proofs.Names.{IsContentOf, marks_of, mark_shown, no_symbol, IsContentGiven, IsWritingGiven}
use Rattle.ecc200_calls.specs.Faults.{fault}
use Rattle.dm_words.specs.Heads.{IsHead}
use Rattle.dm_words.specs.ContentForm.{content_form}
use Rattle.dm_words.proofs.Exported.{content_form_counts, said_few}
use Rattle.dm_symbol.specs.declared.Form.{Form}
use Rattle.dm_symbol.specs.WrittenContent.{IsWrittenAs}
use Rattle.ecc200_calls.proofs.Messages.{message_there, room_in}

-- Marks have the numbers that stand for them.
pub marks_again : (marks : List MarkNumbers) → map mark_shown (marks_of marks) ≡ marks
marks_again [] = refl
marks_again (m ∷ marks) = ap (λ ms. m ∷ ms) (marks_again marks)

-- So it is given for its numbers.
pub content_given : (form : Form) (choice : SizeChoice) (head : Option Head) (numbers : List ℕ)
    (marks : List MarkNumbers) (l : ContentView) (before after : SymbolOut) → IsContent l
    → IsContentOf head numbers marks l
    → IsContentGiven form choice l before after → IsWritingGiven form choice head numbers marks before after
content_given form choice head numbers marks l before after right of given =
    IsWritingGiven.content l right of given (form_written_is_plain form choice l given.result right given.written)

-- So is that of the items and the marks of these numbers.
pub numbers_given : (form : Form) (choice : SizeChoice) (head : Option Head) (numbers : List ℕ)
    (marks : List MarkNumbers) (items : List Item) (made : List Mark) (before after : SymbolOut) → IsHead head
    → AreMarks 0 (length numbers) (marks_of marks) → map number_of items ≡ numbers → IsMessage items
    → made ≡ marks_of marks
    → IsContentGiven form choice (record { head = head; items = items; marks = made }) before after
    → IsWritingGiven form choice head numbers marks before after
numbers_given form choice head numbers marks items made before after right are of_numbers fit of_marks given =
    let count : length items ≡ length numbers = rw (← of_numbers, length-map) in
    content_given form choice head numbers marks (record { head = head; items = items; marks = made }) before after
    (record {
      head = right;
      items = fit;
      marks = rw (count, of_marks) are;
    })
    (record { head_is = refl; items = of_numbers; marks_are = ap (map mark_shown) of_marks ∙ marks_again marks }) given

-- A content of more items or marks than the largest symbol has room for fits no size.
fits_none : (choice : SizeChoice) (profile : Profile) (l : ContentView)
    → (2 * most_data < length l.items) ⊎ (most_data < 2 * length l.marks) → ContentFits choice profile l → ⊥
fits_none choice profile l many h =
    let words = length (content_form profile l) in
    let few = room_in choice words (entry_for choice words) refl h in
    let counts = content_form_counts profile l in
    elim many [
      | inl items ↦ omega (arith, items, few, counts)
      | inr marks ↦ omega (arith, marks, few, counts)
    ]

-- What is given for the numbers of a content where it fits no size is that it is too long.
no_size_given : (form : Form) (choice : SizeChoice) (head : Option Head) (numbers : List ℕ)
    (marks : List MarkNumbers) (before after : SymbolOut) → IsHead head → All (λ number. number ≤ 256) numbers
    → AreMarks 0 (length numbers) (marks_of marks)
    → ((l : ContentView) → length l.items ≡ length numbers → length l.marks ≡ length marks
    → (why : TooLong) → IsWrittenAs form choice l (Err why))
    → after ≡ no_symbol (fault 14 0 0) before → IsWritingGiven form choice head numbers marks before after
no_size_given form choice head numbers marks before after right items are none shown =
    let there = message_there numbers items in
    let l : ContentView = record { head = head; items = there.0; marks = marks_of marks } in
    let item_count : length there.0 ≡ length numbers =
    sym (length-map there.0 number_of) ∙ ap (λ (ns : List ℕ). length ns) there.2 in
    let mark_count : length (marks_of marks) ≡ length marks = length-map marks _ in
    content_given form choice head numbers marks l before after
    (record {
      head = right;
      items = there.1;
      marks = rw item_count are;
    })
    (record { head_is = refl; items = there.2; marks_are = marks_again marks })
    (record { result = Err why; written = none l item_count mark_count why; shown = shown })
  where
    why : TooLong
    why = record {}

-- So it is where there are more items or marks than any symbol says.
pub too_long_given : (form : Form) (choice : SizeChoice) (head : Option Head) (numbers : List ℕ)
    (marks : List MarkNumbers) (before after : SymbolOut) → IsHead head → All (λ number. number ≤ 256) numbers
    → AreMarks 0 (length numbers) (marks_of marks)
    → (2 * most_data + 7 < length numbers) ⊎ (most_data < 2 * length marks) → after ≡ no_symbol (fault 14 0 0) before
    → IsWritingGiven form choice head numbers marks before after
too_long_given (Profiled profile) choice head numbers marks before after right items are many shown =
    no_size_given (Profiled profile) choice head numbers marks before after right items are
    (λ l item_count mark_count why. no_words_written choice (content_form profile l) (Err why) refl
    (fits_none choice profile l
    (elim many [
      | inl h ↦ inl (omega (arith, h, item_count))
      | inr h ↦ inr (omega (arith, h, mark_count))
    ]))) shown
too_long_given (Smallest extent) choice head numbers marks before after right items are many shown =
    no_size_given (Smallest extent) choice head numbers marks before after right items are
    (λ l item_count mark_count why. no_content_written extent choice l why
    (λ size words taken sized framed says.
    let few = said_few extent words l says in
    let most = (size_facts size taken.0).data_fits in
    elim many [
      | inl h ↦ omega (arith, h, item_count, few.0, most, sized)
      | inr h ↦ omega (arith, h, mark_count, few.1, most, sized)
    ])) shown
