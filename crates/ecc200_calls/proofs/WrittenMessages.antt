-- What writing a message gives, by what writing its content gives.
use Rattle.ecc200_calls.proofs.Names.{◌≡◌, List, [], ◌∷◌, Option, None, Result, Ok, Err, refl, ◌∙◌, ap, subst, arith}
use Rattle.ecc200_calls.proofs.Names.{false≢true, Head, Item, Mark, TooLong, ContentView, as_content, SymbolView}
use Rattle.ecc200_calls.proofs.Names.{IsContentWritten, map, mark_shown, IsWritingGiven, symbol_given}
use Rattle.ecc200_calls.specs.Laws.{IsMessageWriting, MessagesAreWritten}

-- Where marks have no numbers, there are none.
no_marks : (marks : List Mark) → map mark_shown marks ≡ [] → marks ≡ []
no_marks [] e = refl
no_marks (m ∷ marks) e = absurd cc

-- A content without a head and marks is that of its items.
content_of_items : (head : Option Head) (items : List Item) (marks : List Mark) → head ≡ None → marks ≡ []
    → (let l : ContentView = record { head = head; items = items; marks = marks } in l) ≡ as_content items
content_of_items head items marks none nothing =
    ap (λ (h : Option Head). let l : ContentView = record { head = h; items = items; marks = marks } in l) none
    ∙ ap (λ (m : List Mark). let l : ContentView = record { head = None; items = items; marks = m } in l) nothing

-- What is given for a message is what writing it gives.
pub messages_are_written : MessagesAreWritten
messages_are_written profile choice numbers before after (IsWritingGiven.no_item place first shown) =
    IsMessageWriting.no_message place first shown
messages_are_written profile choice numbers before after (IsWritingGiven.no_mark place items first shown) =
    absurd (omega (arith, first.inside))
messages_are_written profile choice numbers before after (IsWritingGiven.content l right of given plain) =
    by given.result (subst (λ (x : ContentView). IsContentWritten choice profile x given.result) same given.written)
    given.shown
  where
    same : l ≡ as_content l.items
    same = content_of_items l.head l.items l.marks of.head_is (no_marks l.marks of.marks_are)

    by : (result : Result SymbolView TooLong) → IsContentWritten choice profile (as_content l.items) result
        → after ≡ symbol_given result before → IsMessageWriting profile choice numbers before after
    by (Ok symbol) is shown = IsMessageWriting.written l.items symbol right.items of.items is.written shown
    by (Err why) is shown =
        IsMessageWriting.no_size l.items right.items of.items (λ fits. false≢true (is.fits.1 fits)) shown
