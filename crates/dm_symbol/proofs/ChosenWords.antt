-- Data codewords that are chosen for a content in a form: the symbol in which they are laid is the one in which it is
-- written.
use Rattle.dm_symbol.proofs.Names.{◌≡◌, ◌∙◌, ◌<◌, ℕ, List, length, Some, None, Option, Result, Ok, Err, refl, ap, arith}
use Rattle.dm_symbol.proofs.Names.{IfOk, OnErr, IsSome, false≢true, SizeChoice, SizeEntry, IsSize, entry_for}
use Rattle.dm_symbol.proofs.Names.{SymbolView, WordsView, IsLaid, size_facts, Extent, TooLong, Item, ContentView}
use Rattle.dm_symbol.proofs.Names.{content_form, Form, Profiled, Smallest, IsSmallestContentWritten, AreCodewordsOf}
use Rattle.dm_symbol.proofs.Names.{first_data, take, AreChosen, IsWrittenAs, FitChoice}
use Rattle.dm_words.specs.declared.contents.head.Head.{Head}
use Rattle.dm_words.specs.declared.contents.mark.Mark.{Mark}
use Rattle.dm_words.specs.Smallest.{IsSmallestContentResult, chosen_words}
use Rattle.dm_symbol.proofs.SmallestContentSymbols.{laid_is_smallest_content, no_content_written}
use Rattle.dm_symbol.proofs.SmallestContentSymbols.{smallest_content_written}
use Rattle.dm_symbol.proofs.SymbolCompletions.{chosen_stands}
use Rattle.dm_symbol.proofs.SymbolWriteSteps.{chosen_holds}
use Rattle.dm_symbol.proofs.WrittenWords.{laid_are_written, words_are_written}

-- The modules in which the completed codewords are laid are the symbol in which the content is written.
pub chosen_written : (form : Form) (choice : SizeChoice) (l : ContentView) (size : SizeEntry) (chosen : List ℕ)
    (modules : SymbolView) (w : WordsView) → AreChosen form choice l size chosen → w.size ≡ size
    → first_data size w.list ≡ chosen → AreCodewordsOf size w.list → IsLaid w modules
    → IsWrittenAs form choice l (Ok modules)
chosen_written (Profiled profile) choice l size chosen modules w is of_size front checked laid =
    let form = content_form profile l in
    words_are_written choice form modules
    (laid_are_written choice form modules w size is.0 of_size (front ∙ is.1) checked laid)
chosen_written (Smallest extent) choice l size chosen modules w is of_size front checked laid =
    smallest_content_written extent choice l modules
    (laid_is_smallest_content extent choice l modules w size chosen is.smallest is.plainest is.padded of_size front
    checked laid)

-- Codewords that are more than any size has fit none.
pub fits_no_size : (choice : SizeChoice) (form : List ℕ) → 1558 < length form → FitChoice choice form → ⊥
fits_no_size choice form long fits = by_size (entry_for choice (length form)) refl fits where
  by_size : (o : Option SizeEntry) → entry_for choice (length form) ≡ o → IsSome o → ⊥
  by_size None e is = false≢true is
  by_size (Some size) e is =
      omega (
        arith,
        chosen_holds choice (length form) size e,
        (size_facts size (chosen_stands choice (length form) size e)).data_fits,
        long,
      )

-- What choosing the smallest words gives: the words of a size at the beginning of a target, or that there is none in
-- which the content is written.
module _ (extent : Extent) (choice : SizeChoice) (l : ContentView) (target : List ℕ) where
  pub smallest_chosen : (r : Result SizeEntry TooLong)
      → IsSmallestContentResult extent choice l r (chosen_words r target)
      → IfOk r (λ size. IsSmallestContentResult extent choice l (Ok size) (take size.data_count target))
  smallest_chosen (Ok size) is = is
  smallest_chosen (Err why) is = tt

  pub smallest_none : (r : Result SizeEntry TooLong)
      → IsSmallestContentResult extent choice l r (chosen_words r target)
      → OnErr r ((why : TooLong) → IsSmallestContentWritten extent choice l (Err why))
  smallest_none (Ok size) is = tt
  smallest_none (Err e) is = λ why. no_content_written extent choice l why (is.too_long refl)

-- A content is known by its head, its items and its marks.
pub content_is : (l : ContentView) (head : Option Head) (items : List Item) (marks : List Mark) → head ≡ l.head
    → items ≡ l.items → marks ≡ l.marks
    → (let k : ContentView = record { head = head; items = items; marks = marks } in k) ≡ l
content_is l head items marks same_head same_items same_marks =
    ap (λ (h : Option Head). let k : ContentView = record { head = h; items = items; marks = marks } in k) same_head
    ∙ ap (λ (i : List Item). let k : ContentView = record { head = l.head; items = i; marks = marks } in k) same_items
    ∙ ap (λ (m : List Mark). let k : ContentView = record { head = l.head; items = l.items; marks = m } in k) same_marks
