-- Symbols that are written are plain.
use Rattle.dm_symbol.proofs.Names.{◌≤◌, List, length, sym, subst, arith, Result, Ok, Err, IfOk, SizeChoice, SymbolView}
use Rattle.dm_symbol.proofs.Names.{size_facts, TooLong, Extent, Item, Profile, as_content, content_form, ContentView}
use Rattle.dm_symbol.proofs.Names.{IsContent, IsMessage, IsContentWritten, IsContentWrittenIn, IsSmallestContentWritten}
use Rattle.dm_symbol.proofs.Names.{IsWrittenAs, Form, Profiled, Smallest}
use Rattle.dm_words.specs.Plain.{IsPlainForm}
use Rattle.dm_words.proofs.Exported.{content_form_plain}
use Rattle.dm_symbol.specs.PlainSymbol.{IsPlainSymbol}
use Rattle.dm_symbol.proofs.SymbolCompletions.{chosen_stands}
use Rattle.dm_symbol.proofs.SymbolWriteSteps.{chosen_holds}

-- A symbol in which the form of a content is written is plain.
form_is_plain : (choice : SizeChoice) (profile : Profile) (l : ContentView) (g : SymbolView) → IsContent l
    → IsContentWrittenIn choice profile l g → IsPlainSymbol g l
form_is_plain choice profile l g right w =
    let form = content_form profile l in
    let fits : length form ≤ g.size.data_count = chosen_holds choice (length form) g.size w.smallest in
    let most = (size_facts g.size (chosen_stands choice (length form) g.size w.smallest)).data_fits in
    record {
      words = w.words;
      laid = w.laid;
      form = subst (λ ws. IsPlainForm ws l) (sym w.data_words)
          (content_form_plain profile l right (omega (arith, fits, most)) g.size.data_count fits);
    }

-- So is each that is written under a profile.
written_is_plain : (choice : SizeChoice) (profile : Profile) (l : ContentView) (result : Result SymbolView TooLong)
    → IsContent l → IsContentWritten choice profile l result → IfOk result (λ g. IsPlainSymbol g l)
written_is_plain choice profile l (Ok g) right w = form_is_plain choice profile l g right w.written
written_is_plain choice profile l (Err why) right w = tt

-- And each smallest one.
smallest_is_plain : (extent : Extent) (choice : SizeChoice) (l : ContentView) (result : Result SymbolView TooLong)
    → IsSmallestContentWritten extent choice l result → IfOk result (λ g. IsPlainSymbol g l)
smallest_is_plain extent choice l (Ok g) w =
    record { words = w.written.words; laid = w.written.laid; form = w.written.smallest.form }
smallest_is_plain extent choice l (Err why) w = tt

-- So is one that is written in any form.
pub form_written_is_plain : (form : Form) (choice : SizeChoice) (l : ContentView) (result : Result SymbolView TooLong)
    → IsContent l → IsWrittenAs form choice l result → IfOk result (λ g. IsPlainSymbol g l)
form_written_is_plain (Profiled profile) choice l result right w = written_is_plain choice profile l result right w
form_written_is_plain (Smallest extent) choice l result right w = smallest_is_plain extent choice l result w

-- A message is a content.
pub message_is_content : (m : List Item) → IsMessage m → IsContent (as_content m)
message_is_content m is = record { head = tt; items = is; marks = omega arith }
