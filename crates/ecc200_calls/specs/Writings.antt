-- What the library gives for a content that is to be written. A message is a content without a head and marks.
use Rattle.std.specs.Prelude.{◌≡◌, ℕ, ◌≤◌, List, length, nat_eq, if◌then◌else◌, Option, Some, None}
use Rattle.std.specs.Prelude.{All, get_or, min, Result, Ok, Err, IfOk}
use Rattle.dm_symbol.specs.declared.Extent.{Extent}
use Rattle.dm_symbol.specs.declared.Form.{Form}
use Rattle.dm_symbol.specs.declared.Form.TheVariants.{Profiled, Smallest}
use Rattle.dm_symbol.specs.declared.Head.{Head}
use Rattle.dm_symbol.specs.declared.Profile.TheVariants.{Ascii, Shorter}
use Rattle.dm_symbol.specs.declared.SizeChoice.{SizeChoice}
use Rattle.dm_symbol.specs.declared.TooLong.{TooLong}
use Rattle.dm_words.specs.Contents.{ContentView, IsContent}
use Rattle.dm_layout.specs.symbols.Symbols.{SymbolView}
use Rattle.dm_symbol.specs.PlainSymbol.{IsPlainSymbol}
use Rattle.dm_symbol.specs.WrittenContent.{IsWrittenAs}
use Rattle.ecc200_calls.specs.declared.how.How.{How}
use Rattle.ecc200_calls.specs.declared.fault.Fault.{Fault}
use Rattle.ecc200_calls.specs.declared.mark.MarkNumbers.{MarkNumbers}
use Rattle.ecc200_calls.specs.declared.symbol.SymbolOut.{SymbolOut}
use Rattle.ecc200_calls.specs.Choices.{choice_of}
use Rattle.ecc200_calls.specs.Extents.{extent_of}
use Rattle.ecc200_calls.specs.Faults.{fault}
use Rattle.ecc200_calls.specs.Items.{IsFirstForeign}
use Rattle.ecc200_calls.specs.Contents.{AreOfHead, IsFirstWrong, IsContentOf}
use Rattle.ecc200_calls.specs.Symbols.{no_symbol, symbol_shown}

-- The smallest symbol for readers of an extent is a form; a number that stands for no extent is a fault.
abbrev pub smallest_form : ℕ → Option Extent → Result Form Fault
smallest_form number (Some extent) = Ok (Smallest extent)
smallest_form number None = Err (fault 17 number 0)

-- The form 0 stands for the profile `Ascii`, 1 for `Shorter`, 2 for the smallest symbol for readers of the extent that
-- is given, and no other number for any.
abbrev pub form_of : How → Result Form Fault
form_of how =
    if nat_eq how.form 0 then Ok (Profiled Ascii)
    else (if nat_eq how.form 1 then Ok (Profiled Shorter)
    else (if nat_eq how.form 2 then smallest_form how.extent (extent_of how.extent)
    else Err (fault 16 how.form 0)))

-- What the numbers of a caller ask for can't be: the first of these that there is. There is no such form; no choice of
-- sizes has the number of the shape; or the numbers of a head are those of none.
pub data IsHowFault (how : How) (why : Fault) : Type 0 where
  no_form : form_of how ≡ Err why → IsHowFault how why
  no_choice : (form : Form) → form_of how ≡ Ok form → choice_of how ≡ None → why ≡ fault 18 how.shape 0
      → IsHowFault how why
  no_head : (form : Form) (choice : SizeChoice) → form_of how ≡ Ok form → choice_of how ≡ Some choice
      → ((head : Option Head) → AreOfHead how.head head → ⊥) → why ≡ fault 23 0 0 → IsHowFault how why

-- The numbers ask for this form, this choice of sizes, and this head or none.
pub record AskFor (how : How) (form : Form) (choice : SizeChoice) (head : Option Head) : Type 0 where
  pub form_is : form_of how ≡ Ok form
  pub choice_is : choice_of how ≡ Some choice
  pub head_is : AreOfHead how.head head

-- A symbol is given, or that the content fits no size.
abbrev pub symbol_given : Result SymbolView TooLong → SymbolOut → SymbolOut
symbol_given (Ok symbol) before = symbol_shown symbol before
symbol_given (Err why) before = no_symbol (fault 14 0 0) before

-- What writing a content in a form and in a choice of sizes gives is given: its symbol, or that it fits no size of the
-- choice.
pub record IsContentGiven (form : Form) (choice : SizeChoice) (content : ContentView) (before after : SymbolOut)
    : Type 0 where
  pub result : Result SymbolView TooLong
  pub written : IsWrittenAs form choice content result
  pub shown : after ≡ symbol_given result before

-- What is given for the numbers of items and of marks, and a head or none, is the first of these that there is: the
-- first number that stands for no item, with its index, counted from 0, or with 65535 if the index is more; the index
-- of the first mark that is wrong, likewise; the result of writing the content, whose symbol, if it is given, has plain
-- data codewords with the identifier of the ASCII form.
pub data IsWritingGiven (form : Form) (choice : SizeChoice) (head : Option Head) (numbers : List ℕ)
    (marks : List MarkNumbers) (before after : SymbolOut) : Type 0 where
  no_item : (place : ℕ) → IsFirstForeign numbers place
      → after ≡ no_symbol (fault 15 (get_or numbers place 0) (min place 65535)) before
      → IsWritingGiven form choice head numbers marks before after
  no_mark : (place : ℕ) → All (λ number. number ≤ 256) numbers → IsFirstWrong (length numbers) marks place
      → after ≡ no_symbol (fault 22 0 (min place 65535)) before
      → IsWritingGiven form choice head numbers marks before after
  content : (content : ContentView) → IsContent content → IsContentOf head numbers marks content
      → (given : IsContentGiven form choice content before after)
      → IfOk given.result (λ symbol. IsPlainSymbol symbol content)
      → IsWritingGiven form choice head numbers marks before after

-- Writing these numbers of items and of marks gives why what is asked for can't be, or the result for it.
pub data IsWriteResult (numbers : List ℕ) (marks : List MarkNumbers) (how : How) (before after : SymbolOut)
    : Type 0 where
  not_asked : (why : Fault) → IsHowFault how why → after ≡ no_symbol why before
      → IsWriteResult numbers marks how before after
  asked : (form : Form) (choice : SizeChoice) (head : Option Head) → AskFor how form choice head
      → IsWritingGiven form choice head numbers marks before after → IsWriteResult numbers marks how before after
