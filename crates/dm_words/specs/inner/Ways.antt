-- The ways to write a message that have the fewest codewords: its parts, or in the wide extent the codeword of a
-- macro and the parts of its text.
use Rattle.std.specs.Prelude.{◌≡◌, ℕ, ◌+◌, ◌-◌, ◌≤◌, List, length, take, drop, Option, Some, None}
use Rattle.dm_words.specs.declared.extent.Extent.{Extent}
use Rattle.dm_words.specs.declared.extent.Extent.TheVariants.{Wide}
use Rattle.dm_words.specs.declared.item.Item.{Item}
use Rattle.dm_words.specs.declared.codeword.Codeword.TheVariants as codeword
use Rattle.dm_words.specs.Codewords.{codeword_of}
use Rattle.dm_words.specs.Contents.{ContentView}
use Rattle.dm_words.specs.Macros.{macro_text, BeginsFnc1}
use Rattle.dm_words.specs.Plain.{IsPlainForm}
use Rattle.dm_words.specs.Smallest.{SaysThenPads}
use Rattle.dm_words.specs.inner.Costs.{at_end, parts_cost}

-- No way to write a message costs less: not its parts, nor the text of a macro and the macro itself, where FNC1 doesn't
-- come first in that text.
pub record IsLeastCost (extent : Extent) (message : List Item) (cost : ℕ) : Type 0 where
  pub parts : cost ≤ parts_cost (at_end extent) message
  pub macros : (word digit : ℕ) (text : List Item) → extent ≡ Wide → codeword_of word ≡ Some (codeword.Macro digit)
      → message ≡ macro_text digit text → (BeginsFnc1 text → ⊥)
      → cost ≤ 1 + parts_cost (at_end extent) text

-- The items between a header and a trailer are these, if there are as many.
abbrev pub inner_text : List Item → List Item
inner_text items = take (length items - 2 - 7) (drop 7 items)

-- The codeword is a macro for the header and the trailer of these items, and FNC1 doesn't come first between them.
pub record IsMacroOf (extent : Extent) (items : List Item) (word : ℕ) : Type 0 where
  pub wide : extent ≡ Wide
  pub digit : ℕ
  pub is_macro : codeword_of word ≡ Some (codeword.Macro digit)
  pub framed : items ≡ macro_text digit (inner_text items)
  pub no_fnc1 : BeginsFnc1 (inner_text items) → ⊥
  pub long : 9 ≤ length items

-- No macro stands for a header and a trailer of these items, or FNC1 comes first between them.
abbrev pub HasNoMacro : Extent → List Item → Type 0
HasNoMacro extent items = (word digit : ℕ) (text : List Item) → extent ≡ Wide → codeword_of word
    ≡ Some (codeword.Macro digit) → items ≡ macro_text digit text → (BeginsFnc1 text → ⊥) → ⊥

-- To write a message by this macro, or by none, costs at most this much.
abbrev pub IsWay : Extent → List Item → Option ℕ → ℕ → Type 0
IsWay extent items None cost = parts_cost (at_end extent) items ≤ cost
IsWay extent items (Some word) cost =
    IsMacroOf extent items word × (1 + parts_cost (at_end extent) (inner_text items) ≤ cost)

-- By a macro the text between the header and the trailer is written, and else all items.
abbrev pub text_of : Option ℕ → List Item → List Item
text_of None items = items
text_of (Some word) items = inner_text items

-- The words say the content in an extent and in the wide one, with pads behind them, as words that are written do.
pub record AreWritten (extent : Extent) (words : List ℕ) (content : ContentView) : Type 0 where
  pub says : SaysThenPads extent words content
  pub wide : SaysThenPads Wide words content
  pub form : IsPlainForm words content
