-- What reading a content in an extent gives, and what holds of all lists of codewords.
use Rattle.std.specs.Prelude.{◌≡◌, ◌≤◌, ◌↔◌, ◌*◌, ◌⊎◌, ℕ, List, length, Result, Ok, Err, IfOk}
use Rattle.dm_words.specs.declared.extent.Extent.{Extent}
use Rattle.dm_words.specs.declared.contents.fault.ContentFault.{ContentFault}
use Rattle.dm_words.specs.Messages.{most_spelled}
use Rattle.dm_words.specs.Contents.{ContentView, IsContent, Says, IsRefused}

-- What reading codewords in an extent gives: a content exactly where they say it, a fault exactly where they are
-- refused with it. The content is right, has no more items than so many codewords can spell in that extent, and at most
-- one mark for each two codewords.
pub record IsContentResult (extent : Extent) (words : List ℕ) (result : Result ContentView ContentFault) : Type 0 where
  pub content : (l : ContentView) → (result ≡ Ok l) ↔ Says extent words l
  pub fault : (why : ContentFault) → (result ≡ Err why) ↔ IsRefused extent words why
  pub right : IfOk result (λ l. IsContent l)
  pub most : IfOk result (λ l. length l.items ≤ most_spelled extent (length words))
  pub most_marks : IfOk result (λ l. 2 * length l.marks ≤ length words)

-- In an extent, the words say exactly one content, and are refused with no fault.
pub record SaysOnly (extent : Extent) (words : List ℕ) : Type 0 where
  pub content : ContentView
  pub says : Says extent words content
  pub only : (other : ContentView) → Says extent words other → other ≡ content
  pub not_refused : (why : ContentFault) → IsRefused extent words why → ⊥

-- In an extent, the words are refused with exactly one fault, and say no content.
pub record NotSaid (extent : Extent) (words : List ℕ) : Type 0 where
  pub why : ContentFault
  pub refused : IsRefused extent words why
  pub only : (other : ContentFault) → IsRefused extent words other → other ≡ why
  pub not_said : (content : ContentView) → Says extent words content → ⊥

-- In an extent, the words have one result: a content, or a fault.
abbrev pub HasOneContentResult : Extent → List ℕ → Type 0
HasOneContentResult extent words = SaysOnly extent words ⊎ NotSaid extent words
