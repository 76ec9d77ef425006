-- How messages and contents are held: at the start of arrays with room for more.
use Rattle.std.specs.Prelude.{◌≡◌, ℕ, ◌≤◌, List, length, take, Option}
use Rattle.dm_words.specs.declared.item.Item.{Item}
use Rattle.dm_words.specs.declared.contents.head.Head.{Head}
use Rattle.dm_words.specs.declared.contents.mark.Mark.{Mark}
use Rattle.dm_words.specs.Messages.{IsMessage}
use Rattle.dm_words.specs.Contents.{ContentView, IsContent}

-- A list with so much room holds so many items: there is room for them, and they are a message.
pub record AreHeld (room held : ℕ) (list : List Item) : Type 0 where
  pub fits : held ≤ room
  pub room_is : length list ≡ room
  pub message : IsMessage (take held list)

-- What lists hold, with a head, as a content.
abbrev pub held_content : Option Head → ℕ → List Item → ℕ → List Mark → ContentView
held_content head held items marked marks = record { head = head; items = take held items; marks = take marked marks }

-- Lists with so much room hold a content: there is room for its items and for its marks.
pub record IsHeld (room mark_room : ℕ) (head : Option Head) (held : ℕ) (items : List Item) (marked : ℕ)
    (marks : List Mark) : Type 0 where
  pub fits : held ≤ room
  pub room_is : length items ≡ room
  pub marks_fit : marked ≤ mark_room
  pub mark_room_is : length marks ≡ mark_room
  pub content : IsContent (held_content head held items marked marks)
