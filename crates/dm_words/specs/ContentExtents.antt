-- Messages as contents, and which contents can be said in an extent. The extents are a choice of this project.
use Rattle.std.specs.Prelude.{◌≡◌, List, [], None}
use Rattle.dm_words.specs.declared.extent.Extent.{Extent}
use Rattle.dm_words.specs.declared.extent.Extent.TheVariants.{Usual, Wide}
use Rattle.dm_words.specs.declared.item.Item.{Item}
use Rattle.dm_words.specs.Contents.{ContentView}

-- A message is the content with its items, and without a head and marks.
abbrev pub as_content : List Item → ContentView
as_content message = record { head = None; items = message; marks = [] }

-- The content can be said in an extent: any in the wide one, and a message in the usual one.
abbrev pub IsSaidIn : Extent → ContentView → Type 0
IsSaidIn Usual content = content ≡ as_content content.items
IsSaidIn Wide content = Unit {0}
