-- Which data codewords of a symbol spell which message, and which are refused (ISO/IEC 16022, encodation schemes): a
-- message is a content without a head and marks. The words are all data codewords of the symbol, each of 0 to 255, so
-- their end is the end of the symbol.
use Rattle.std.specs.Prelude.{ℕ, List}
use Rattle.dm_words.specs.declared.extent.Extent.{Extent}
use Rattle.dm_words.specs.declared.extent.Extent.TheVariants.{Usual}
use Rattle.dm_words.specs.declared.item.Item.{Item}
use Rattle.dm_words.specs.declared.fault.WordFault.{WordFault}
use Rattle.dm_words.specs.declared.contents.fault.ContentFault.TheVariants as fault
use Rattle.dm_words.specs.Contents.{Says, IsRefused}
use Rattle.dm_words.specs.ContentExtents.{as_content}

-- The words spell the message in an extent: they say it as a content. In the usual extent this is so where they are
-- parts that have its items, and then an end.
abbrev pub Spells : Extent → List ℕ → List Item → Type 0
Spells extent words message = Says extent words (as_content message)

-- The words are refused with this fault, and spell no message in the usual extent.
abbrev pub Refused : List ℕ → WordFault → Type 0
Refused words why = IsRefused Usual words (fault.Word why)
