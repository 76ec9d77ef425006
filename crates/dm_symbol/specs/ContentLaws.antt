-- What holds of all contents and of the symbols of all sizes.
use Rattle.std.specs.Prelude.{◌≡◌, ◌≤◌, ℕ, List, Option, Some, None, Result, Ok, replicate, ◌↔◌}
use Rattle.dm_words.specs.declared.extent.Extent.{Extent}
use Rattle.dm_words.specs.declared.extent.Extent.TheVariants.{Usual, Wide}
use Rattle.dm_words.specs.declared.item.Item.{Item}
use Rattle.dm_words.specs.declared.profile.Profile.{Profile}
use Rattle.dm_words.specs.Contents.{ContentView, IsContent}
use Rattle.dm_words.specs.ContentExtents.{as_content, IsSaidIn}
use Rattle.dm_words.specs.ContentForm.{content_form}
use Rattle.dm_words.specs.Laws.{AreMacro}
use Rattle.dm_words.specs.Macros.{macro_text}
use Rattle.dm_words.specs.Pads.{padded}
use Rattle.dm_layout.specs.declared.symbols.size.SizeChoice.{SizeChoice}
use Rattle.dm_layout.specs.symbols.Sizes.{block_check}
use Rattle.dm_layout.specs.symbols.Symbols.{SymbolView, IsSymbol}
use Rattle.dm_symbol.specs.declared.symbol.dealing.Dealing.{Dealing}
use Rattle.dm_symbol.specs.declared.symbol.dealing.Dealing.TheVariants.{Standard}
use Rattle.dm_symbol.specs.declared.contents.ContentReadFault.{ContentReadFault}
use Rattle.dm_symbol.specs.declared.contents.ContentNormalFault.{ContentNormalFault}
use Rattle.dm_symbol.specs.Doubt.{sure_fault_count}
use Rattle.dm_symbol.specs.SymbolBlocks.{first_data}
use Rattle.dm_symbol.specs.SymbolReading.{AreRestored}
use Rattle.dm_symbol.specs.SymbolLaws.{AreLight, nothing_wrong}
use Rattle.dm_symbol.specs.ContentReading.{ContentReadingView, ReadsContent, ContentReadResult}
use Rattle.dm_words.specs.Symbology.{IsIdentifier}
use Rattle.dm_symbol.specs.ContentReading.{content_reading_of}
use Rattle.dm_symbol.specs.NormalContent.{ContentFits, IsContentWrittenIn, IsNormalOfContent}
use Rattle.dm_symbol.specs.ContentNormal.{HasNormalContent, NormalContentResult}

-- With the same doubtful modules, a symbol is read as at most one content, whatever the extents and the limits.
abbrev pub OneSymbolContent : Type 0
OneSymbolContent =
    (extent other_extent : Extent) (modules : SymbolView) (doubtful : Option SymbolView) (limit other_limit : ℕ)
    (content other : ContentView) → ReadsContent extent modules doubtful limit content
    → ReadsContent other_extent modules doubtful other_limit other → content ≡ other

-- A content that a symbol is read as is right, and can be said in the extent: so the laws below, which ask for that,
-- hold of it.
abbrev pub ReadContentsAreRight : Type 0
ReadContentsAreRight =
    (extent : Extent) (modules : SymbolView) (doubtful : Option SymbolView) (limit : ℕ) (content : ContentView)
    → ReadsContent extent modules doubtful limit content → IsContent content × IsSaidIn extent content

-- A symbol has some result of reading for an extent, doubtful modules and a limit.
abbrev pub ContentReadResultIsThere : Type 0
ContentReadResultIsThere =
    (extent : Extent) (modules : SymbolView) (doubtful : Option SymbolView) (limit : ℕ) → IsSymbol modules
    → (result : Result ContentReadingView ContentReadFault) × ContentReadResult extent modules doubtful limit result

-- A symbol has at most one result of reading for an extent, doubtful modules and a limit.
abbrev pub ContentReadResultIsOne : Type 0
ContentReadResultIsOne =
    (extent : Extent) (modules : SymbolView) (doubtful : Option SymbolView) (limit : ℕ)
    (result other : Result ContentReadingView ContentReadFault) → ContentReadResult extent modules doubtful limit result
    → ContentReadResult extent modules doubtful limit other → result ≡ other

-- A symbol has some result of normalising for an extent, a profile, doubtful modules and a limit.
abbrev pub NormalContentResultIsThere : Type 0
NormalContentResultIsThere =
    (extent : Extent) (profile : Profile) (modules : SymbolView) (doubtful : Option SymbolView) (limit : ℕ)
    → IsSymbol modules
    → (result : Result SymbolView ContentNormalFault) × NormalContentResult extent profile modules doubtful limit result

-- A symbol has at most one result of normalising for an extent, a profile, doubtful modules and a limit.
abbrev pub NormalContentResultIsOne : Type 0
NormalContentResultIsOne =
    (extent : Extent) (profile : Profile) (modules : SymbolView) (doubtful : Option SymbolView) (limit : ℕ)
    (result other : Result SymbolView ContentNormalFault)
    → NormalContentResult extent profile modules doubtful limit result
    → NormalContentResult extent profile modules doubtful limit other → result ≡ other

-- Where the modules that are given as doubtful are all light, a symbol is read as it is with none given.
abbrev pub LightDoubtReadsContentsAlike : Type 0
LightDoubtReadsContentsAlike =
    (extent : Extent) (modules doubtful : SymbolView) (limit : ℕ) (result : Result ContentReadingView ContentReadFault)
    → AreLight doubtful → ContentReadResult extent modules None limit result
    → ContentReadResult extent modules (Some doubtful) limit result

-- Where the modules that are given as doubtful are all light, a symbol is normalised as it is with none given.
abbrev pub LightDoubtNormalisesContentsAlike : Type 0
LightDoubtNormalisesContentsAlike =
    (extent : Extent) (profile : Profile) (modules doubtful : SymbolView) (limit : ℕ)
    (result : Result SymbolView ContentNormalFault) → AreLight doubtful
    → NormalContentResult extent profile modules None limit result
    → NormalContentResult extent profile modules (Some doubtful) limit result

-- What is read in the extent `Usual` is a message: it has neither a head nor marks.
abbrev pub UsualContentsAreMessages : Type 0
UsualContentsAreMessages =
    (modules : SymbolView) (doubtful : Option SymbolView) (limit : ℕ) (content : ContentView)
    → ReadsContent Usual modules doubtful limit content → content ≡ as_content content.items

-- What is read in the extent `Usual` is read in `Wide` with the same result.
abbrev pub WideReadsTheUsualContent : Type 0
WideReadsTheUsualContent =
    (modules : SymbolView) (doubtful : Option SymbolView) (limit : ℕ) (reading : ContentReadingView)
    → ContentReadResult Usual modules doubtful limit (Ok reading)
    → ContentReadResult Wide modules doubtful limit (Ok reading)

-- A right content that fits a size of the choice is written in some symbol; so one that fits a square has a normal
-- symbol.
abbrev pub AWrittenContentIsThere : Type 0
AWrittenContentIsThere =
    (choice : SizeChoice) (profile : Profile) (content : ContentView) → IsContent content → ContentFits choice profile
    content
    → (modules : SymbolView) × IsContentWrittenIn choice profile content modules

-- The symbol in which a right content is written, in whatever choice of sizes, is read as that content in each extent
-- in which the content can be said and for every limit, by the standard's dealing, with nothing wrong in any block and
-- no border fault, and has no other result; so is the normal symbol. Its identifier is that of the codewords that are
-- written.
abbrev pub WrittenContentIsRead : Type 0
WrittenContentIsRead =
    (extent : Extent) (choice : SizeChoice) (profile : Profile) (content : ContentView) (modules : SymbolView)
    (limit identifier : ℕ) (result : Result ContentReadingView ContentReadFault) → IsContent content
    → IsSaidIn extent content → IsContentWrittenIn choice profile content modules
    → IsIdentifier (padded (content_form profile content) modules.size.data_count) content identifier
    → ContentReadResult extent modules None limit result
    ↔ (result ≡ Ok (content_reading_of content identifier Standard
    (replicate modules.size.blocks (nothing_wrong (block_check modules.size))) 0))

-- Two symbols in which right contents are written in one choice and under one profile are equal exactly where the
-- contents are: where heads, items, and numbers and places of marks are.
abbrev pub WrittenSymbolsTellContents : Type 0
WrittenSymbolsTellContents =
    (choice : SizeChoice) (profile : Profile) (content other_content : ContentView) (modules other : SymbolView)
    → IsContent content → IsContent other_content → IsContentWrittenIn choice profile content modules
    → IsContentWrittenIn choice profile other_content other → (modules ≡ other) ↔ (content ≡ other_content)

-- Normalising twice is the same as normalising once: the normal symbol of a content that a symbol is read as is its own
-- normal symbol, for every limit and in every second extent in which that content can be said. (In the extent `Usual` a
-- content with a head or marks can't be: its normal symbol is refused there.)
abbrev pub NormalContentTwiceIsOnce : Type 0
NormalContentTwiceIsOnce =
    (extent other_extent : Extent) (profile : Profile) (modules normal : SymbolView) (doubtful : Option SymbolView)
    (limit other_limit : ℕ) (content : ContentView) (result : Result SymbolView ContentNormalFault)
    → ReadsContent extent modules doubtful limit content → IsNormalOfContent profile content normal
    → IsSaidIn other_extent content
    → NormalContentResult other_extent profile normal None other_limit result ↔ (result ≡ Ok normal)

-- Two symbols that are read, each in an extent of its own, with doubtful modules and under limits of its own, have
-- equal normal symbols under one profile exactly where their contents are equal. Their normal symbols may be found
-- under other limits than their contents.
abbrev pub EqualNormalSymbolsMeanEqualContents : Type 0
EqualNormalSymbolsMeanEqualContents =
    (extent other_extent : Extent) (profile : Profile) (modules other normal other_normal : SymbolView)
    (doubtful other_doubtful : Option SymbolView) (limit other_limit normal_limit other_normal_limit : ℕ)
    (content other_content : ContentView)
    → ReadsContent extent modules doubtful limit content
    → ReadsContent other_extent other other_doubtful other_limit other_content
    → HasNormalContent extent profile modules doubtful normal_limit normal
    → HasNormalContent other_extent profile other other_doubtful other_normal_limit other_normal
    → (normal ≡ other_normal) ↔ (content ≡ other_content)

-- The data codewords of the symbol, as they are restored, are the macro of this digit and, behind it, parts with the
-- items of this text.
pub record ReadsMacro (modules : SymbolView) (doubtful : Option SymbolView) (limit digit : ℕ) (text : List Item)
    : Type 0 where
  pub border : sure_fault_count modules doubtful ≤ limit
  pub dealing : Dealing
  pub words : List ℕ
  pub codewords : List ℕ
  pub restored : AreRestored Wide modules doubtful dealing words codewords
  pub framed : AreMacro digit (first_data modules.size codewords) text

-- A symbol whose first data codeword is a macro and one that spells the macro's header, text and trailer out, in
-- whatever extent that is read, have equal normal symbols under one profile.
abbrev pub AMacroIsItsText : Type 0
AMacroIsItsText =
    (extent : Extent) (profile : Profile) (modules other normal other_normal : SymbolView)
    (doubtful other_doubtful : Option SymbolView) (limit other_limit normal_limit other_normal_limit digit : ℕ)
    (text : List Item) → ReadsMacro modules doubtful limit digit text
    → ReadsContent extent other other_doubtful other_limit (as_content (macro_text digit text))
    → HasNormalContent Wide profile modules doubtful normal_limit normal
    → HasNormalContent extent profile other other_doubtful other_normal_limit other_normal → normal ≡ other_normal
