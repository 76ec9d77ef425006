-- The symbol in which a content is written under a profile, in the smallest size of a choice; and the normal symbol of
-- a content, which is the one in the smallest square. That this symbol is chosen among those that say the same is a
-- rule of this project.
use Rattle.std.specs.Prelude.{Result}
use Rattle.dm_words.specs.declared.fault.TooLong.{TooLong}
use Rattle.dm_words.specs.declared.profile.Profile.{Profile}
use Rattle.dm_layout.specs.declared.symbols.size.SizeChoice.{SizeChoice}
use Rattle.dm_layout.specs.declared.symbols.size.SizeChoice.TheVariants.{Square}
use Rattle.dm_layout.specs.symbols.Symbols.{SymbolView}
use Rattle.dm_words.specs.Contents.{ContentView}
use Rattle.dm_words.specs.ContentForm.{content_form}
use Rattle.dm_symbol.specs.WrittenWords.{FitChoice, AreWrittenIn, AreWritten}

-- The content fits some size of the choice: one with at least as many data codewords as its normal form has codewords.
abbrev pub ContentFits : SizeChoice → Profile → ContentView → Type 0
ContentFits choice profile content = FitChoice choice (content_form profile content)

-- The content is written in the modules, in a size of the choice: its normal form is.
abbrev pub IsContentWrittenIn : SizeChoice → Profile → ContentView → SymbolView → Type 0
IsContentWrittenIn choice profile content = AreWrittenIn choice (content_form profile content)

-- The normal symbol of a content is the one in which it is written in the smallest square, of 10 x 10 to 144 x 144.
abbrev pub IsNormalOfContent : Profile → ContentView → SymbolView → Type 0
IsNormalOfContent = IsContentWrittenIn Square

-- Where a content fits some size of the choice, writing it gives the only symbol in which it is written so; otherwise
-- it gives that there is none.
abbrev pub IsContentWritten : SizeChoice → Profile → ContentView → Result SymbolView TooLong → Type 0
IsContentWritten choice profile content = AreWritten choice (content_form profile content)
