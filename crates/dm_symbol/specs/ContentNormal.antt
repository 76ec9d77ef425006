-- The normal symbol, under a profile, of the content that a symbol of any size is read as in an extent, with doubtful
-- modules or none.
use Rattle.std.specs.Prelude.{ℕ, Option, Result, Ok, Err}
use Rattle.dm_words.specs.declared.extent.Extent.{Extent}
use Rattle.dm_words.specs.declared.profile.Profile.{Profile}
use Rattle.dm_layout.specs.declared.symbols.size.SizeChoice.TheVariants.{Square}
use Rattle.dm_layout.specs.symbols.Symbols.{SymbolView}
use Rattle.dm_words.specs.Contents.{ContentView}
use Rattle.dm_symbol.specs.declared.contents.ContentNormalFault.{ContentNormalFault}
use Rattle.dm_symbol.specs.declared.contents.ContentNormalFault.TheVariants.{Read, TooLong}
use Rattle.dm_symbol.specs.NormalOutcomes.{IsNormalOrFault, IsNormalLeft}
use Rattle.dm_symbol.specs.ContentReading.{ContentReadingView, ReadsContent, ContentReadResult}
use Rattle.dm_symbol.specs.NormalContent.{IsNormalOfContent, ContentFits}

-- The symbol is read as a content, and this is the normal symbol of that content.
pub record HasNormalContent (extent : Extent) (profile : Profile) (modules : SymbolView) (doubtful : Option SymbolView)
    (limit : ℕ) (normal : SymbolView) : Type 0 where
  pub content : ContentView
  pub read : ReadsContent extent modules doubtful limit content
  pub normal_symbol : IsNormalOfContent profile content normal

-- The symbol is read as a content that fits no square, and so has no normal symbol.
pub record HasNoNormalContent (extent : Extent) (profile : Profile) (modules : SymbolView)
    (doubtful : Option SymbolView) (limit : ℕ) : Type 0 where
  pub content : ContentView
  pub read : ReadsContent extent modules doubtful limit content
  pub too_long : ContentFits Square profile content → ⊥

-- The result for a symbol is the normal symbol of the content that it is read as; or that this content fits no square;
-- or the fault of reading.
abbrev pub NormalContentResult : Extent → Profile → SymbolView → Option SymbolView → ℕ
    → Result SymbolView ContentNormalFault → Type 0
NormalContentResult extent profile modules doubtful limit =
    IsNormalOrFault Read TooLong (HasNormalContent extent profile modules doubtful limit)
    (HasNoNormalContent extent profile modules doubtful limit)
    (λ why. ContentReadResult extent modules doubtful limit (Err why))

-- What normalising a symbol leaves in its two targets: `reading` is held by that of the reading, and the target of the
-- normal symbol held `before` and holds `after`. The outcome is what normalising the symbol gives: the result defined
-- above; and each kind of result is given exactly where its condition holds. `reading` is what the symbol says, where
-- there is a normal symbol and where the content fits no square. After a fault the target of the normal symbol is as it
-- was.
abbrev pub IsContentNormalisedTo : {U : Type 0} → Extent → Profile → SymbolView → Option SymbolView → ℕ
    → Result U ContentNormalFault → ContentReadingView → SymbolView → SymbolView → Type 0
IsContentNormalisedTo extent profile modules doubtful limit done reading =
    IsNormalLeft Read TooLong (HasNormalContent extent profile modules doubtful limit)
    (HasNoNormalContent extent profile modules doubtful limit)
    (λ why. ContentReadResult extent modules doubtful limit (Err why))
    (ContentReadResult extent modules doubtful limit (Ok reading)) done
