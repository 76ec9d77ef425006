-- To which codewords the words of a symbol of any size are restored, with doubtful modules or none, what is said of its
-- blocks, and how a symbol is lost (ISO/IEC 16022 and ISO/IEC 21471, decode algorithm).
use Rattle.std.specs.Prelude.{◌≡◌, ℕ, ◌+◌, ◌-◌, ◌*◌, ◌<◌, List, length, get_or, map, Option, Some, None}
use Rattle.std.specs.List.{range_with_len}
use Rattle.dm_words.specs.declared.extent.Extent.{Extent}
use Rattle.dm_words.specs.declared.extent.Extent.TheVariants.{Wide}
use Rattle.dm_code.specs.Erased.{IsNearBut, distance_but}
use Rattle.dm_layout.specs.symbols.Sizes.{SizeEntry, block_check}
use Rattle.dm_layout.specs.symbols.Blocks.{block_of}
use Rattle.dm_layout.specs.symbols.Holding.{Holds}
use Rattle.dm_layout.specs.symbols.Symbols.{SymbolView}
use Rattle.dm_layout.specs.symbols.Words.{IsWords, words_with}
use Rattle.dm_symbol.specs.declared.symbol.dealing.Dealing.{Dealing}
use Rattle.dm_symbol.specs.declared.symbol.dealing.Dealing.TheVariants.{Restarted, Standard}
use Rattle.dm_symbol.specs.declared.symbol.reading.BlockReading.{BlockReading}
use Rattle.dm_symbol.specs.Dealings.{IsDealtTwoWays, dealt, erased_by}

-- This block is the first to which no codeword is near but for its erased places.
pub record IsFirstLost (size : SizeEntry) (erased : ℕ → List ℕ) (words : List ℕ) (block : ℕ) : Type 0 where
  pub in_symbol : block < size.blocks
  pub lost : (codeword : List ℕ) →
      IsNearBut (block_check size) (block_of size.blocks block words) (erased block) codeword → ⊥
  pub first : (earlier : ℕ) → earlier < block →
      (codeword : List ℕ) × IsNearBut (block_check size) (block_of size.blocks earlier words) (erased earlier) codeword

-- Block b of the words is near to block b of the codewords, for each b, but for its erased places: the latter is a
-- codeword of its Reed-Solomon code, and twice the number of other places at which they differ, and the number of
-- erased ones, are together no more than the block has check codewords.
abbrev pub AreBlocksNear : SizeEntry → (ℕ → List ℕ) → List ℕ → List ℕ → Type 0
AreBlocksNear size erased words codewords =
    (b : ℕ) → b < size.blocks →
    IsNearBut (block_check size) (block_of size.blocks b words) (erased b) (block_of size.blocks b codewords)

-- The codewords are those of a symbol of this size, and each block of the words, which the modules hold, is near to the
-- same block of them but for what is doubtful, both dealt so.
pub record AreRestoredBy (dealing : Dealing) (modules : SymbolView) (doubtful : Option SymbolView)
    (words codewords : List ℕ) : Type 0 where
  pub words_held : Holds modules (words_with modules.size words)
  pub of_size : IsWords (words_with modules.size codewords)
  pub near : AreBlocksNear modules.size (erased_by dealing modules.size doubtful) (dealt dealing modules.size words)
      (dealt dealing modules.size codewords)

-- The words, which the modules hold, are restored to the codewords in an extent: near to them by the standard's
-- dealing; or by the other, which is tried in `Wide`, of 144 x 144, where a block is lost by the standard's. That other
-- dealing is one of the field's; that it comes second, and only in this extent, are rules of this project.
pub record AreRestored (extent : Extent) (modules : SymbolView) (doubtful : Option SymbolView) (dealing : Dealing)
    (words codewords : List ℕ) : Type 0 where
  pub tried : dealing ≡ Restarted → (extent ≡ Wide) × IsDealtTwoWays modules.size
      × (block : ℕ) × IsFirstLost modules.size (erased_by Standard modules.size doubtful) words block
  pub by : AreRestoredBy dealing modules doubtful words codewords

-- The modules hold the words, and these aren't restored: this block, by the standard's dealing, is the first to which
-- no codeword is near, and the other dealing, where it is tried, doesn't restore them.
pub record AreLost (extent : Extent) (modules : SymbolView) (doubtful : Option SymbolView) (words : List ℕ)
    (block : ℕ) : Type 0 where
  pub words_held : Holds modules (words_with modules.size words)
  pub first : IsFirstLost modules.size (erased_by Standard modules.size doubtful) words block
  pub otherwise : (codewords : List ℕ) → AreRestored extent modules doubtful Restarted words codewords → ⊥

-- What reading says of a block of k check codewords, with its erased places and the codeword that is near to it: the
-- number of other places at which they differ, the number of erased places, and how many check codewords neither has
-- used, of which an error uses two and an erasure one. A place that is erased counts as erased alone, whether what
-- stood there was right or wrong. Where the codeword is near, these numbers use no more check codewords than there are.
abbrev pub block_reading : ℕ → List ℕ → List ℕ → List ℕ → BlockReading
block_reading k erased block codeword =
    let corrected = distance_but erased block codeword in
    record { corrected = corrected; erased = length erased; left = k - (2 * corrected + length erased) }

-- A block with k check codewords is restored as far as it can be: it becomes the codeword that is near to it but for
-- its erased places, and that is said of it; or it stays as it is, where no codeword is near to it.
abbrev pub IsBlockRestored : ℕ → List ℕ → List ℕ → List ℕ → Option BlockReading → Type 0
IsBlockRestored k erased block restored (Some reading) =
    IsNearBut k block erased restored × (reading ≡ block_reading k erased block restored)
IsBlockRestored k erased block restored None =
    ((codeword : List ℕ) → IsNearBut k block erased codeword → ⊥) × (restored ≡ block)

-- Each block of a symbol is restored as far as it can be, and these are what is said of them, in order.
abbrev pub AreBlocksMended : SizeEntry → (ℕ → List ℕ) → List ℕ → List ℕ → List (Option BlockReading) → Type 0
AreBlocksMended size erased words mended readings =
    (b : ℕ) → b < size.blocks → IsBlockRestored (block_check size) (erased b) (block_of size.blocks b words)
    (block_of size.blocks b mended) (get_or readings b None)

-- What reading says of the blocks of a symbol, in order.
abbrev pub block_readings : SizeEntry → (ℕ → List ℕ) → List ℕ → List ℕ → List BlockReading
block_readings size erased words codewords =
    map (λ b. block_reading (block_check size) (erased b) (block_of size.blocks b words)
    (block_of size.blocks b codewords)) (range_with_len 0 size.blocks)

-- What reading says of the blocks of a symbol that is restored by a dealing, in order.
abbrev pub readings_by : Dealing → SizeEntry → Option SymbolView → List ℕ → List ℕ → List BlockReading
readings_by dealing size doubtful words codewords =
    block_readings size (erased_by dealing size doubtful) (dealt dealing size words) (dealt dealing size codewords)
