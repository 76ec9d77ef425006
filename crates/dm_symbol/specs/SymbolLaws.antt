-- What holds of the symbols of all sizes, and of grids as such symbols.
use Rattle.std.specs.Prelude.{◌≡◌, ◌<◌, ℕ, ◌+◌, ◌-◌, ◌*◌, false, List, Option, Some, None, Result, Ok, Err, map}
use Rattle.std.specs.Prelude.{◌++◌, drop, ◌↔◌}
use Rattle.dm_words.specs.declared.extent.Extent.TheVariants.{Usual}
use Rattle.dm_words.specs.declared.item.Item.{Item}
use Rattle.dm_words.specs.declared.profile.Profile.{Profile}
use Rattle.dm_layout.specs.Sizes as squares
use Rattle.dm_layout.specs.Grid.{GridView, IsGrid, symbol_modules}
use Rattle.dm_code.specs.Codeword.{IsNear}
use Rattle.dm_code.specs.Erased.{IsNearBut, erased_places_from}
use Rattle.dm_layout.specs.symbols.Blocks.{block_of, places_of_block}
use Rattle.dm_layout.specs.symbols.Sizes.{SizeEntry, IsSize}
use Rattle.dm_layout.specs.symbols.Symbols.{SymbolView, IsSymbol, module_at}
use Rattle.dm_layout.specs.symbols.Border.{border_fault_count}
use Rattle.dm_symbol.specs.declared.symbol.dealing.Dealing.TheVariants.{Standard, Restarted}
use Rattle.dm_symbol.specs.declared.symbol.reading.BlockReading.{BlockReading}
use Rattle.dm_symbol.specs.declared.symbol.inspection.SymbolInspectionIn.{SymbolInspectionIn}
use Rattle.dm_symbol.specs.declared.reading.Reading.{Reading}
use Rattle.dm_symbol.specs.declared.reading.ReadFault.{ReadFault}
use Rattle.dm_symbol.specs.Doubt.{is_erased, sure_fault_count}
use Rattle.dm_symbol.specs.Dealings.{IsDealtTwoWays, dealt, erased_by}
use Rattle.dm_symbol.specs.SymbolBlocks.{AreOfSize, first_data}
use Rattle.dm_symbol.specs.NormalGrid.{IsNormalGrid}
use Rattle.dm_symbol.specs.Reading.{Reads, ReadResult, content_fault}
use Rattle.dm_words.specs.ContentExtents.{as_content}
use Rattle.dm_symbol.specs.ContentReading.{ReadsContent, ContentReadResult, content_reading_of}
use Rattle.dm_symbol.specs.NormalContent.{IsNormalOfContent}
use Rattle.dm_symbol.specs.SymbolInspection.{IsSymbolInspection}

-- With no module doubtful, a word is near to a block but for its erased places exactly where it is near to it.
abbrev pub NoDoubtIsNearness : Type 0
NoDoubtIsNearness =
    (size : SizeEntry) (b k : ℕ) (block other : List ℕ)
    → IsNearBut k block (erased_by Standard size None b) other ↔ IsNear k block other

-- With no module doubtful, the sure border faults are all border faults.
abbrev pub NoDoubtCountsAllFaults : Type 0
NoDoubtCountsAllFaults = (modules : SymbolView) → sure_fault_count modules None ≡ border_fault_count modules

-- By the other dealing of 144 x 144 a block has the data codewords that are dealt to it and then the check codewords
-- that are, of B blocks those at the places i, counted from 0 among the check codewords, with i mod B = b.
abbrev pub OtherDealingRestarts : Type 0
OtherDealingRestarts =
    (size : SizeEntry) (words : List ℕ) (b : ℕ) → IsDealtTwoWays size → AreOfSize size words → b < size.blocks
    → block_of size.blocks b (dealt Restarted size words)
    ≡ block_of size.blocks b (first_data size words) ++ block_of size.blocks b (drop size.data_count words)

-- Of these places, those are erased whose codewords are.
abbrev pub OtherDealingErases : Type 0
OtherDealingErases =
    (size : SizeEntry) (doubtful : Option SymbolView) (b : ℕ) → IsDealtTwoWays size → IsSize size → b < size.blocks
    → erased_by Restarted size doubtful b
    ≡ erased_places_from 0 (map (is_erased size doubtful) (places_of_block size.blocks b size.data_count
    ++ map (λ i. size.data_count + i) (places_of_block size.blocks b size.check_count)))

-- Modules are all light if none of them is dark.
abbrev pub AreLight : SymbolView → Type 0
AreLight modules = (row column : ℕ) → module_at modules row column ≡ false

-- Where the modules that are given as doubtful are all light, a symbol is inspected as it is with none given.
abbrev pub LightDoubtShowsAlike : Type 0
LightDoubtShowsAlike =
    (room : ℕ) (modules doubtful : SymbolView) (inspection : SymbolInspectionIn room) → AreLight doubtful
    → IsSymbolInspection modules None inspection → IsSymbolInspection modules (Some doubtful) inspection

-- This is said of a block of k check codewords in which nothing is wrong and nothing erased.
abbrev pub nothing_wrong : ℕ → BlockReading
nothing_wrong k = record { corrected = 0; erased = 0; left = k }

-- These are the modules of a symbol that has the cells of the grid: it has as many rows and columns as the grid.
pub record AreModulesOf (grid : GridView) (modules : SymbolView) : Type 0 where
  pub is_grid : IsGrid grid
  pub are_modules : IsSymbol modules
  pub rows : modules.size.rows ≡ grid.size.side
  pub columns : modules.size.columns ≡ grid.size.side
  pub cells : modules.rows ≡ grid.rows

-- A grid is read as a message exactly where its modules are, in the extent `Usual` and with none of them doubtful, as
-- the content with its items.
abbrev pub GridsAreReadAsSymbols : Type 0
GridsAreReadAsSymbols =
    (grid : GridView) (modules : SymbolView) (limit : ℕ) (message : List Item) → AreModulesOf grid modules
    → Reads grid limit message ↔ ReadsContent Usual modules None limit (as_content message)

-- This is said of a block of k check codewords of which so many codewords were corrected, and none was erased.
abbrev pub none_erased : ℕ → ℕ → BlockReading
none_erased k count = record { corrected = count; erased = 0; left = k - 2 * count }

-- The symbol with the cells of a grid has the result of reading the grid, with none of its modules doubtful: the
-- content with the items, some identifier, the standard's dealing, what is said of each block by the number of its
-- corrected codewords, and as many border faults; or the same fault.
abbrev pub HasResultOfGrid : GridView → ℕ → Result Reading ReadFault → Type 0
HasResultOfGrid grid limit (Ok reading) =
    (identifier : ℕ) × ContentReadResult Usual (symbol_modules grid) None limit
    (Ok (content_reading_of (as_content reading.message) identifier Standard
    (map (none_erased (squares.block_check grid.size)) reading.corrected.items) reading.border_faults))
HasResultOfGrid grid limit (Err why) =
    ContentReadResult Usual (symbol_modules grid) None limit (Err (content_fault why))

-- What reading a grid gives, reading the symbol with its cells gives.
abbrev pub GridsHaveTheResultsOfSymbols : Type 0
GridsHaveTheResultsOfSymbols =
    (grid : GridView) (limit : ℕ) (result : Result Reading ReadFault) → IsGrid grid → ReadResult grid limit result
    → HasResultOfGrid grid limit result

-- The normal grid of a message is the normal symbol of the content with its items.
abbrev pub NormalGridsAreNormalSymbols : Type 0
NormalGridsAreNormalSymbols =
    (profile : Profile) (message : List Item) (grid : GridView) → IsNormalGrid profile message grid
    → IsNormalOfContent profile (as_content message) (symbol_modules grid)
