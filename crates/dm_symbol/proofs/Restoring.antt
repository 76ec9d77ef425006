-- The codewords of a symbol of any size, from what was lifted and restored.
use Rattle.dm_symbol.proofs.Names.{◌≡◌, ℕ, List, length, Option, refl, ap, subst, ◌∙◌, range_with_len, length-map}
use Rattle.dm_symbol.proofs.Names.{Extent, Wide, SizeEntry, block_check, SymbolView, WordsView, data_of, Holds, Dealing}
use Rattle.dm_symbol.proofs.Names.{Standard, Restarted, BlockReading, IsDealtTwoWays, dealt, erased_by, words_with}
use Rattle.dm_symbol.proofs.Names.{AreBlocksNear, AreHeldBy, AreLost, AreOfSize, AreRestored, AreRestoredBy}
use Rattle.dm_symbol.proofs.Names.{IsFirstLost, first_data, block_of, block_reading, block_readings, readings_by}
use Rattle.dm_symbol.proofs.Names.{IsRestored, IsRestarted}
use Rattle.std.proofs.lemmas.List.FromFn.{length-range_with_len}
use Rattle.dm_symbol.proofs.SymbolBelow.{held_is_one}

-- Words that modules hold are codewords of a symbol of their size.
pub held_by_modules : (modules : SymbolView) (w : WordsView) → Holds modules w
    → Holds modules (words_with modules.size w.list)
held_by_modules modules w h = subst (λ x. Holds modules x) (ap (λ s. words_with s w.list) h.same_size) h

-- As much is said of a symbol's blocks as it has.
pub readings_count : (size : SizeEntry) (erased : ℕ → List ℕ) (u v : List ℕ)
    → length (block_readings size erased u v) ≡ size.blocks
readings_count size erased u v =
    length-map (range_with_len 0 size.blocks)
    (λ b. block_reading (block_check size) (erased b) (block_of size.blocks b u) (block_of size.blocks b v))
    ∙ length-range_with_len 0 size.blocks

module _ (extent : Extent) (modules : SymbolView) (doubtful : Option SymbolView) (held : List ℕ)
    (are_held : AreHeldBy modules held) where
  -- Where a block can't be restored, and the other dealing restores nothing where it is tried, the words are lost by
  -- the first such block.
  pub is_lost : (b : ℕ) → IsFirstLost modules.size (erased_by Standard modules.size doubtful) held b
      → (extent ≡ Wide → IsDealtTwoWays modules.size → (held codewords : List ℕ)
      → AreRestoredBy Restarted modules doubtful held codewords → ⊥) → AreLost extent modules doubtful held b
  is_lost b first none = record {
    words_held = are_held;
    first = first;
    otherwise = λ c r. none (r.tried refl).0 (r.tried refl).1 held c r.by;
  }

  -- The words are restored to those whose blocks are near to theirs by the standard's dealing.
  pub is_restored : (codewords : List ℕ) → AreOfSize modules.size codewords
      → AreBlocksNear modules.size (erased_by Standard modules.size doubtful) held codewords
      → AreRestored extent modules doubtful Standard held codewords
  is_restored codewords of_size near = record {
    tried = λ e. cc;
    by = record { words_held = are_held; of_size = of_size; near = near };
  }

  -- Where a block is lost in the extent `Wide`, the words are restored to what the other dealing gives.
  pub is_restored_otherwise : (codewords : List ℕ) (blocks : List BlockReading) (b : ℕ)
      → IsFirstLost modules.size (erased_by Standard modules.size doubtful) held b → extent ≡ Wide
      → IsRestarted modules doubtful codewords blocks
      → AreRestored extent modules doubtful Restarted held codewords
      × (blocks ≡ readings_by Restarted modules.size doubtful held codewords)
  is_restored_otherwise codewords blocks b first wide r =
      let same : r.held ≡ held = held_is_one modules r.held held r.by.words_held are_held in (
        record {
          tried = λ e. (wide, r.two_ways, b, first);
          by = subst (λ u. AreRestoredBy Restarted modules doubtful u codewords) same r.by;
        },
        subst (λ u. blocks ≡ readings_by Restarted modules.size doubtful u codewords) same r.readings,
      )

module _ (extent : Extent) (modules : SymbolView) (doubtful : Option SymbolView) (limit : ℕ) where
  module _ (w : WordsView) (dealing : Dealing) (blocks : List BlockReading) (count : ℕ)
      (r : IsRestored extent modules doubtful limit w dealing blocks count) where
    -- The data codewords are those of the restored codewords.
    pub restored_data : data_of w ≡ first_data modules.size w.list
    restored_data = ap (λ s. first_data s w.list) r.size

    -- As much is said of blocks as the symbol has.
    pub restored_count : length blocks ≡ modules.size.blocks
    restored_count =
        ap length r.readings ∙ readings_count modules.size (erased_by dealing modules.size doubtful)
        (dealt dealing modules.size r.held) (dealt dealing modules.size w.list)
