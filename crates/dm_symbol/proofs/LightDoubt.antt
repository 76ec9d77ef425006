-- Doubtful modules that are all light change nothing.
use Rattle.dm_symbol.proofs.Names.{◌≡◌, ℕ, zero, suc, ◌+◌, ◌*◌, ◌<◌, ◌≤◌, Bool, false, not, ◌&&◌, List, [], ◌∷◌, length}
use Rattle.dm_symbol.proofs.Names.{get_or, map, Option, Some, None, refl, sym, ap, subst, ◌∙◌, arith, range_with_len}
use Rattle.dm_symbol.proofs.Names.{place, Extent, Wide, SizeEntry, mapping_rows, mapping_columns, codeword_count}
use Rattle.dm_symbol.proofs.Names.{SymbolView, is_fault, places_of_block, Dealing, Standard, Restarted}
use Rattle.dm_symbol.proofs.Names.{SymbolInspectionIn, is_erased, sure_fault_count, dealt, erased_by, restarted_place}
use Rattle.dm_symbol.proofs.Names.{AreRestored, AreLost, IsFirstLost, readings_by, IsSymbolInspection, AreLight}
use Rattle.dm_layout.specs.symbols.Symbols.{rows_of}
use Rattle.dm_symbol.specs.Doubt.{is_doubtful}
use Rattle.dm_symbol.proofs.SymbolDoubt.{same_counts, erased_nowhere, same_any}
use Rattle.dm_place.specs.Border.{symbol_line}
use Rattle.dm_symbol.proofs.Dealings.{erased_by_nothing}
use Rattle.dm_symbol.proofs.SymbolSteps.{near_moves, lost_moves, mended_moves, readings_move}

-- The sure border faults are as many where the same modules are doubtful.
same_sure_faults : (modules : SymbolView) (p q : Option SymbolView)
    → ((row column : ℕ) → is_doubtful p row column ≡ is_doubtful q row column)
    → sure_fault_count modules p ≡ sure_fault_count modules q
same_sure_faults modules p q same =
    same_counts (λ row column. is_fault modules row column && not (is_doubtful p row column))
    (λ row column. is_fault modules row column && not (is_doubtful q row column)) modules.size.columns 0
    modules.size.rows
    (λ row column. ap (λ x. is_fault modules row column && not x) (same row column))

-- A list of colours of which none is dark gives light at each place, also past its end.
light_list : (xs : List Bool) → ((k : ℕ) → k < length xs → get_or xs k false ≡ false) → (k : ℕ)
    → get_or xs k false ≡ false
light_list [] h k = refl
light_list (x ∷ xs) h zero = h zero (omega arith)
light_list (x ∷ xs) h (suc k) = light_list xs (λ j l. h (suc j) (omega (arith, l))) k

-- Rows of light colours are light at each place, also past their ends.
light_by : (colour : ℕ → ℕ → Bool) (rows columns : ℕ) → ((row column : ℕ) → colour row column ≡ false)
    → (a r c : ℕ)
    → get_or (get_or (map (λ row. map (colour row) (range_with_len 0 columns)) (range_with_len a rows)) r []) c false
    ≡ false
light_by colour rows columns h a r c = each rows a r
  where
    line : (row n a c : ℕ) → get_or (map (colour row) (range_with_len a n)) c false ≡ false
    line row zero a c = refl
    line row (suc n) a zero = h row a
    line row (suc n) a (suc c) = line row n (a + 1) c

    each : (n a r : ℕ)
        → get_or (get_or (map (λ row. map (colour row) (range_with_len 0 columns)) (range_with_len a n)) r []) c false
        ≡ false
    each zero a r = refl
    each (suc n) a zero = line a columns 0 c
    each (suc n) a (suc r) = each n (a + 1) r

-- Rows of a list of light colours are light at each place.
pub light_rows : (rows columns : ℕ) (list : List Bool) → ((k : ℕ) → k < length list → get_or list k false ≡ false)
    → (row column : ℕ) → get_or (get_or (rows_of rows columns list) row []) column false ≡ false
light_rows rows columns list h row column =
    light_by (λ r c. get_or list (r * columns + c) false) rows columns
    (λ r c. light_list list h (r * columns + c)) 0 row column

-- Where the same places are erased by each dealing, the same is tried, restored and lost.
module _ (modules : SymbolView) (p q : Option SymbolView)
    (same : (d : Dealing) (b : ℕ) → b < modules.size.blocks
    → erased_by d modules.size p b ≡ erased_by d modules.size q b) where
  first_moves : (u : List ℕ) (b : ℕ) → IsFirstLost modules.size (erased_by Standard modules.size p) u b
      → IsFirstLost modules.size (erased_by Standard modules.size q) u b
  first_moves u b h =
      lost_moves modules.size (erased_by Standard modules.size p) (erased_by Standard modules.size q) (same Standard)
      u b h

  pub restored_moves : (d : Dealing) (extent : Extent) (u c : List ℕ) → AreRestored extent modules p d u c
      → AreRestored extent modules q d u c
  restored_moves d extent u c h = record {
    tried = λ e. ((h.tried e).0, (h.tried e).1, (h.tried e).2, first_moves u (h.tried e).2 (h.tried e).3);
    by = record {
      words_held = h.by.words_held;
      of_size = h.by.of_size;
      near = near_moves modules.size (erased_by d modules.size p) (erased_by d modules.size q) (same d)
          (dealt d modules.size u) (dealt d modules.size c) h.by.near;
    };
  }

  pub all_lost_moves : ((d : Dealing) (extent : Extent) (u c : List ℕ) → AreRestored extent modules q d u c
      → AreRestored extent modules p d u c)
      → (extent : Extent) (u : List ℕ) (b : ℕ) → AreLost extent modules p u b → AreLost extent modules q u b
  all_lost_moves back extent u b h = record {
    words_held = h.words_held;
    first = first_moves u b h.first;
    otherwise = λ c r. h.otherwise c (back Restarted extent u c r);
  }

  pub said_moves : (d : Dealing) (u c : List ℕ)
      → readings_by d modules.size p u c ≡ readings_by d modules.size q u c
  said_moves d u c = readings_move modules.size (erased_by d modules.size p) (erased_by d modules.size q) (same d)
      (dealt d modules.size u) (dealt d modules.size c)

module _ (doubtful : SymbolView) (light : AreLight doubtful) where
  -- No codeword is erased.
  none_is_erased : (size : SizeEntry) (word : ℕ) → is_erased size (Some doubtful) word ≡ false
  none_is_erased size word =
      let at : ℕ → ℕ × ℕ = λ bit. (
        symbol_line size.region_rows (place (mapping_rows size) (mapping_columns size) word bit).row,
        symbol_line size.region_columns (place (mapping_rows size) (mapping_columns size) word bit).column,
      ) in
      same_any (λ bit. is_doubtful (Some doubtful) (at bit).0 (at bit).1) (λ bit. false) 1 8
      (λ bit low high. light (at bit).0 (at bit).1)

  -- So no place of a block is, by either dealing.
  erased_by_light : (d : Dealing) (size : SizeEntry) (b : ℕ) → erased_by d size (Some doubtful) b ≡ []
  erased_by_light Standard size b =
      erased_nowhere 0 (is_erased size (Some doubtful)) (none_is_erased size)
      (places_of_block size.blocks b (codeword_count size))
  erased_by_light Restarted size b =
      erased_nowhere 0 (λ j. is_erased size (Some doubtful) (restarted_place size j))
      (λ j. none_is_erased size (restarted_place size j)) (places_of_block size.blocks b (codeword_count size))

  module _ (modules : SymbolView) where
    -- All border faults are sure.
    pub faults_alike : sure_fault_count modules None ≡ sure_fault_count modules (Some doubtful)
    faults_alike = same_sure_faults modules None (Some doubtful) (λ row column. sym (light row column))

    -- The same places are erased, none.
    erased_alike : (d : Dealing) (b : ℕ) → b < modules.size.blocks
        → erased_by d modules.size None b ≡ erased_by d modules.size (Some doubtful) b
    erased_alike d b hb = sym (erased_by_nothing d modules.size b) ∙ sym (erased_by_light d modules.size b)

    -- The same codewords are restored.
    pub restored_alike : (d : Dealing) (extent : Extent) (words codewords : List ℕ)
        → AreRestored extent modules None d words codewords
        → AreRestored extent modules (Some doubtful) d words codewords
    restored_alike = restored_moves modules None (Some doubtful) erased_alike

    pub restored_back : (d : Dealing) (extent : Extent) (words codewords : List ℕ)
        → AreRestored extent modules (Some doubtful) d words codewords
        → AreRestored extent modules None d words codewords
    restored_back = restored_moves modules (Some doubtful) None (λ d b hb. sym (erased_alike d b hb))

    -- The same words are lost.
    pub lost_alike : (extent : Extent) (words : List ℕ) (b : ℕ) → AreLost extent modules None words b
        → AreLost extent modules (Some doubtful) words b
    lost_alike = all_lost_moves modules None (Some doubtful) erased_alike restored_back

    -- The same is said of the blocks.
    pub said_alike : (d : Dealing) (words codewords : List ℕ) → readings_by d modules.size None words codewords
        ≡ readings_by d modules.size (Some doubtful) words codewords
    said_alike = said_moves modules None (Some doubtful) erased_alike

    -- As many faults are within a limit.
    pub few_alike : (limit : ℕ) → sure_fault_count modules None ≤ limit
        → sure_fault_count modules (Some doubtful) ≤ limit
    few_alike limit few = subst (λ n. n ≤ limit) faults_alike few

    -- The symbol has the same inspection.
    pub shown_alike : {room : ℕ} (inspection : SymbolInspectionIn room) → IsSymbolInspection modules None inspection
        → IsSymbolInspection modules (Some doubtful) inspection
    shown_alike inspection h = record {
      held = h.held;
      same_size = h.same_size;
      of_size = h.of_size;
      dealing = (
        λ e. let some = h.dealing.0 e in
            (some.0, restored_alike Restarted Wide inspection.held.list some.0 some.1),
        λ some. h.dealing.1 (some.0, restored_back Restarted Wide inspection.held.list some.0 some.1),
      );
      count = h.count;
      mended = mended_moves modules.size (erased_by inspection.dealing modules.size None)
          (erased_by inspection.dealing modules.size (Some doubtful)) (erased_alike inspection.dealing)
          (dealt inspection.dealing modules.size inspection.held.list)
          (dealt inspection.dealing modules.size inspection.mended.list) inspection.blocks.items h.mended;
      border = h.border ∙ faults_alike;
    }
