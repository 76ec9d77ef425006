-- The results of reading a symbol of any size as a content, from the restored codewords; and what a
-- result says.
use Rattle.dm_symbol.proofs.Names.{◌≡◌, ◌↔◌, ℕ, ◌<◌, List, Option, Result, Ok, Err, refl, ap, subst, ◌∙◌, Extent}
use Rattle.dm_symbol.proofs.Names.{ContentView, Says, IsRefused, SymbolView, WordsView, data_of, ContentReadFault}
use Rattle.dm_symbol.proofs.Names.{BlockReading, Dealing, sure_fault_count, first_data, readings_by, ContentReadingView}
use Rattle.dm_symbol.proofs.Names.{ContentReadResult, ReadsContent, content_reading_of, IsIdentifier}
use Rattle.dm_symbol.proofs.Names.{◌≤◌, AreLost, IsRestored}
use Rattle.dm_symbol.specs.ContentReading.{IsContentRead}
use Rattle.dm_words.specs.declared.contents.fault.ContentFault.{ContentFault}
use Rattle.dm_symbol.specs.declared.contents.ContentReadFault.TheVariants as fault
use Rattle.dm_symbol.proofs.ContentReadings.{one_content_result, content_by_result, reads_content_by_result}
use Rattle.dm_symbol.proofs.Restoring.{restored_data}

module _ (extent : Extent) (modules : SymbolView) (doubtful : Option SymbolView) (limit : ℕ) where
  -- The surely wrong modules of the borders.
  abbrev faults : ℕ
  faults = sure_fault_count modules doubtful

  -- More sure faults than the limit are a right result.
  pub content_border_result : (count : ℕ) → (limit < faults) × (count ≡ faults)
      → ContentReadResult extent modules doubtful limit (Err (fault.Border count))
  content_border_result count lost = ContentReadResult.border lost.0 (ap (λ n. Err (fault.Border n)) lost.1)

  -- Where the words that the modules hold are lost, the first lost block is a right result.
  pub lost_content_result : (held : List ℕ) (block : ℕ) → faults ≤ limit
      → AreLost extent modules doubtful held block
      → ContentReadResult extent modules doubtful limit (Err (fault.Block block))
  lost_content_result held block few lost = ContentReadResult.block held block few lost refl

  module _ (w : WordsView) (dealing : Dealing) (blocks : List BlockReading) (count : ℕ)
      (r : IsRestored extent modules doubtful limit w dealing blocks count) where
    -- The data codewords are those of the restored codewords.
    data_words : data_of w ≡ first_data modules.size w.list
    data_words = restored_data extent modules doubtful limit w dealing blocks count r

    -- Where the data codewords are refused, their fault is a right result.
    pub refused_content_result : (why : ContentFault) → IsRefused extent (data_of w) why
        → ContentReadResult extent modules doubtful limit (Err (fault.Words why))
    refused_content_result why refused =
        ContentReadResult.words dealing r.held w.list why r.few r.restored
        (subst (λ words. IsRefused extent words why) data_words refused) refl

    -- Where the data codewords say a content, the symbol is read as it.
    pub restored_reads : (content : ContentView) → Says extent (data_of w) content
        → ReadsContent extent modules doubtful limit content
    restored_reads content says = record {
      border = r.few;
      dealing = dealing;
      words = r.held;
      codewords = w.list;
      restored = r.restored;
      said = subst (λ words. Says extent words content) data_words says;
    }

    -- Where the data codewords say a content, the reading is a right result.
    pub said_content_result : (content : ContentView) (identifier : ℕ) → Says extent (data_of w) content
        → IsIdentifier (data_of w) content identifier
        → ContentReadResult extent modules doubtful limit
        (Ok (content_reading_of content identifier dealing blocks count))
    said_content_result content identifier says number =
        ContentReadResult.content dealing r.held w.list content identifier r.few r.restored
        (subst (λ words. Says extent words content) data_words says)
        (subst (λ words. IsIdentifier words content identifier) data_words number)
        (ap (λ xs. Ok (content_reading_of content identifier dealing xs count)) r.readings
        ∙ ap (λ n. Ok (content_reading_of content identifier dealing
        (readings_by dealing modules.size doubtful r.held w.list) n)) r.faults_are)

  -- A result is a fault of the border exactly where there are more sure faults than the limit, and tells their number.
  says_border : (result : Result ContentReadingView ContentReadFault)
      → ContentReadResult extent modules doubtful limit result → (count : ℕ)
      → (result ≡ Err (fault.Border count)) ↔ ((limit < faults) × (count ≡ faults))
  says_border result a count = (
    λ e. told result a e,
    λ p. one_content_result modules doubtful extent limit result (Err (fault.Border count)) a
        (content_border_result count p),
  )
    where
      told : (result : Result ContentReadingView ContentReadFault) → ContentReadResult extent modules doubtful limit
          result
          → result ≡ Err (fault.Border count) → (limit < faults) × (count ≡ faults)
      told result (ContentReadResult.border more e) f = (more, cc)
      told result (ContentReadResult.block u b few lost e) f = absurd cc
      told result (ContentReadResult.words d u c why few hu refused e) f = absurd cc
      told result (ContentReadResult.content d u c x n few hu said is e) f = absurd cc

  -- The result defined for a symbol is what reading it gives.
  pub is_content_read : (result : Result ContentReadingView ContentReadFault)
      → ContentReadResult extent modules doubtful limit result → IsContentRead extent modules doubtful limit result
  is_content_read result a = record {
    result_is = a;
    content = λ x. (
      reads_content_by_result modules doubtful extent limit result x a,
      content_by_result modules doubtful extent limit result x a,
    );
    border = says_border result a;
  }
