-- Doubtful modules that are all light change nothing for contents.
use Rattle.dm_symbol.proofs.Names.{ℕ, ◌<◌, Some, None, Result, Ok, Err, ap, subst, ◌∙◌, Extent, Profile, ContentView}
use Rattle.dm_symbol.proofs.Names.{SymbolView, ContentReadFault, ContentNormalFault, sure_fault_count, readings_by}
use Rattle.dm_symbol.proofs.Names.{AreLight, ContentReadingView, ReadsContent, ContentReadResult, content_reading_of}
use Rattle.dm_symbol.proofs.Names.{NormalContentResult, IsNormalOrFault}
use Rattle.dm_symbol.specs.declared.contents.ContentReadFault.TheVariants as fault
use Rattle.dm_symbol.proofs.LightDoubt.{faults_alike, few_alike, lost_alike, restored_alike, said_alike}

module _ (doubtful : SymbolView) (light : AreLight doubtful) (modules : SymbolView) (extent : Extent)
    (limit : ℕ) where
  -- The symbol has the same result of reading.
  pub content_read_alike : (result : Result ContentReadingView ContentReadFault)
      → ContentReadResult extent modules None limit result
      → ContentReadResult extent modules (Some doubtful) limit result
  content_read_alike result (ContentReadResult.border more e) =
      let alike = faults_alike doubtful light modules in
      ContentReadResult.border (subst (λ n. limit < n) alike more) (e ∙ ap (λ n. Err (fault.Border n)) alike)
  content_read_alike result (ContentReadResult.block words b few lost e) =
      ContentReadResult.block words b (few_alike doubtful light modules limit few)
      (lost_alike doubtful light modules extent words b lost) e
  content_read_alike result (ContentReadResult.words d words codewords why few restored refused e) =
      ContentReadResult.words d words codewords why (few_alike doubtful light modules limit few)
      (restored_alike doubtful light modules d extent words codewords restored) refused e
  content_read_alike result (ContentReadResult.content d words codewords content number few restored said is e) =
      ContentReadResult.content d words codewords content number (few_alike doubtful light modules limit few)
      (restored_alike doubtful light modules d extent words codewords restored) said is
      (e ∙ ap (λ xs. Ok (content_reading_of content number d xs (sure_fault_count modules None)))
      (said_alike doubtful light modules d words codewords)
      ∙ ap (λ n. Ok (content_reading_of content number d
      (readings_by d modules.size (Some doubtful) words codewords) n))
      (faults_alike doubtful light modules))

  -- It is read as the same content.
  reads_content_alike : (content : ContentView) → ReadsContent extent modules None limit content
      → ReadsContent extent modules (Some doubtful) limit content
  reads_content_alike content h = record {
    border = few_alike doubtful light modules limit h.border;
    dealing = h.dealing;
    words = h.words;
    codewords = h.codewords;
    restored = restored_alike doubtful light modules h.dealing extent h.words h.codewords h.restored;
    said = h.said;
  }

  -- It has the same result of normalising.
  pub content_normal_alike : (profile : Profile) (result : Result SymbolView ContentNormalFault)
      → NormalContentResult extent profile modules None limit result
      → NormalContentResult extent profile modules (Some doubtful) limit result
  content_normal_alike profile result (IsNormalOrFault.normal symbol h e) =
      IsNormalOrFault.normal symbol
      (record {
        content = h.content;
        read = reads_content_alike h.content h.read;
        normal_symbol = h.normal_symbol;
      }) e
  content_normal_alike profile result (IsNormalOrFault.too_long h e) =
      IsNormalOrFault.too_long
      (record { content = h.content; read = reads_content_alike h.content h.read; too_long = h.too_long }) e
  content_normal_alike profile result (IsNormalOrFault.fault why h e) =
      IsNormalOrFault.fault why (content_read_alike (Err why) h) e
