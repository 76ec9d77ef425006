-- Symbols in which contents are written are read as these, and what follows for normal symbols.
use Rattle.dm_symbol.proofs.Names.{near_none_but, ◌≡◌, ◌↔◌, ℕ, List, replicate, None, Result, Ok, refl, sym, [], ap}
use Rattle.dm_symbol.proofs.Names.{erased_by, subst, ◌∙◌, arith, zero, suc, ◌+◌, ◌∷◌, map, range_with_len, IsNearBut}
use Rattle.dm_symbol.proofs.Names.{IsLaid, BlockReading, sure_fault_count, words_with, AreCodewordsOf, first_data}
use Rattle.dm_symbol.proofs.Names.{AreRestored, block_reading, block_readings, Extent, Wide, Profile, ContentView}
use Rattle.dm_symbol.proofs.Names.{IsContent, Says, IsSaidIn, content_form, padded, said_is_one, SizeChoice, SizeEntry}
use Rattle.dm_symbol.proofs.Names.{block_check, SymbolView, size_facts, Standard, ContentReadFault, nothing_wrong}
use Rattle.dm_symbol.proofs.Names.{ContentReadingView, ReadsContent, ContentReadResult, content_reading_of}
use Rattle.dm_symbol.proofs.Names.{IsIdentifier, IsContentWrittenIn, block_of}
use Rattle.dm_words.proofs.Exported.{form_says_in, content_form_codewords, content_form_count}
use Rattle.dm_symbol.specs.NormalContent.{ContentFits}
use Rattle.dm_symbol.proofs.Distances.{near_itself, distance_to_itself}
use Rattle.dm_symbol.proofs.SymbolBelow.{distance_plain}
use Rattle.dm_symbol.proofs.SymbolDoubt.{faults_by_none, erased_by_none}
use Rattle.dm_symbol.proofs.ContentReadings.{one_content_result}
use Rattle.dm_symbol.proofs.SymbolSteps.{reading_is}
use Rattle.dm_symbol.proofs.WrittenWords.{words_written_once, written_hold, written_words_are_there, written_words_tell}

-- ---- what is written is read

-- A list that is made by a function that always gives the same has it at each place.
map_to_one : (f : ℕ → BlockReading) (r : BlockReading) (a n : ℕ) → ((b : ℕ) → f b ≡ r)
    → map f (range_with_len a n) ≡ replicate n r
map_to_one f r a zero e = refl
map_to_one f r a (suc n) e = ap (λ x. x ∷ map f (range_with_len (a + 1) n)) (e a)
    ∙ ap (λ xs. r ∷ xs) (map_to_one f r (a + 1) n e)

-- In a symbol in which codewords are laid, these are their own restored codewords, and no border fault is sure.
module _ (g : SymbolView) (words : List ℕ) (laid : IsLaid (words_with g.size words) g)
    (checked : AreCodewordsOf g.size words) where
  pub no_sure_fault : sure_fault_count g None ≡ 0
  no_sure_fault = sym (faults_by_none g) ∙ laid.border

  pub laid_restored : (extent : Extent) → AreRestored extent g None Standard words words
  laid_restored extent = record {
    tried = λ e. cc;
    by = record {
      words_held = laid.holds;
      of_size = laid.holds.codewords;
      near = λ b hb.
          let k = block_check g.size in
          let block = block_of g.size.blocks b words in
          subst (λ e. IsNearBut k block e block) (sym (erased_by_none g.size b))
          (near_none_but k block block (near_itself k block (checked b hb)));
    };
  }

-- Where nothing is doubtful and codewords are held, nothing is wrong in any block.
pub nothing_is_wrong : (size : SizeEntry) (words : List ℕ)
    → block_readings size (erased_by Standard size None) words words
    ≡ replicate size.blocks (nothing_wrong (block_check size))
nothing_is_wrong size words =
    let k = block_check size in
    map_to_one (λ b. block_reading k (erased_by Standard size None b) (block_of size.blocks b words)
    (block_of size.blocks b words))
    (nothing_wrong k) 0 size.blocks (λ b.
    let block = block_of size.blocks b words in
    let nowhere = distance_plain block block ∙ distance_to_itself block in
    ap (λ e. block_reading k e block block) (erased_by_none size b)
    ∙ sym (reading_is k 0 0 k [] block block (sym nowhere) refl (omega arith)))

module _ (choice : SizeChoice) (p : Profile) (l : ContentView) where
  -- A right content that fits a size of the choice is written in some symbol.
  pub written_content_is_there : IsContent l → ContentFits choice p l
      → (modules : SymbolView) × IsContentWrittenIn choice p l modules
  written_content_is_there right fits =
      written_words_are_there choice (content_form p l) (content_form_count p l)
      (λ count. content_form_codewords p l count right) fits

  module _ (g : SymbolView) (n : IsContentWrittenIn choice p l g) (right : IsContent l) where
    -- Its data codewords are the normal form with pads, which says the content.
    pub form_says : (extent : Extent) → IsSaidIn extent l → Says extent (padded (content_form p l) g.size.data_count) l
    form_says extent said =
        let few = (size_facts g.size n.laid.holds.codewords.size).data_fits in
        form_says_in extent p l g.size.data_count right said (written_hold choice (content_form p l) g n)
        (omega (arith, few))

    -- So they say it.
    pub written_says : (extent : Extent) → IsSaidIn extent l → Says extent (first_data g.size n.words) l
    written_says extent said = subst (λ words. Says extent words l) (sym n.data_words) (form_says extent said)

    -- It is read as the content.
    pub written_reads_content : (extent : Extent) (limit : ℕ) → IsSaidIn extent l → ReadsContent extent g None limit l
    written_reads_content extent limit said = record {
      border = omega (arith, no_sure_fault g n.words n.laid n.checked);
      dealing = Standard;
      words = n.words;
      codewords = n.words;
      restored = laid_restored g n.words n.laid n.checked extent;
      said = written_says extent said;
    }

    -- This is said of it, where the codewords that are written have this identifier.
    abbrev pub clean_reading : ℕ → Result ContentReadingView ContentReadFault
    clean_reading number =
        Ok (content_reading_of l number Standard (replicate g.size.blocks (nothing_wrong (block_check g.size))) 0)

    module _ (number : ℕ) (is : IsIdentifier (padded (content_form p l) g.size.data_count) l number) where
      -- Nothing is wrong in it.
      written_content_result : (extent : Extent) (limit : ℕ) → IsSaidIn extent l
          → ContentReadResult extent g None limit (clean_reading number)
      unfolding written_reads_content
      written_content_result extent limit said =
          let r = written_reads_content extent limit said in
          ContentReadResult.content r.dealing r.words r.codewords l number r.border r.restored r.said
          (subst (λ words. IsIdentifier words l number) (sym n.data_words) is)
          (ap (λ blocks. Ok (content_reading_of l number Standard blocks 0)) (sym (nothing_is_wrong g.size n.words))
          ∙ ap (λ faults. Ok (content_reading_of l number Standard
          (block_readings g.size (erased_by Standard g.size None) n.words n.words) faults))
          (sym (no_sure_fault g n.words n.laid n.checked)))

      -- It has that result alone.
      pub written_content_is_read : (extent : Extent) (limit : ℕ) (result : Result ContentReadingView ContentReadFault)
          → IsSaidIn extent l → ContentReadResult extent g None limit result ↔ (result ≡ clean_reading number)
      written_content_is_read extent limit result said =
          let right = written_content_result extent limit said in (
            λ a. one_content_result g None extent limit result _ a right,
            λ e. subst (ContentReadResult extent g None limit) (sym e) right,
          )

-- Right contents that are written in the same symbol, in whatever choices, are equal.
pub written_contents_tell : (choice other : SizeChoice) (p q : Profile) (l k : ContentView) (g : SymbolView) →
    IsContent l
    → IsContent k → IsContentWrittenIn choice p l g → IsContentWrittenIn other q k g → l ≡ k
written_contents_tell choice other p q l k g hl hk n o =
    said_is_one Wide Wide (padded (content_form q k) g.size.data_count) l k
    (subst (λ words. Says Wide words l) (written_words_tell choice other (content_form p l) (content_form q k) g n o)
    (form_says choice p l g n hl Wide tt)) (form_says other q k g o hk Wide tt)

-- Symbols in which right contents are written are equal exactly where the contents are.
pub written_symbols_tell_contents : (choice : SizeChoice) (p : Profile) (l k : ContentView) (g h : SymbolView)
    → IsContent l → IsContent k → IsContentWrittenIn choice p l g → IsContentWrittenIn choice p k h → (g ≡ h) ↔ (l ≡ k)
written_symbols_tell_contents choice p l k g h hl hk n o = (
  λ e. written_contents_tell choice choice p p l k h hl hk (subst (IsContentWrittenIn choice p l) e n) o,
  λ e. words_written_once choice (content_form p k) g h (subst (λ x. IsContentWrittenIn choice p x g) e n) o,
)
