-- The symbol of the smallest data codewords of a content is read as it, and no smaller one is.
use Rattle.dm_symbol.proofs.Names.{◌≡◌, ℕ, List, None, Ok, Err, sym, subst, ap, arith, ◌∙◌, length, length-take-le}
use Rattle.dm_symbol.proofs.Names.{erased_by, Extent, TooLong, ContentView, identifier_is_there, said_wide, SizeChoice}
use Rattle.dm_symbol.proofs.Names.{SizeEntry, SymbolView, WordsView, IsLaid, Standard, words_with, AreOfSize}
use Rattle.dm_symbol.proofs.Names.{AreCodewordsOf, first_data, block_readings, ContentReadResult, content_reading_of}
use Rattle.dm_symbol.proofs.Names.{IsSmallestContentWritten}
use Rattle.dm_symbol.specs.SmallestContentSymbol.{IsSmallestContentSymbol, NoneSays, IsContentReadWithNothingWrong}
use Rattle.dm_symbol.specs.SmallestContentSymbol.{NoSmallerSays}
use Rattle.dm_words.specs.Smallest.{IsSmallestContentFor, IsPlainestContent, SaysThenPads, NoSizeSays}
use Rattle.dm_symbol.proofs.WrittenContents.{laid_restored, no_sure_fault, nothing_is_wrong}

-- The data codewords that a symbol is read by are as many as its size has.
data_counted : (size : SizeEntry) (words : List ℕ) → AreOfSize size words
    → length (first_data size words) ≡ size.data_count
data_counted size words h = length-take-le size.data_count words (omega (arith, h.count))

-- Where no codewords of a size say a content, no symbol of it is read as it.
none_says : (extent : Extent) (choice : SizeChoice) (l : ContentView) → NoSizeSays extent choice l
    → NoneSays extent choice l
none_says extent choice l none other doubtful limit taken reads framed =
    none other.size (first_data other.size reads.codewords) taken
    (data_counted other.size reads.codewords reads.restored.by.of_size) framed reads.said

-- No symbol of a smaller size is read as the content.
no_smaller : (extent : Extent) (choice : SizeChoice) (l : ContentView) (g : SymbolView)
    → IsSmallestContentSymbol extent choice l g → NoSmallerSays extent choice l g
no_smaller extent choice l g n other doubtful limit taken less reads framed =
    n.smallest.smallest other.size (first_data other.size reads.codewords) taken less
    (data_counted other.size reads.codewords reads.restored.by.of_size) framed reads.said

-- It is read as the content with nothing wrong in it.
read_clean : (extent : Extent) (choice : SizeChoice) (l : ContentView) (g : SymbolView)
    → IsSmallestContentSymbol extent choice l g → IsContentReadWithNothingWrong extent l g
read_clean extent choice l g n =
    let words = first_data g.size n.words in
    let number = identifier_is_there words l (said_wide extent words l n.smallest.says) in
    let clean = no_sure_fault g n.words n.laid n.checked in (
      number.0,
      λ limit. ContentReadResult.content Standard n.words n.words l number.0 (omega (arith, clean))
          (laid_restored g n.words n.laid n.checked extent) n.smallest.says number.1
          (ap (λ blocks. Ok (content_reading_of l number.0 Standard blocks 0)) (sym (nothing_is_wrong g.size n.words))
          ∙ ap (λ faults. Ok (content_reading_of l number.0 Standard
          (block_readings g.size (erased_by Standard g.size None) n.words n.words) faults)) (sym clean)),
    )

-- The modules in which the completed codewords are laid are the smallest symbol of the content.
pub laid_is_smallest_content : (extent : Extent) (choice : SizeChoice) (l : ContentView) (modules : SymbolView)
    (w : WordsView) (size : SizeEntry) (chosen : List ℕ)
    → IsSmallestContentFor extent choice size chosen l → IsPlainestContent chosen l → SaysThenPads extent chosen l
    → w.size ≡ size → first_data size w.list ≡ chosen → AreCodewordsOf size w.list → IsLaid w modules
    → IsSmallestContentSymbol extent choice l modules
laid_is_smallest_content extent choice l modules w size chosen smallest plainest padded of_size front checked laid =
    let same : size ≡ modules.size = sym of_size ∙ laid.holds.same_size in
    let whole : w ≡ words_with modules.size w.list = ap (λ s. words_with s w.list) laid.holds.same_size in
    let data_is : chosen ≡ first_data modules.size w.list = sym front ∙ ap (λ s. first_data s w.list) same in
    record {
      words = w.list;
      laid = subst (λ x. IsLaid x modules) whole laid;
      smallest = subst (λ d. IsSmallestContentFor extent choice modules.size d l) data_is
          (subst (λ s. IsSmallestContentFor extent choice s chosen l) same smallest);
      plainest = subst (λ d. IsPlainestContent d l) data_is plainest;
      padded = subst (λ d. SaysThenPads extent d l) data_is padded;
      checked = subst (λ s. AreCodewordsOf s w.list) same checked;
    }

-- It is the right result.
pub smallest_content_written : (extent : Extent) (choice : SizeChoice) (l : ContentView) (g : SymbolView)
    → IsSmallestContentSymbol extent choice l g → IsSmallestContentWritten extent choice l (Ok g)
smallest_content_written extent choice l g n = record {
  written = n;
  read = read_clean extent choice l g n;
  no_smaller = no_smaller extent choice l g n;
  none = tt;
  no_size = tt;
}

-- That there is none is the right result where the codewords of no size say the content.
pub no_content_written : (extent : Extent) (choice : SizeChoice) (l : ContentView) (e : TooLong)
    → NoSizeSays extent choice l → IsSmallestContentWritten extent choice l (Err e)
no_content_written extent choice l e none = record {
  written = tt;
  read = tt;
  no_smaller = tt;
  none = none_says extent choice l none;
  no_size = none;
}
