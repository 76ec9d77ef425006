-- The normal symbols of the contents that symbols are read as.
use Rattle.dm_symbol.proofs.Names.{◌≡◌, ◌↔◌, ℕ, List, length, Option, None, Result, Ok, Err, inl, inr, refl, sym, subst}
use Rattle.dm_symbol.proofs.Names.{Extent, Wide, Item, Profile, ContentView, as_content, IsSaidIn, content_form, Square}
use Rattle.dm_symbol.proofs.Names.{entry_for, SymbolView, IsSymbol, ContentReadFault, ContentNormalFault, first_data}
use Rattle.dm_symbol.proofs.Names.{ContentReadingView, ReadsContent, ContentReadResult, IsNormalOfContent}
use Rattle.dm_symbol.proofs.Names.{NormalContentResult, IsNormalGiven, IsNormalOrFault}
use Rattle.dm_symbol.specs.ContentNormal.{HasNormalContent, HasNoNormalContent}
use Rattle.dm_words.specs.Macros.{macro_text}
use Rattle.dm_words.proofs.Exported.{macro_short}
use Rattle.dm_symbol.specs.declared.contents.ContentNormalFault.TheVariants.{Read, TooLong}
use Rattle.dm_symbol.specs.ContentLaws.{ReadsMacro}
use Rattle.dm_symbol.proofs.NormalOutcomes.{AreApart, one_normalised, is_normal_given}
use Rattle.dm_symbol.proofs.GridNormals.{fits_or_not}
use Rattle.dm_symbol.proofs.ContentReadings.{one_symbol_content, read_content_right, one_content_result}
use Rattle.dm_symbol.proofs.ContentReadings.{some_content_result, content_or_fault, content_no_fault}
use Rattle.dm_symbol.proofs.WrittenContents.{written_content_is_there, written_reads_content}
use Rattle.dm_symbol.proofs.WrittenContents.{written_symbols_tell_contents}
use Rattle.dm_symbol.proofs.WrittenWords.{words_written_once, written_fit}

-- Two equal errors say the same.
err_is : (a b : ContentReadFault) → ◌≡◌ {A = Result ContentReadingView ContentReadFault} (Err a) (Err b) → a ≡ b
err_is a b e = cc

-- Two equal faults of reading say the same.
read_is : (a b : ContentReadFault) → Read a ≡ Read b → a ≡ b
read_is a b e = cc

-- A fault of reading isn't that the content is too long.
read_no_too_long : (a : ContentReadFault) → Read a ≡ TooLong → ⊥
read_no_too_long a e = cc

module _ (extent : Extent) (p : Profile) (modules : SymbolView) (doubtful : Option SymbolView) where
  -- A normal symbol is that of the content that the symbol is read as.
  pub normal_of_read : (n : SymbolView) (k l : ℕ) (x : ContentView) → HasNormalContent extent p modules doubtful k n
      → ReadsContent extent modules doubtful l x → IsNormalOfContent p x n
  normal_of_read n k l x h r =
      subst (λ y. IsNormalOfContent p y n) (one_symbol_content modules doubtful extent extent k l h.content x h.read r)
      h.normal_symbol

  -- A symbol has at most one normal symbol under a profile.
  pub one_normal_content : (n o : SymbolView) (k l : ℕ) → HasNormalContent extent p modules doubtful k n
      → HasNormalContent extent p modules doubtful l o → n ≡ o
  one_normal_content n o k l hn ho =
      words_written_once Square (content_form p ho.content) n o (normal_of_read n k l ho.content hn ho.read)
      ho.normal_symbol

  -- A symbol that is read as a content with a normal symbol isn't read as one that has none.
  not_too_long : (n : SymbolView) (k l : ℕ) → HasNormalContent extent p modules doubtful k n
      → HasNoNormalContent extent p modules doubtful l → ⊥
  not_too_long n k l h none =
      none.too_long (written_fit Square (content_form p none.content) n (normal_of_read n k l none.content h none.read))

  module _ (limit : ℕ) where
    -- This has the symbol as its normal symbol.
    abbrev has : SymbolView → Type 0
    has = HasNormalContent extent p modules doubtful limit

    -- It has none.
    abbrev has_none : Type 0
    has_none = HasNoNormalContent extent p modules doubtful limit

    -- It is refused when it is read.
    abbrev refused : ContentReadFault → Type 0
    refused why = ContentReadResult extent modules doubtful limit (Err why)

    -- A symbol has one normal symbol, or none, or is refused when it is read.
    apart : AreApart Read TooLong has has_none refused
    apart = record {
      same_read = λ why other e. read_is why other e;
      read_no_long = λ why e. read_no_too_long why e;
      one = λ n o hn ho. one_normal_content n o limit limit hn ho;
      some_or_none = λ n h none. not_too_long n limit limit h none;
      has_or_refused = λ n why h a. content_no_fault modules doubtful extent limit h.content why h.read a;
      none_or_refused = λ why h a. content_no_fault modules doubtful extent limit h.content why h.read a;
      one_refused = λ why other a b. err_is why other
          (one_content_result modules doubtful extent limit (Err why) (Err other) a b);
    }

    -- A symbol has at most one result of normalising.
    pub one_normal_content_result : (a b : Result SymbolView ContentNormalFault)
        → NormalContentResult extent p modules doubtful limit a
        → NormalContentResult extent p modules doubtful limit b → a ≡ b
    one_normal_content_result a b = one_normalised Read TooLong has has_none refused apart a b

    -- The result defined for a symbol is what normalising it gives.
    pub is_content_normalised : (result : Result SymbolView ContentNormalFault)
        → NormalContentResult extent p modules doubtful limit result
        → IsNormalGiven Read TooLong has has_none refused result
    is_content_normalised result a = is_normal_given Read TooLong has has_none refused apart result a

    -- A symbol has a result of normalising.
    pub some_normal_content_result : IsSymbol modules
        → (result : Result SymbolView ContentNormalFault) × NormalContentResult extent p modules doubtful limit result
    some_normal_content_result h =
        let read = some_content_result modules doubtful extent limit h in
        elim (content_or_fault modules doubtful extent limit read.0 read.1) [
          | inr fault ↦ (Err (Read fault.0), IsNormalOrFault.fault fault.0 fault.1 refl)
          | inl content ↦
              let right = (read_content_right modules doubtful extent limit content.0 content.1).0 in
              elim (fits_or_not (entry_for Square (length (content_form p content.0)))) [
                | inl fits ↦
                    let written = written_content_is_there Square p content.0 right fits in (
                      Ok written.0,
                      IsNormalOrFault.normal written.0
                          (record { content = content.0; read = content.1; normal_symbol = written.1 }) refl,
                    )
                | inr none ↦ (
                  Err TooLong,
                  IsNormalOrFault.too_long (record { content = content.0; read = content.1; too_long = none }) refl,
                )
              ]
        ]

-- The result of normalising for the normal symbol of a content that is read is the symbol itself, in each extent in
-- which the content can be said.
pub normal_content_twice : (extent again : Extent) (p : Profile) (modules normal : SymbolView)
    (doubtful : Option SymbolView) (limit other : ℕ) (x : ContentView) (result : Result SymbolView ContentNormalFault)
    → ReadsContent extent modules doubtful limit x → IsNormalOfContent p x normal → IsSaidIn again x
    → NormalContentResult again p normal None other result ↔ (result ≡ Ok normal)
normal_content_twice extent again p modules normal doubtful limit other x result r n said =
    let right = (read_content_right modules doubtful extent limit x r).0 in
    let itself : NormalContentResult again p normal None other (Ok normal) =
    IsNormalOrFault.normal normal (record {
      content = x;
      read = written_reads_content Square p x normal n right again other said;
      normal_symbol = n;
    }) refl in (
      λ a. one_normal_content_result again p normal None other result (Ok normal) a itself,
      λ e. subst (NormalContentResult again p normal None other) (sym e) itself,
    )

-- Two symbols that are read have equal normal symbols exactly where their contents are equal.
pub equal_normal_contents : (extent other : Extent) (p : Profile) (g h a b : SymbolView) (d e : Option SymbolView)
    (k l i j : ℕ) (x y : ContentView)
    → ReadsContent extent g d k x → ReadsContent other h e l y → HasNormalContent extent p g d i a
    → HasNormalContent other p h e j b → (a ≡ b) ↔ (x ≡ y)
equal_normal_contents extent other p g h a b d e k l i j x y hx hy ha hb =
    written_symbols_tell_contents Square p x y a b (read_content_right g d extent k x hx).0
    (read_content_right h e other l y hy).0 (normal_of_read extent p g d a i k x ha hx)
    (normal_of_read other p h e b j l y hb hy)

-- ---- macros

-- A symbol whose first data codeword is a macro is read as the macro's text.
macro_reads : (modules : SymbolView) (doubtful : Option SymbolView) (limit digit : ℕ) (text : List Item)
    → ReadsMacro modules doubtful limit digit text
    → ReadsContent Wide modules doubtful limit (as_content (macro_text digit text))
macro_reads modules doubtful limit digit text r = record {
  border = r.border;
  dealing = r.dealing;
  words = r.words;
  codewords = r.codewords;
  restored = r.restored;
  said = macro_short digit (first_data modules.size r.codewords) text r.framed;
}

-- A symbol whose first data codeword is a macro and one that spells the macro's text out have equal normal symbols.
pub macro_is_its_text : (extent : Extent) (p : Profile) (g h a b : SymbolView) (d e : Option SymbolView)
    (k l i j digit : ℕ) (text : List Item) → ReadsMacro g d k digit text
    → ReadsContent extent h e l (as_content (macro_text digit text))
    → HasNormalContent Wide p g d i a → HasNormalContent extent p h e j b → a ≡ b
macro_is_its_text extent p g h a b d e k l i j digit text rg rh ha hb =
    let content = as_content (macro_text digit text) in
    (equal_normal_contents Wide extent p g h a b d e k l i j content content (macro_reads g d k digit text rg) rh ha
    hb).1 refl
