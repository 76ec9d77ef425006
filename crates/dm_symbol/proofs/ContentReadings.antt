-- A symbol of any size is read as at most one content, and has one result.
use Rattle.dm_symbol.proofs.Names.{◌≡◌, ◌⊎◌, ℕ, List, Option, Result, Ok, Err, inl, inr, refl, sym, ap, subst, ◌∙◌}
use Rattle.dm_symbol.proofs.Names.{arith, cases_lt, Extent, Usual, Wide, ContentView, IsContent, Says, IsRefused}
use Rattle.dm_symbol.proofs.Names.{IsSaidIn, IsIdentifier, said_is_one, said_wide, usual_plain, identifier_is_there}
use Rattle.dm_symbol.proofs.Names.{SymbolView, IsSymbol, ContentReadFault, Dealing, sure_fault_count, first_data}
use Rattle.dm_symbol.proofs.Names.{AreRestored, readings_by, ContentReadingView, ReadsContent, ContentReadResult}
use Rattle.dm_symbol.proofs.Names.{content_reading_of}
use Rattle.dm_words.proofs.Exported.{said_is_content, said_not_refused, one_content, refused_is_one, identifier_is_one}
use Rattle.dm_symbol.specs.ContentReading.{IsReadAsContent}
use Rattle.dm_layout.proofs.symbols.Exported.{some_held}
use Rattle.dm_symbol.specs.declared.contents.ContentReadFault.TheVariants as fault
use Rattle.dm_symbol.proofs.RestoredOrLost.{restored_or_lost}
use Rattle.dm_symbol.proofs.Restoring.{held_by_modules}
use Rattle.dm_symbol.proofs.SymbolReadings.{data_are_bytes, lost_is_one, none_lost, restored_is_one, restored_wide}

-- What is said in an extent can be said in it.
said_in : (extent : Extent) (words : List ℕ) (content : ContentView) → Says extent words content
    → IsSaidIn extent content
said_in Usual words content s = usual_plain words content s
said_in Wide words content s = tt

module _ (modules : SymbolView) (doubtful : Option SymbolView) where
  -- A symbol is read as at most one content, whatever the extents.
  pub one_symbol_content : (extent other : Extent) (k l : ℕ) (x y : ContentView)
      → ReadsContent extent modules doubtful k x → ReadsContent other modules doubtful l y → x ≡ y
  one_symbol_content extent other k l x y hx hy =
      let same : hx.codewords ≡ hy.codewords =
      (restored_is_one modules doubtful extent other hx.dealing hy.dealing hx.words hx.codewords hy.words hy.codewords
      hx.restored hy.restored).1 in
      said_is_one extent other (first_data modules.size hy.codewords) x y
      (subst (λ c. Says extent (first_data modules.size c) x) same hx.said) hy.said

  -- A content that is read is right, and can be said in the extent.
  pub read_content_right : (extent : Extent) (limit : ℕ) (x : ContentView) → ReadsContent extent modules doubtful limit
      x
      → IsContent x × IsSaidIn extent x
  read_content_right extent limit x r =
      let words = first_data modules.size r.codewords in
      (said_is_content extent words x r.said, said_in extent words x r.said)

  -- This is a reading of a content.
  abbrev read_as : Dealing → List ℕ → List ℕ → ContentView → ℕ → Result ContentReadingView ContentReadFault
  read_as dealing words codewords content identifier =
      Ok (content_reading_of content identifier dealing (readings_by dealing modules.size doubtful words codewords)
      (sure_fault_count modules doubtful))

  module _ (extent : Extent) (limit : ℕ) where
    -- The data codewords of a symbol that is restored in two ways are the same.
    moved : (P : List ℕ → Type 0) (p q : Dealing) (u c v d : List ℕ) → AreRestored extent modules doubtful p u c
        → AreRestored extent modules doubtful q v d → P (first_data modules.size c) → P (first_data modules.size d)
    moved P p q u c v d hu hv h =
        subst (λ w. P (first_data modules.size w))
        (restored_is_one modules doubtful extent extent p q u c v d hu hv).1 h

    -- A symbol has at most one result.
    pub one_content_result : (a b : Result ContentReadingView ContentReadFault)
        → ContentReadResult extent modules doubtful limit a → ContentReadResult extent modules doubtful limit b → a ≡ b
    one_content_result a b (ContentReadResult.border h e) (ContentReadResult.border k f) = e ∙ sym f
    one_content_result a b (ContentReadResult.border h e) (ContentReadResult.block v y k lost f) =
        absurd (omega (arith, h, k))
    one_content_result a b (ContentReadResult.border h e) (ContentReadResult.words q v d y k hv r f) =
        absurd (omega (arith, h, k))
    one_content_result a b (ContentReadResult.border h e) (ContentReadResult.content q v d y n k hv s i f) =
        absurd (omega (arith, h, k))
    one_content_result a b (ContentReadResult.block u x h lost e) (ContentReadResult.border k f) =
        absurd (omega (arith, h, k))
    one_content_result a b (ContentReadResult.block u x h lost e) (ContentReadResult.block v y k other f) =
        e ∙ ap (λ i. Err (fault.Block i)) (lost_is_one modules doubtful extent extent u v x y lost other) ∙ sym f
    one_content_result a b (ContentReadResult.block u x h lost e) (ContentReadResult.words q v d y k hv r f) =
        absurd (none_lost modules doubtful extent q u v d x lost hv)
    one_content_result a b (ContentReadResult.block u x h lost e) (ContentReadResult.content q v d y n k hv s i f) =
        absurd (none_lost modules doubtful extent q u v d x lost hv)
    one_content_result a b (ContentReadResult.words p u c x h hu r e) (ContentReadResult.border k f) =
        absurd (omega (arith, h, k))
    one_content_result a b (ContentReadResult.words p u c x h hu r e) (ContentReadResult.block v y k lost f) =
        absurd (none_lost modules doubtful extent p v u c y lost hu)
    one_content_result a b (ContentReadResult.words p u c x h hu r e) (ContentReadResult.words q v d y k hv t f) =
        e ∙ ap (λ w. Err (fault.Words w))
        (refused_is_one extent (first_data modules.size d) x y
        (moved (λ w. IsRefused extent w x) p q u c v d hu hv r) t) ∙ sym f
    one_content_result a b (ContentReadResult.words p u c x h hu r e) (ContentReadResult.content q v d y n k hv s i f) =
        absurd (said_not_refused extent (first_data modules.size d) y x s
        (moved (λ w. IsRefused extent w x) p q u c v d hu hv r))
    one_content_result a b (ContentReadResult.content p u c x m h hu s i e) (ContentReadResult.border k f) =
        absurd (omega (arith, h, k))
    one_content_result a b (ContentReadResult.content p u c x m h hu s i e) (ContentReadResult.block v y k lost f) =
        absurd (none_lost modules doubtful extent p v u c y lost hu)
    one_content_result a b (ContentReadResult.content p u c x m h hu s i e) (ContentReadResult.words q v d y k hv r f) =
        absurd (said_not_refused extent (first_data modules.size d) x y
        (moved (λ w. Says extent w x) p q u c v d hu hv s) r)
    one_content_result a b (ContentReadResult.content p u c x m h hu s i e)
        (ContentReadResult.content q v d y n k hv t j f) =
        let same = restored_is_one modules doubtful extent extent p q u c v d hu hv in
        let list = first_data modules.size d in
        let content : x ≡ y =
        said_is_one extent extent list x y (moved (λ w. Says extent w x) p q u c v d hu hv s) t in
        let number : m ≡ n = identifier_is_one list y m n
        (subst (λ l. IsIdentifier list l m) content (moved (λ w. IsIdentifier w x m) p q u c v d hu hv i)) j in
        e ∙ ap (λ w. read_as p w c x m) same.0 ∙ ap (λ w. read_as p v w x m) same.1
        ∙ ap (λ w. read_as w v d x m) same.2 ∙ ap (λ l. read_as q v d l m) content ∙ ap (read_as q v d y) number ∙ sym f

    -- A symbol has a result.
    pub some_content_result : IsSymbol modules
        → (result : Result ContentReadingView ContentReadFault) × ContentReadResult extent modules doubtful limit result
    some_content_result h =
        let faults = sure_fault_count modules doubtful in
        elim (cases_lt limit faults) [
          | inl more ↦ (Err (fault.Border faults), ContentReadResult.border more refl)
          | inr few ↦
              let held = some_held modules h in
              let words = held.0.list in
              elim (restored_or_lost extent modules doubtful words (held_by_modules modules held.0 held.1)) [
                | inr lost ↦ (Err (fault.Block lost.0), ContentReadResult.block words lost.0 few lost.1 refl)
                | inl r ↦
                    let list = first_data modules.size r.1 in
                    elim (one_content extent list (data_are_bytes modules.size r.1 r.2.by.of_size)) [
                      | inl one ↦
                          let said = said_wide extent list one.content one.says in
                          let number = identifier_is_there list one.content said in (
                            read_as r.0 words r.1 one.content number.0,
                            ContentReadResult.content r.0 words r.1 one.content number.0 few r.2 one.says number.1 refl,
                          )
                      | inr one ↦ (
                        Err (fault.Words one.why),
                        ContentReadResult.words r.0 words r.1 one.why few r.2 one.refused refl,
                      )
                    ]
              ]
        ]

    -- A result is a reading of a content that the symbol is read as, or it is a fault.
    pub content_or_fault : (result : Result ContentReadingView ContentReadFault)
        → ContentReadResult extent modules doubtful limit result
        → ((x : ContentView) × ReadsContent extent modules doubtful limit x)
        ⊎ ((why : ContentReadFault) × ContentReadResult extent modules doubtful limit (Err why))
    content_or_fault result (ContentReadResult.border h e) =
        inr (fault.Border (sure_fault_count modules doubtful), ContentReadResult.border h refl)
    content_or_fault result (ContentReadResult.block u x h lost e) =
        inr (fault.Block x, ContentReadResult.block u x h lost refl)
    content_or_fault result (ContentReadResult.words d u c why h hu r e) =
        inr (fault.Words why, ContentReadResult.words d u c why h hu r refl)
    content_or_fault result (ContentReadResult.content d u c x n h hu s i e) =
        inl (x, record { border = h; dealing = d; words = u; codewords = c; restored = hu; said = s })

    -- Where a symbol is read as a content, the result is a reading of it.
    pub content_by_result : (result : Result ContentReadingView ContentReadFault) (x : ContentView)
        → ContentReadResult extent modules doubtful limit result → ReadsContent extent modules doubtful limit x
        → IsReadAsContent result x
    content_by_result result x a r =
        let words = first_data modules.size r.codewords in
        let number = identifier_is_there words x (said_wide extent words x r.said) in
        let read = read_as r.dealing r.words r.codewords x number.0 in
        let same : read ≡ result = one_content_result read result
        (ContentReadResult.content r.dealing r.words r.codewords x number.0 r.border r.restored r.said number.1 refl) a
        in
        subst (λ c. IsReadAsContent c x) same refl

    -- Where the result is a reading of a content, the symbol is read as it.
    pub reads_content_by_result : (result : Result ContentReadingView ContentReadFault) (x : ContentView)
        → ContentReadResult extent modules doubtful limit result → IsReadAsContent result x
        → ReadsContent extent modules doubtful limit x
    reads_content_by_result result x (ContentReadResult.border h e) is = absurd (subst (λ r. IsReadAsContent r x) e is)
    reads_content_by_result result x (ContentReadResult.block u y h lost e) is =
        absurd (subst (λ r. IsReadAsContent r x) e is)
    reads_content_by_result result x (ContentReadResult.words d u c why h hu r e) is =
        absurd (subst (λ r. IsReadAsContent r x) e is)
    reads_content_by_result result x (ContentReadResult.content d u c y n h hu s i e) is = record {
      border = h;
      dealing = d;
      words = u;
      codewords = c;
      restored = hu;
      said = subst (Says extent (first_data modules.size c)) (subst (λ r. IsReadAsContent r x) e is) s;
    }

    -- A symbol that is read has no fault of reading.
    pub content_no_fault : (x : ContentView) (why : ContentReadFault) → ReadsContent extent modules doubtful limit x
        → ContentReadResult extent modules doubtful limit (Err why) → ⊥
    content_no_fault x why r a = content_by_result (Err why) x a r

-- ---- the two extents

-- What is read in the extent `Usual` is read in `Wide` with the same result.
pub wide_reads_the_usual_content : (modules : SymbolView) (doubtful : Option SymbolView) (limit : ℕ)
    (reading : ContentReadingView) → ContentReadResult Usual modules doubtful limit (Ok reading)
    → ContentReadResult Wide modules doubtful limit (Ok reading)
wide_reads_the_usual_content modules doubtful limit reading (ContentReadResult.border h e) = absurd cc
wide_reads_the_usual_content modules doubtful limit reading (ContentReadResult.block u x h lost e) = absurd cc
wide_reads_the_usual_content modules doubtful limit reading (ContentReadResult.words d u c why h hu r e) = absurd cc
wide_reads_the_usual_content modules doubtful limit reading (ContentReadResult.content d u c x n h hu s i e) =
    ContentReadResult.content d u c x n h (restored_wide modules doubtful Usual d u c hu)
    (said_wide Usual (first_data modules.size c) x s) i e
